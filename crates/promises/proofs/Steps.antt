-- Demand 3 (docs/DEMANDS.md), of the code: whatever public calls follow one another, what their functions promise makes each a step of a history, and so
-- demand 3 holds of the memory that they leave. Assumes nothing.
use Rattle.std.specs.Prelude.{◌≡◌, refl, ℕ, not, List, length, eqb, Ok, Err}
use Rattle.std.proofs.Common.{sym, subst, arith}
use Rattle.scheme.specs.Res.{Res}
use Rattle.scheme.specs.Calls.{clearing}
use Rattle.builder.specs.Paper.{builder_of}
use Rattle.add_many.specs.Many.{cells_in}
use Rattle.tapunerow.specs.Accepted.{zero-accepted}
use Rattle.tapunerow.specs.Answers.{number_of}
use Rattle.theorems.specs.Histories.{Memory, after, Reached, cleared, Demand3}
use Rattle.theorems.proofs.Histories.{demand_3}
use Rattle.theorems.specs.Histories as call
use Rattle.promises.specs.Types.{wire_typed, batch_typed}
use Rattle.promises.specs.Leads.{Leads, leads-reached, parts, ends, one-call, many-leads, report-leads, report-starts, offer_leads}
use Rattle.promises.specs.Steps.{Step, clear, add, add-many, read, report, tapunerow_clear, tapunerow_add, tapunerow_read, clear-done, tapunerow_clear_0, report-cleared, Ran, starts, steps}

-- each is calls of a history
leads : (m m' : Memory) → Step m m' → Leads m m'
leads m m' (clear r p) = ends (one-call m call.clear tt) p.count p.table p.bytes
leads m m' (add c r t p) = ends (one-call m (call.add-cell (builder_of c)) t) p.count p.table p.bytes
leads m m' (add-many hs ds xs r xs' S p) =
    let k = cells_in (length hs) (length ds) (length xs) in
    ends (many-leads hs ds k 0 m.count m.table m.bytes xs (λ j l h. batch_typed hs ds (length xs) j S (omega (arith, h)))) p.count p.table p.bytes
leads m m' (read whole s rs reply r s' rs' S p) = ends (one-call m (call.read-bag whole s rs reply) S) p.count p.table p.bytes
leads m m' (report s rs o reply r s' rs' o' S p) = ends (report-leads m s rs o reply S) p.count p.table p.bytes
leads m m' (tapunerow_clear r a p) = ends (one-call m call.clear tt) p.count p.table p.bytes
leads m m' (tapunerow_add flag bits own refs r a S p) =
    ends (offer_leads m flag bits own refs (wire_typed flag bits own refs S)) p.count p.table p.bytes
leads m m' (tapunerow_read whole s rs reply r s' rs' a S p) =
    ends (one-call m (call.read-bag (not (eqb whole 0)) s rs reply) S) p.count p.table p.bytes

accepted : (n : ℕ) (t d : List ℕ) → number_of (clearing n t d).answer ≡ 0 → (clearing n t d).answer ≡ Ok tt
accepted n t d z = go (clearing n t d).answer refl
  where
    go : (x : Res (Unit {0})) → (clearing n t d).answer ≡ x → x ≡ Ok tt
    go (Err r) e = absurd (zero-accepted (clearing n t d).answer z r e)
    go (Ok tt) e = refl

ran-reached : (m : Memory) → Ran m → Reached after m
ran-reached m' (starts m _ (clear-done p)) = subst (Reached after) (parts p.count p.table p.bytes) (cleared m (sym p.answer))
ran-reached m' (starts m _ (tapunerow_clear_0 a p)) =
    subst (Reached after) (parts p.count p.table p.bytes) (cleared m (accepted m.count m.table m.bytes (sym p.number)))
ran-reached m' (starts m _ (report-cleared s rs o reply r s' rs' o' S e h p)) =
    subst (Reached after) (parts p.count p.table p.bytes) (report-starts m s rs o reply S e h)
ran-reached m' (steps m _ h s) = leads-reached m m' (leads m m' s) (ran-reached m h)

-- demand 3, of all memory that the code leaves
pub ran_demand_3 : (m : Memory) → Ran m → Demand3 m
ran_demand_3 m h = demand_3 m (ran-reached m h)
