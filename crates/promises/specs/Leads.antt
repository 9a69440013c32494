-- Each outcome of a public call as calls of a history, made in turn: none, one, or several. Assumes nothing.
use Rattle.std.specs.Prelude.{◌≡◌, refl, ℕ, zero, suc, ◌+◌, ◌*◌, ◌≤◌, ◌<◌, Bool, true, false, cond, List, [], ◌∷◌, length, set, leb, Ok, Err}
use Rattle.std.proofs.Common.{sym, ◌∙◌, arith, le-leb}
use Rattle.scheme.specs.Refusals.{CUT}
use Rattle.scheme.specs.Res.{Res, check, refusal}
use Rattle.scheme.specs.Memory.{sized}
use Rattle.scheme.specs.Calls.{clearing, adding}
use Rattle.scheme.specs.Program.{ReportOut, max_input, reporting}
use Rattle.laws.specs.Accept.{Small}
use Rattle.laws.specs.Add.{Typed}
use Rattle.add_many.specs.Many.{ManyOut, builder_at, after_one, many}
use Rattle.wire.specs.Wire.{wire_cell}
use Rattle.tapunerow.specs.Outcomes.{unless, offering}
use Rattle.theorems.specs.Histories.{Memory, Call, clear, add-cell, read-bag, left, after, TypedCall, Reached, cleared, called}

abbrev pub memory : ℕ → List ℕ → List ℕ → Memory
memory n t d = record { count = n; table = t; bytes = d }

-- the memory after calls made in turn
abbrev pub run : Memory → List Call → Memory
run m [] = m
run m (c ∷ cs) = run (after m c) cs

abbrev pub TypedCalls : List Call → Type 0
TypedCalls [] = Unit {0}
TypedCalls (c ∷ cs) = TypedCall c × TypedCalls cs

-- m' is the memory after calls made in turn from m on
pub record Leads (m m' : Memory) : Type 0 where
  pub calls : List Call
  pub typed : TypedCalls calls
  pub to : run m calls ≡ m'

-- what such calls leave is reached if what they start from is
pub leads-reached : (m m' : Memory) → Leads m m' → Reached after m → Reached after m'
leads-reached m m' L r = rw (← L.to) (go m L.calls L.typed r)
  where
    go : (m : Memory) (cs : List Call) → TypedCalls cs → Reached after m → Reached after (run m cs)
    go m [] t r = r
    go m (c ∷ cs) t r = go (after m c) cs t.1 (called m c r t.0)

-- memory whose parts are equal
pub parts : {x m' : Memory} → m'.count ≡ x.count → m'.table ≡ x.table → m'.bytes ≡ x.bytes → x ≡ m'
parts p q r = λ i. record { count = sym p i; table = sym q i; bytes = sym r i }

pub ends : {m x m' : Memory} → Leads m x → m'.count ≡ x.count → m'.table ≡ x.table → m'.bytes ≡ x.bytes → Leads m m'
ends L p q r = record { calls = L.calls; typed = L.typed; to = L.to ∙ parts p q r }

pub one-call : (m : Memory) (c : Call) → TypedCall c → Leads m (after m c)
one-call m c t = record { calls = c ∷ []; typed = (t, tt); to = refl }

-- ---- add_many: an add for each cell, up to the first that is refused

abbrev pub left_many : ManyOut → Memory
left_many o = record { count = o.count; table = o.table; bytes = o.bytes }

-- the add of the first cell, which came to o, and what follows it
after_one_lem : (hs ds : List ℕ) (i n : ℕ) (t d xs : List ℕ) (rest : ℕ → ManyOut) → Typed (builder_at hs ds i)
    → let o = adding n t d (builder_at hs ds i) in
    (x : Res ℕ) → ((m : ℕ) → Leads (memory o.count o.table o.bytes) (left_many (rest m))) → Leads (memory n t d) (left_many (after_one i o xs rest x))
after_one_lem hs ds i n t d xs rest T (Err r) f = one-call (memory n t d) (add-cell (builder_at hs ds i)) T
after_one_lem hs ds i n t d xs rest T (Ok m) f = record { calls = add-cell (builder_at hs ds i) ∷ (f m).calls; typed = (T, (f m).typed); to = (f m).to }

pub many-leads : (hs ds : List ℕ) (k i n : ℕ) (t d xs : List ℕ) → ((j : ℕ) → i ≤ j → j < i + k → Typed (builder_at hs ds j))
    → Leads (memory n t d) (left_many (many hs ds k i n t d xs))
unfolding many
many-leads hs ds zero i n t d xs T = record { calls = []; typed = tt; to = refl }
many-leads hs ds (suc k) i n t d xs T =
    let o = adding n t d (builder_at hs ds i) in
    after_one_lem hs ds i n t d xs _ (T i (omega arith) (omega arith)) o.answer
    (λ m. many-leads hs ds k (suc i) o.count o.table o.bytes (set xs i m) (λ j h g. T j (omega arith) (omega arith)))

-- ---- report: a clearing and a whole reading, or nothing for a reply that is too long

abbrev pub left_report : ReportOut → Memory
left_report o = record { count = o.count; table = o.table; bytes = o.bytes }

clearing-accepted : (n : ℕ) (t d : List ℕ) → sized t d ≡ true → (clearing n t d).answer ≡ Ok tt
unfolding clearing
clearing-accepted n t d e = rw e

-- one of two memories
either : (b : Bool) (m : Memory) (x y : ReportOut) → Leads m (left_report x) → Leads m (left_report y) → Leads m (left_report (cond b x y))
either true m x y h g = h
either false m x y h g = g

pub report-leads : (m : Memory) (scratch roots out reply : List ℕ) → Small reply
    → Leads m (left_report (reporting m.count m.table m.bytes scratch roots out reply))
unfolding reporting
report-leads m scratch roots out reply S =
    either (leb (length reply) max_input) m _ _
    (record { calls = clear ∷ read-bag true scratch roots reply ∷ []; typed = (tt, (S, tt)); to = refl })
    (record { calls = []; typed = tt; to = refl })

-- of memory that has a store's lengths it is a clearing that is accepted, and so a start, unless the reply is too long
pub report-starts : (m : Memory) (scratch roots out reply : List ℕ) → Small reply → sized m.table m.bytes ≡ true → length reply ≤ max_input
    → Reached after (left_report (reporting m.count m.table m.bytes scratch roots out reply))
unfolding reporting
report-starts m scratch roots out reply S e h =
    rw (le-leb (length reply) max_input h) (called (after m clear) (read-bag true scratch roots reply) (cleared m (clearing-accepted m.count m.table m.bytes e)) S)

-- ---- tapunerow_add: an add, or nothing where the data is too short

pub offer_leads : (m : Memory) (flag bits : ℕ) (own refs : List ℕ) → Typed (wire_cell flag bits own refs)
    → Leads m (left (offering m.count m.table m.bytes flag bits own refs))
unfolding offering
offer_leads m flag bits own refs T = go (leb bits (8 * length own))
  where
    go : (b : Bool)
        → Leads m (left (unless m.count m.table m.bytes (check b (refusal CUT 0)) (adding m.count m.table m.bytes (wire_cell flag bits own refs))))
    go true = one-call m (add-cell (wire_cell flag bits own refs)) T
    go false = record { calls = []; typed = tt; to = refl }
