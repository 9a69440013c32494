-- Demand 3 (docs/DEMANDS.md), of what is written and read back: from what `serialize` and the readers promise, and `tapunerow_write` and
-- `tapunerow_read`. Assumes nothing.
use Rattle.std.specs.Prelude.{◌≡◌, refl, ℕ, ◌*◌, ◌≤◌, Bool, not, List, [], ◌∷◌, length, take, eqb, Ok, Err}
use Rattle.std.proofs.Common.{sym, ap, ◌∙◌}
use Rattle.scheme.specs.Res.{Res, mapped}
use Rattle.scheme.specs.Calls.{ReadOut, reading, writing}
use Rattle.laws.specs.OneAnswer.{one_answer}
use Rattle.laws.specs.Answers.{mapped-apart}
use Rattle.reader.specs.Paper.{totals_of, totals_inj}
use Rattle.tapunerow.specs.Accepted.{zero-accepted}
use Rattle.tapunerow.specs.Answers.{number_of, entries_of, single, counts}
use Rattle.tapunerow.specs.Promises.{WireWrites}
use Rattle.theorems.specs.Writing.{Writes}
use Rattle.theorems.specs.Histories.{Memory, cells, found, Demand3}
use Rattle.promises.specs.Leads.{parts}
use Rattle.promises.specs.Steps.{Ran}
use Rattle.promises.proofs.Steps.{ran_demand_3}
use Rattle.promises.specs.Back.{listed, all_found, Leaves, WrittenBack}

-- a write whose number is 0 and whose answer is len
taken : (x : Res ℕ) (len : ℕ) → ((r : _) → x ≡ Err r → ⊥) → len ∷ [] ≡ entries_of 0 single x → x ≡ Ok len
taken (Err r) len h e = absurd (h r refl)
taken (Ok n) len h e = let q : len ≡ n = cc in ap Ok (sym q)

module _ (m : Memory) (D : Demand3 m) (root : ℕ) where
  -- the read that follows a write, by the outcome of the definitions
  read_is : (idx crc whole : Bool) (s out : List ℕ) (len : ℕ) (o u rs : List ℕ)
      → (writing idx crc m.count m.table m.bytes root s out).answer ≡ Ok len → o ≡ (writing idx crc m.count m.table m.bytes root s out).out
      → 2 * listed m root ≤ length u → 1 ≤ length rs
      → reading whole m.count m.table m.bytes u rs (take len o) ≡ found m len (listed m root) root u rs
  read_is idx crc whole s out len o u rs e q h g = rw q (D.back root idx crc s out len e whole u rs h g)

  bag-is : (idx crc : Bool) (s out : List ℕ) (len : ℕ) (o : List ℕ)
      → (writing idx crc m.count m.table m.bytes root s out).answer ≡ Ok len → o ≡ (writing idx crc m.count m.table m.bytes root s out).out
      → Writes idx crc (cells m) root (take len o)
  bag-is idx crc s out len o e q = rw q (D.bag root idx crc s out len e)

  -- what a read that answers `found` leaves
  leaves : (m' : Memory) (len : ℕ) (u rs u' rs' : List ℕ) (x : ReadOut) → x ≡ found m len (listed m root) root u rs
      → m'.count ≡ x.count → m'.table ≡ x.table → m'.bytes ≡ x.bytes → u' ≡ x.scratch → rs' ≡ x.roots
      → Leaves m m' root u rs u' rs'
  leaves m' len u rs u' rs' x e p₁ p₂ p₃ p₄ p₅ = record {
    store = sym (parts (p₁ ∙ ap (λ (y : ReadOut). y.count) e) (p₂ ∙ ap (λ (y : ReadOut). y.table) e) (p₃ ∙ ap (λ (y : ReadOut). y.bytes) e));
    scratch = p₄ ∙ ap (λ (y : ReadOut). y.scratch) e;
    roots = p₅ ∙ ap (λ (y : ReadOut). y.roots) e;
  }

  wire_answer : (idx crc : ℕ) (s out : List ℕ) (len : ℕ) (s' o : List ℕ) → WireWrites idx crc m.count m.table m.bytes root s out 0 s' o (len ∷ [])
      → (writing (not (eqb idx 0)) (not (eqb crc 0)) m.count m.table m.bytes root s out).answer ≡ Ok len
  wire_answer idx crc s out len s' o p =
      let x = (writing (not (eqb idx 0)) (not (eqb crc 0)) m.count m.table m.bytes root s out).answer in
      taken x len (zero-accepted x (sym p.number)) p.entries

  written_back : WrittenBack m root
  written_back = record {
    bag = λ args s out len s' o p. bag-is args.has_idx args.has_crc32c s out len o (sym p.answer) p.out;
    back = λ args s out len s' o p whole u rs h g a m' u' rs' q.
        let e = read_is args.has_idx args.has_crc32c whole s out len o u rs (sym p.answer) p.out h g in (
          one_answer (mapped totals_of) (mapped-apart totals_of totals_inj) a (Ok (all_found m root len)) (q.answer ∙ ap (λ (y : ReadOut). y.answer) e) refl,
          leaves m' len u rs u' rs' _ e q.count q.table q.bytes q.scratch q.roots,
        );
    wire_bag = λ idx crc s out len s' o p. bag-is (not (eqb idx 0)) (not (eqb crc 0)) s out len o (wire_answer idx crc s out len s' o p) p.out;
    wire_back = λ idx crc s out len s' o p whole u rs h g number a m' u' rs' q.
        let e = read_is (not (eqb idx 0)) (not (eqb crc 0)) (not (eqb whole 0)) s out len o u rs (wire_answer idx crc s out len s' o p) p.out h g in (
          q.number ∙ ap (λ (y : ReadOut). number_of y.answer) e,
          q.entries ∙ ap (λ (y : ReadOut). entries_of 3 counts y.answer) e,
          leaves m' len u rs u' rs' _ e q.count q.table q.bytes q.scratch q.roots,
        );
  }

-- demand 3, of all memory that the code leaves: what is written of a cell reads back as that cell
pub ran-written-back : (m : Memory) → Ran m → (root : ℕ) → WrittenBack m root
ran-written-back m h root = written_back m (ran_demand_3 m h) root
