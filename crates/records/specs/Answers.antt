-- What reading and appending a record answer by the rules: NOCELL, FULL, or the value. Assumes nothing.
use Rattle.std.specs.Prelude.{ℕ, ◌<◌, ◌≡◌, refl, Bool, true, false, min, ltb, List, length, get_or, Ok}
use Rattle.std.proofs.Common.{arith, ltb-true}
use Rattle.scheme.specs.Res.{Res, then, check, refusal}
use Rattle.scheme.specs.Refusals.{NOCELL, FULL}
use Rattle.records.specs.declared.CellRecord.{CellRecord}
use Rattle.records.specs.Record.{blank}

-- the record r at number n, of which the first count are in use
abbrev pub read_of : ℕ → ℕ → CellRecord → Res CellRecord
read_of n count r = then (check (ltb n count) (refusal NOCELL 0)) λ _. Ok r

-- a record at number count, stored or not
abbrev pub added_of : Bool → ℕ → Res ℕ
added_of stored count = then (check stored (refusal FULL 0)) λ _. Ok count

-- a record that is read is held: it is below the count, and the table has it
pub read_held : (ys : List CellRecord) (n count : ℕ) (r : CellRecord) → Ok r ≡ read_of n (min count (length ys)) (get_or ys n blank)
    → (n < count) × (n < length ys) × (r ≡ get_or ys n blank)
read_held ys n count r = go (ltb n (min count (length ys))) refl
  where
    go : (b : Bool) → ltb n (min count (length ys)) ≡ b → ◌≡◌ {A = Res CellRecord} (Ok r) (then (check b (refusal NOCELL 0)) λ _. Ok (get_or ys n blank))
        → (n < count) × (n < length ys) × (r ≡ get_or ys n blank)
    go true t e =
        let h : n < min count (length ys) = ltb-true n (min count (length ys)) t in
        let q : r ≡ get_or ys n blank = cc in
        (omega arith, omega arith, q)
    go false t e = let z : ◌≡◌ {A = ℕ} 0 1 = cc in absurd (omega arith)

-- an append that answers a number is one the table had room for, and the number is the count
pub added-held : (ys : List CellRecord) (count n : ℕ) → Ok n ≡ added_of (ltb count (length ys)) count → (count < length ys) × (n ≡ count)
added-held ys count n = go (ltb count (length ys)) refl
  where
    go : (b : Bool) → ltb count (length ys) ≡ b → ◌≡◌ {A = Res ℕ} (Ok n) (then (check b (refusal FULL 0)) λ _. Ok count) → (count < length ys) × (n ≡ count)
    go true t e = let q : n ≡ count = cc in (ltb-true count (length ys) t, q)
    go false t e = let z : ◌≡◌ {A = ℕ} 0 1 = cc in absurd (omega arith)
