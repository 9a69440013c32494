-- What the functions that other crates call promise leaves one answer. Assumes nothing.
use Rattle.std.specs.Prelude.{◌≡◌, ℕ, min, List, [], ◌∷◌}
use Rattle.std.specs.List.{FoldsTo}
use Rattle.std.proofs.Common.{sym, ◌∙◌}
use Rattle.scheme.specs.Res.{Res, mapped}
use Rattle.scheme.specs.Fold.{pick}
use Rattle.scheme.specs.Depth.{over}
use Rattle.scheme.specs.Calls.{lent}
use Rattle.laws.specs.OneAnswer.{one-content}
use Rattle.laws.specs.Records.{refs_at}

-- the lesser of two numbers
pub one-least : (a b r q : ℕ) → r ≡ min a b → q ≡ min a b → r ≡ q
one-least a b r q = one-content

-- of record i of the table t, with the numbers s
pub one-over-refs : (t s : List ℕ) (i cap r q : ℕ)
    → r ≡ min cap (over (pick 0 s (refs_at t i))) → q ≡ min cap (over (pick 0 s (refs_at t i))) → r ≡ q
one-over-refs t s i cap r q = one-content

-- where the step has one answer to two numbers (of `pass`, Pass has the like as one-turns)
pub one-folds : (step : ℕ → ℕ → ℕ → Type 0) → ((h x r q : ℕ) → step h x r → step h x q → r ≡ q)
    → (xs : List ℕ) (h r q : ℕ) → FoldsTo step h xs r → FoldsTo step h xs q → r ≡ q
one-folds step one [] h r q a b = sym a ∙ b
one-folds step one (x ∷ xs) h r q a b =
    let e : b.0 ≡ a.0 = one h x b.0 a.0 b.1 a.1 in
    one-folds step one xs a.0 r q a.2 (rw e at b.2)

-- of cell i of the n cells in t and d, with a scratch of k entries
pub one-check-lent : (n : ℕ) (t d : List ℕ) (i k : ℕ) (r q : Res (Unit {0}))
    → r ≡ mapped (λ _. tt) (lent 1 n t d i k) → q ≡ mapped (λ _. tt) (lent 1 n t d i k) → r ≡ q
one-check-lent n t d i k r q = one-content
