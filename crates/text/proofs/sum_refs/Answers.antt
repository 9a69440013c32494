-- `text::sum_refs` meets its contract. Assumes nothing.
use Rattle.std.proofs.Common.{rules}
use Prim.Native.Nat.{ℕ, ◌+◌, ◌≤◌, ◌<◌, min}
use mathlib.Core.Path.{◌≡◌}
use mathlib.Core.List.{List, [], ◌∷◌}
use native.Mathlib.Omega.{arith}
use Rattle.std.specs.List.{FoldsTo}
use Rattle.scheme.specs.Text.{sum}
use Rattle.text.proofs.sum_refs.Goals as goal

-- the steps from h on, each cut
steps : (step : ℕ → ℕ → ℕ → Type 0) (m h : ℕ) (xs : List ℕ) (r : ℕ) → m < 4294967296 → h ≤ m
    → ((h x r : ℕ) → step h x r → r ≡ min (min (h + x) 4294967295) m) → FoldsTo step h xs r → r ≡ min m (h + sum xs)
unfolding sum
steps step m h [] r k l p f = omega arith
steps step m h (x ∷ xs) r k l p f =
    let e = p h x f.0 f.1 in
    let q = steps step m f.0 xs r k (omega arith) p f.2 in
    omega arith

pub returns : goal.returns
returns c =
    let e = steps _ c.args.cap c.min.result _ _ (omega arith) (omega arith) (λ h x r p. search rules) c.fold_refs.ensures in
    omega arith
