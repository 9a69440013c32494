-- `depth::over_refs` meets its contract. Assumes nothing.
use Rattle.std.proofs.Common.{rules}
use Prim.Native.Nat.{ℕ, ◌+◌, ◌≤◌, ◌<◌, min, max}
use mathlib.Core.Path.{◌≡◌, ◌∙◌}
use mathlib.Core.List.{List, [], ◌∷◌}
use native.Mathlib.Omega.{arith}
use Rattle.std.specs.List.{FoldsTo}
use Rattle.std.specs.Ordering.{ord_max, nat_cmp}
use Rattle.std.proofs.lemmas.Bool.Decides.{nat_tests}
use Rattle.scheme.specs.Depth.{over}
use Rattle.depth.proofs.over_refs.Goals as goal

max_is : (a b r : ℕ) → r ≡ ord_max nat_cmp a b → r ≡ max a b
max_is a b r e = grind (arith, nat_tests)

-- the steps from h on, each cut
steps : (step : ℕ → ℕ → ℕ → Type 0) (m h : ℕ) (xs : List ℕ) (r : ℕ) → m < 4294967296 → h ≤ m
    → ((h x r : ℕ) → step h x r → r ≡ ord_max nat_cmp h (min (min (x + 1) 4294967295) m)) → FoldsTo step h xs r → r ≡ min m (max h (over xs))
unfolding over
steps step m h [] r k l p f = omega arith
steps step m h (x ∷ xs) r k l p f =
    let e = max_is h (min (min (x + 1) 4294967295) m) f.0 (p h x f.0 f.1) in
    let q = steps step m f.0 xs r k (omega arith) p f.2 in
    omega arith

pub returns : goal.returns
returns c = steps _ c.args.cap 0 _ _ (omega arith) (omega arith) (λ h x r p. search rules) c.fold_refs.ensures ∙ omega arith
