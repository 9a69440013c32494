-- What an add that is not refused says: the theorem over specs/Add.
-- Assumes nothing.
use Rattle.std.specs.Prelude.{◌≡◌, ℕ, suc, ◌<◌, length, take, leb, ltb, Ok}
use Rattle.std.proofs.Common.{leb-true, ltb-true}
use mathlib.Core.List.Memᴰ.{head as here}
use mathlib.Core.List.Memᴰ.{tail as there}
use mathlib.Core.List.{List, [], ◌∷◌, Memᴰ as Mem}
use Rattle.scheme.specs.Refusals.{REFS, FULL, NOCELL, BITS}
use Rattle.scheme.specs.Cells.{Cell, insert}
use Rattle.scheme.specs.Res.{refusal, check}
use Rattle.scheme.specs.Builder.{Builder, cell_in}
use Rattle.scheme.specs.Add.{refs_held, Added, add}
use Rattle.laws.specs.Unique.{Below}
use Rattle.laws.specs.Accept.{then_use, check_inv}
use Rattle.laws.specs.Add.{Typed, fit-in, Taken}

held-inv : (k n : ℕ) (rs : List ℕ) (u : Unit {0}) → refs_held k n rs ≡ Ok u → Below n rs
held-inv k n [] u e r m = elim m [ ]
held-inv k n (y ∷ ys) u e r m =
    then_use (check (ltb y n) (refusal NOCELL k)) _ _ e λ u₁ x₁ e₁.
    go (ltb-true y n (check_inv (ltb y n) (refusal NOCELL k) u₁ x₁)) (held-inv (suc k) n ys u e₁) m
  where
    go : y < n → Below n ys → Mem r (y ∷ ys) → r < n
    go h ih (here q) = rw q h
    go h ih (there m) = ih r m

pub add-inv : (cap : ℕ) (s : List Cell) (b : Builder) (a : Added) → Typed b → add cap s b ≡ Ok a → Taken cap s a
unfolding add
add-inv cap s b a T e =
    then_use (check (leb b.len 1023) (refusal BITS 0)) _ _ e λ u₁ x₁ e₁.
    then_use (check (leb b.count 4) (refusal REFS 0)) _ _ e₁ λ u₂ x₂ e₂.
    then_use (refs_held 0 (length s) (take b.count b.refs)) _ _ e₂ λ u₃ x₃ e₃.
    then_use (check (leb (length (insert s (cell_in b))) cap) (refusal FULL 0)) _ _ e₃ λ u₄ x₄ e₄.
    record {
      cell = cell_in b;
      fit = fit-in b T (leb-true b.len 1023 (check_inv (leb b.len 1023) (refusal BITS 0) u₁ x₁)) (leb-true b.count 4 (check_inv (leb b.count 4) (refusal REFS 0) u₂ x₂));
      below = held-inv 0 (length s) (take b.count b.refs) u₃ x₃;
      free = leb-true (length (insert s (cell_in b))) cap (check_inv (leb (length (insert s (cell_in b))) cap) (refusal FULL 0) u₄ x₄);
      number_is = cc;
      store_is = cc;
    }
