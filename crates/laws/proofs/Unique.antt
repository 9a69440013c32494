-- The theorems of specs/Unique that rest on the others.
-- Assumes nothing.
use Rattle.std.specs.Prelude.{◌≡◌, ◌⊎◌, ℕ, ◌<◌, length}
use Rattle.std.proofs.Common.{inl, inr}
use mathlib.Core.List.{List}
use Rattle.scheme.specs.Cells.{Cell, tree, find, insert}
use Rattle.laws.specs.Unique.{insert-old, insert-new, find_cases, Below, Sound, sound-append, unfolded_inj}

pub sound-insert : (s : List Cell) (c : Cell) → Sound s → Below (length s) c.refs → Sound (insert s c)
sound-insert s c S B = go (find_cases s c)
  where
    go : (find s c < length s) ⊎ (find s c ≡ length s) → Sound (insert s c)
    go (inl h) = rw (insert-old s c h) S
    go (inr e) = rw (insert-new s c e) (sound-append s c S e B)

-- two numbers are equal exactly when the two cells unfold to the same structure
pub unique : (s : List Cell) → Sound s → (i j : ℕ) → i < length s → j < length s → tree s i ≡ tree s j → i ≡ j
unique s S i j hi hj e = unfolded_inj s S (length s) i j hi hj hi hj e
