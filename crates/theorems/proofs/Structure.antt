-- The cells printed are those of the unfolded structure. The words are in specs/Structure.
-- Assumes nothing.
use Rattle.std.specs.Prelude.{◌≡◌, refl, ℕ, ◌+◌, ◌<◌, length}
use Rattle.std.proofs.Common.{ap, ◌∙◌}
use mathlib.Core.List.{List}
use Rattle.scheme.specs.Cells.{Cell, Tree, Forest, node, none, more, at, tree}
use Rattle.scheme.specs.Text.{sum, size_step, tree_size}
use Rattle.laws.specs.Unique.{Low}
use Rattle.theorems.specs.Structure.{fold_tree, fold_forest, value-is-fold, plain_size, cells_in, cells_all}

mutual
  unfolding sum

  fold-size : (t : Tree) → fold_tree size_step t ≡ cells_in t
  fold-size (node exotic len bytes kids) = ap (λ (n : ℕ). 1 + n) (fold-sizes kids)

  fold-sizes : (ts : Forest) → sum (fold_forest size_step ts) ≡ cells_all ts
  fold-sizes none = refl
  fold-sizes (more t ts) = rw (fold-size t, fold-sizes ts)

-- The cells printed are those of the unfolded structure, shared ones counted each time.
pub printed-is-size : (s : List Cell) → Low s → (i : ℕ) → i < length s → tree_size (at s) i ≡ cells_in (tree s i)
printed-is-size s S i h = value-is-fold size_step 0 plain_size s S i h ∙ fold-size (tree s i)
