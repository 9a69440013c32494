-- What each test of max_depth leads to. Assumes nothing.
use Rattle.std.specs.Prelude.{Ok, Err}
use mathlib.Core.Path.{◌≡◌, sym}
use mathlib.Core.Bool.{true}
use mathlib.Core.List.{List}
use Prim.Native.Nat.{ℕ, ◌<◌, ◌≤◌}
use native.Mathlib.Omega.{arith}
use lib.ListN.{length}
use borrow.Author.Tests.{lt-leb, le-leb}
use Rattle.scheme.specs.Refusals.{DEPTH}
use Rattle.scheme.specs.declared.Refusal.{Refusal}
use Rattle.scheme.specs.Res.{Res, mapped, refusal}
use Rattle.scheme.specs.Cells.{at}
use Rattle.scheme.specs.Memory.{sound, cell_at, cells_of}
use Rattle.scheme.specs.Depth.{depth_step, depth_of, depth}
use Rattle.scheme.specs.Calls.{lent, measuring}
use Rattle.laws.specs.Lent.{lent-cells}
use Rattle.depth.specs.Lent.{not-lent}
use Rattle.laws.specs.Folds.{value-cells}

module _ (n : ℕ) (t d : List ℕ) (i : ℕ) (s : List ℕ) where
  abbrev Said : Res ℕ
  Said = (measuring n t d i s).answer

  pub not_measured : (r : Refusal) → mapped (λ _. tt {0}) (lent 1 n t d i (length s)) ≡ Err r → Err r ≡ Said
  unfolding measuring
  not_measured r e = sym (not-lent (lent 1 n t d i (length s)) (λ s. depth s i) r e)

  module _ (e : sound n t d ≡ true) (h : i < n) (l : n ≤ length s) where
    measured : Said ≡ depth (cells_of n t d) i
    unfolding measuring
    measured = rw (lent-cells 1 n t d i (length s) e h (omega arith))

    -- the depth over the list of cells is that over the cells in memory
    same : depth_of (at (cells_of n t d)) i ≡ depth_of (cell_at t d) i
    same = value-cells depth_step 0 t d n i h

    pub too_deep : 65535 < depth_of (cell_at t d) i → Err (refusal DEPTH 0) ≡ Said
    unfolding depth
    too_deep p = rw (measured, same, lt-leb (depth_of (cell_at t d) i) 65535 p)

    pub levels : (x : ℕ) → x ≡ depth_of (cell_at t d) i → x ≤ 65535 → Ok x ≡ Said
    unfolding depth
    levels x q p = rw (measured, same, ← q, le-leb x 65535 p)
