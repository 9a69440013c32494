-- Each test's way through the rule of a pruned branch, and the rule in a step of the pass. Assumes nothing.
use mathlib.Core.Path.{◌≡◌, refl, sym, ◌∙◌}
use mathlib.Core.Bool.{Bool, true, false, cond}
use mathlib.Core.List.{List, map}
use Prim.Native.Nat.{ℕ, ◌+◌, ◌*◌, ◌/◌, ◌<◌, ◌≤◌, min}
use native.Mathlib.Nat.{add-zero, add_assoc}
use native.Mathlib.Omega.{arith}
use lib.ListN.{length, get_or, length-take, length-drop}
use lib.Seq.{get_or-take, get_or-drop}
use lib.Count.{ones}
use borrow.Author.Tests.{le-leb, lt-leb, eq-eqb, ne_eqb}
use Rattle.scheme.specs.Cells.{Cell}
use Rattle.scheme.specs.Memory.{cell_at}
use Rattle.scheme.specs.Depth.{over, is_pruned, pruned_depth, depth_step}
use Rattle.laws.specs.Records.{CellOk}
use Rattle.laws.specs.Passes.{Caps, over-cut}
use Rattle.std.specs.Prelude.{Some, None}
use Rattle.depth.specs.Pruned.{pruned_of}

-- of record i: x is the flag, b the number of data bytes
module _ (t d : List ℕ) (i x b : ℕ) (ok : CellOk t d i) (ex : x ≡ get_or t (i * 7) 0) (eb : b ≡ (get_or t (i * 7 + 1) 0 + 7) / 8) where
  abbrev c : Cell
  c = cell_at t d i

  flag : c.exotic ≡ x
  unfolding cell_at
  flag = sym ex

  many : length c.bytes ≡ b
  unfolding cell_at
  many = simp (length-take, length-drop) (omega (arith, ok.bytes, ok.ok.bits))

  byte : (k : ℕ) → k < b → get_or c.bytes k 0 ≡ get_or d (i * 128 + k) 0
  unfolding cell_at
  byte k h =
      let l : k < (get_or t (i * 7 + 1) 0 + 7) / 8 = omega arith in
      rw (get_or-take, get_or-drop)

  pub not-exotic : (x ≡ 1 → ⊥) → pruned_of c ≡ None
  unfolding is_pruned
  not-exotic p = rw (flag, ne_eqb x 1 p)

  module _ (p : x ≡ 1) where
    pub not-long : b < 36 → pruned_of c ≡ None
    unfolding is_pruned
    not-long q = rw (flag, eq-eqb x 1 p, many, lt-leb 36 b q)

    module _ (q : 36 ≤ b) where
      first : get_or c.bytes 0 0 ≡ get_or d (i * 128) 0
      first = byte 0 (omega arith) ∙ rw add-zero

      pub not_first : (get_or d (i * 128) 0 ≡ 1 → ⊥) → pruned_of c ≡ None
      unfolding is_pruned
      not_first r = rw (flag, eq-eqb x 1 p, many, le-leb 36 b q, first, ne_eqb (get_or d (i * 128) 0) 1 r)

      module _ (r : get_or d (i * 128) 0 ≡ 1) where
        abbrev n : ℕ
        n = ones (get_or d (i * 128 + 1) 0)

        pub not-whole : (b ≡ 2 + 34 * n → ⊥) → pruned_of c ≡ None
        unfolding is_pruned
        not-whole s = rw (flag, eq-eqb x 1 p, many, le-leb 36 b q, first, eq-eqb (get_or d (i * 128) 0) 1 r, byte 1 (omega arith), ne_eqb b (2 + 34 * n) s)

        pub is_pruned_lem : b ≡ 2 + 34 * n → pruned_of c ≡ Some (get_or d (i * 128 + (2 + 32 * n)) 0 * 256 + get_or d (i * 128 + (2 + 32 * n) + 1) 0)
        unfolding is_pruned pruned_depth
        is_pruned_lem s =
            rw (
              flag,
              eq-eqb x 1 p,
              many,
              le-leb 36 b q,
              first,
              eq-eqb (get_or d (i * 128) 0) 1 r,
              byte 1 (omega arith),
              eq-eqb b (2 + 34 * n) s,
              byte (2 + 32 * n) (omega arith),
              byte (2 + 32 * n + 1) (omega arith),
              ← add_assoc (i * 128) (2 + 32 * n) 1,
            )

-- ---- a step

pub step_is : (c : Cell) (x : ℕ) (vs : List ℕ) → pruned_of c ≡ Some x → depth_step c vs ≡ x
unfolding depth_step
step_is c x vs e = go (is_pruned c) e
  where
    go : (b : Bool) → cond b (Some (pruned_depth c)) None ≡ Some x → cond b (pruned_depth c) (over vs) ≡ x
    go true e = cc
    go false e = cc

pub step-not : (c : Cell) (vs : List ℕ) → pruned_of c ≡ None → depth_step c vs ≡ over vs
unfolding depth_step
step-not c vs e = go (is_pruned c) e
  where
    go : (b : Bool) → cond b (Some (pruned_depth c)) None ≡ None → cond b (pruned_depth c) (over vs) ≡ over vs
    go true e = cc
    go false e = refl

-- the step may cut the depths that it is given before it cuts its own
pub caps-depth : (m : ℕ) → Caps m depth_step
unfolding depth_step
caps-depth m c vs = go (is_pruned c)
  where
    go : (b : Bool) → min m (cond b (pruned_depth c) (over (map (min m) vs))) ≡ min m (cond b (pruned_depth c) (over vs))
    go true = refl
    go false = over-cut m vs
