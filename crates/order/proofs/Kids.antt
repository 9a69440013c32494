-- The references of the store's cells by number, as the table has them. Assumes nothing.
use mathlib.Core.Path.{◌≡◌, refl, sym, ap₂, ◌∙◌}
use mathlib.Core.Bool.{Bool, true, false, cond}
use mathlib.Core.List.Memᴰ
use mathlib.Core.List.{List, [], Memᴰ as Mem}
use Prim.Native.Nat.{ℕ, ◌+◌, ◌*◌, ◌<◌, ◌≤◌}
use native.Mathlib.Omega.{arith}
use lib.ListN.{length, get_or, get_or-eq_default}
use lib.Dec.{ltb}
use borrow.Author.Tests.{lt-ltb, ltb-true, ltb-false}
use Rattle.scheme.specs.Cells.{blank, at}
use Rattle.scheme.specs.Memory.{cells_of}
use Rattle.scheme.specs.Order.{order, kids_of, order_of}
use Rattle.laws.specs.Records.{refs_at, RecordOk, Linked, refs-length, refs-get, cell-refs, cells-length, cells_at_lem}
use Rattle.order.specs.Queue.{kids_at}
use Rattle.laws.specs.Lists.{mem-place}

pub refs-below : (t : List ℕ) (i c : ℕ) → RecordOk t i → Mem c (refs_at t i) → c < i
refs-below t i c ok m =
    let r = mem-place (refs_at t i) c m in
    let h : r.0 < get_or t (i * 7 + 2) 0 = rw (refs-length t i ok) at r.1 in
    let b = ok.back r.0 h in
    let e = sym (refs-get t i r.0 h) ∙ sym r.2 in
    omega arith

-- ---- the references by number

pub kids_refs : (t : List ℕ) (n i : ℕ) → i < n → kids_at t n i ≡ refs_at t i
unfolding kids_at
kids_refs t n i h = rw (lt-ltb i n h)

pub kids_below : (t : List ℕ) (n : ℕ) → Linked t n → (p c : ℕ) → Mem c (kids_at t n p) → c < p
unfolding kids_at
kids_below t n L p c m = go (ltb p n) refl m
  where
    go : (b : Bool) → ltb p n ≡ b → Mem c (cond b (refs_at t p) []) → c < p
    go true e m = refs-below t p c (L p (ltb-true p n e)) m
    go false e m = absurd (Memᴰ.not-nil m)

kids_cell : (t d : List ℕ) (n i : ℕ) → kids_of (cells_of n t d) i ≡ kids_at t n i
unfolding kids_at
kids_cell t d n i = go (ltb i n) refl
  where
    go : (b : Bool) → ltb i n ≡ b → (at (cells_of n t d) i).refs ≡ cond b (refs_at t i) []
    go true e = rw (cells_at_lem n t d i (ltb-true i n e)) (cell-refs t d i)
    go false e = let h : length (cells_of n t d) ≤ i = rw (cells-length n t d) (ltb-false i n e) in rw (get_or-eq_default (cells_of n t d) blank h)

-- the references of the store's cells are those of the table
pub kids_cells : (t d : List ℕ) (n : ℕ) → kids_of (cells_of n t d) ≡ kids_at t n
kids_cells t d n = λ i p. kids_cell t d n p i

-- the order of the store's cells is the table's
pub order_is : (t d : List ℕ) (n root : ℕ) → order_of (cells_of n t d) root ≡ order (kids_at t n) n root
unfolding order_of
order_is t d n root = ap₂ (λ (k : ℕ → List ℕ) (l : ℕ). order k l root) (kids_cells t d n) (cells-length n t d)
