-- A walk over the cells listed, and bytes written piece by piece. Assumes nothing.
use mathlib.Core.Path.{◌≡◌, refl, sym, ◌∙◌}
use mathlib.Core.List.{List, [], ◌∷◌, ◌++◌, Memᴰ as Mem}
use Prim.Native.Nat.{ℕ, ◌+◌, ◌*◌, ◌<◌, ◌≤◌}
use native.Mathlib.Nat.{add-zero, add_assoc}
use native.Mathlib.Omega.{arith}
use lib.ListN.{length, drop, get_or, length-append}
use lib.Seq.{slice, slice_empty, length-slice}
use Rattle.scheme.specs.Bytes.{be}
use Rattle.scheme.specs.Write.{all_be, cell_bytes, all_bytes, entry}
use Rattle.laws.specs.Fields.{length-be}
use Rattle.laws.specs.Puts.{puts, puts-on, puts-nil, puts-length}
use Rattle.laws.specs.Records.{refs_at, RecordOk, refs-cons, refs_end}
use Rattle.laws.specs.Slices.{slice_get, slice_front, mem-get}
use Rattle.writer.specs.Bytes.{cell_size, sizes, index_of, places_of, placed_cell, placed_cells}

-- ---- a piece is written, and the rest stands behind it

pub record Next (X : List ℕ) (E : ℕ) (o : List ℕ) (to : ℕ) (rest : List ℕ) : Type 0 where
  pub left : puts o to rest ≡ X
  pub end : to + length rest ≡ E
  pub fits : E ≤ length o

pub next_start : (o : List ℕ) (at : ℕ) (vs : List ℕ) → at + length vs ≤ length o → Next (puts o at vs) (at + length vs) o at vs
next_start o at vs h = record { left = refl; end = refl; fits = h }

module _ {X : List ℕ} {E : ℕ} (o : List ℕ) (to : ℕ) (piece rest : List ℕ) (N : Next X E o to (piece ++ rest)) where
  pub next-room : to + length piece ≤ length o
  next-room = omega (arith, N.end, N.fits, length-append piece rest)

  pub next-turn : (o' : List ℕ) (to' : ℕ) → o' ≡ puts o to piece → to' ≡ to + length piece → Next X E o' to' rest
  next-turn o' to' e q = record { left = puts-on o o' to to' piece rest e q ∙ N.left; end = omega (arith, N.end, length-append piece rest); fits = rw (e, puts-length o to piece) N.fits }

-- the same for a number of k bytes
module _ {X : List ℕ} {E : ℕ} (o : List ℕ) (to k n : ℕ) (rest : List ℕ) (N : Next X E o to (be k n ++ rest)) where
  pub next-be-room : to + k ≤ length o
  next-be-room = omega (arith, next-room o to (be k n) rest N, length-be k n)

  pub next-be : (o' : List ℕ) (to' : ℕ) → o' ≡ puts o to (be k n) → to' ≡ to + k → Next X E o' to' rest
  next-be o' to' e q = next-turn o to (be k n) rest N o' to' e (rw (length-be k n) q)

pub next-done : {X : List ℕ} {E : ℕ} (o : List ℕ) (to : ℕ) → Next X E o to [] → (to ≡ E) × (o ≡ X)
next-done o to N = (omega (arith, N.end), sym (puts-nil o to) ∙ N.left)

-- ---- the cells listed

module _ (s : List ℕ) (n m p x : ℕ) (h : p < m) (l : n + m ≤ length s) (q : x ≡ get_or s (n + p) 0) where
  pub list-next : slice (n + p) (n + m) s ≡ x ∷ slice (n + (p + 1)) (n + m) s
  list-next = slice_front (n + p) (n + m) s (omega arith) l ∙ rw (q, add_assoc n p 1) refl

  pub list-mem : Mem x (slice n (n + m) s)
  list-mem =
      let k : p < length (slice n (n + m) s) = rw (length-slice n (n + m) s l) (omega arith) in
      rw (q, ← slice_get n (n + m) p s (omega arith)) (mem-get (slice n (n + m) s) p k)

  pub sizes-turn : (t : List ℕ) (size sum c X : ℕ) → c ≡ cell_size t size x → sum + sizes t size (slice (n + p) (n + m) s) ≡ X → sum + c + sizes t size (slice (n + (p + 1)) (n + m) s) ≡ X
  unfolding sizes
  sizes-turn t size sum c X e inv =
      let w : sum + (cell_size t size x + sizes t size (slice (n + (p + 1)) (n + m) s)) ≡ X = rw list-next at inv in
      omega arith

  pub index-next : (t : List ℕ) (size off start : ℕ) → index_of t size off start (slice (n + p) (n + m) s) ≡ be off (entry start (start + cell_size t size x)) ++ index_of t size off (start + cell_size t size x) (slice (n + (p + 1)) (n + m) s)
  unfolding index_of
  index-next t size off start = rw list-next refl

  pub cells-next : (t d w : List ℕ) (size : ℕ) → all_bytes size (placed_cells t d w n (slice (n + p) (n + m) s)) ≡ cell_bytes size (placed_cell t d w n x) ++ all_bytes size (placed_cells t d w n (slice (n + (p + 1)) (n + m) s))
  unfolding placed_cells
  cells-next t d w size = rw list-next refl

pub list-start : (s : List ℕ) (n m : ℕ) → slice (n + 0) (n + m) s ≡ slice n (n + m) s
list-start s n m = rw (add-zero n) refl

pub list-end : (s : List ℕ) (n m p : ℕ) → p ≤ m → m ≤ p → slice (n + p) (n + m) s ≡ []
list-end s n m p h g = let e : p ≡ m = omega arith in rw e (slice_empty (n + m) s)

-- ---- references

pub refs-next : (t s : List ℕ) (n size x j r : ℕ) → RecordOk t x → j < get_or t (x * 7 + 2) 0 → r ≡ get_or t (x * 7 + (3 + j)) 0
    → all_be size (places_of s n (drop j (refs_at t x))) ≡ be size (get_or s (2 * n + r) 0) ++ all_be size (places_of s n (drop (j + 1) (refs_at t x)))
unfolding places_of
refs-next t s n size x j r ok h q = rw (refs-cons t x j ok h, ← q) refl

pub refs-done : (t s : List ℕ) (n size x j : ℕ) → RecordOk t x → get_or t (x * 7 + 2) 0 ≤ j → all_be size (places_of s n (drop j (refs_at t x))) ≡ []
unfolding places_of
refs-done t s n size x j ok h = rw (refs_end t x j ok h) refl
