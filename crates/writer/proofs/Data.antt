-- The data of a cell with the bit behind it, and the length of a cell. Assumes nothing.
use mathlib.Core.Path.{◌≡◌, refl, sym, ap, ◌∙◌}
use mathlib.Core.Bool.{Bool, true, false, cond}
use mathlib.Core.List.{List, [], ◌∷◌, ◌++◌}
use Prim.Native.Nat.{ℕ, zero, suc, ◌+◌, ◌-◌, ◌*◌, ◌/◌, ◌%◌, ◌^◌, ◌<◌, ◌≤◌}
use native.Mathlib.Nat.{not-suc-le-zero}
use native.Mathlib.Omega.{arith}
use lib.ListN.{length, take, drop, get_or, length-append, length-take, length-drop}
use lib.Seq.{take-take, take-suc, get_or-drop, get_or-take, length-take-le}
use lib.Dec.{eqb}
use borrow.Author.Tests.{eq-eqb, ne_eqb}
use Rattle.scheme.specs.Bits.{bytes_for, mark}
use Rattle.scheme.specs.Memory.{cell_at, cells_of}
use Rattle.scheme.specs.Write.{level_of, bits_descriptor, padded, all_be, cell_bytes}
use Rattle.laws.specs.CellRound.{length-mark, length-refs}
use Rattle.laws.specs.Records.{refs_at, RecordOk, CellOk, refs-length}
use Rattle.writer.specs.Bytes.{cell_size, places_of, placed_cell}

mark-snoc : (m : ℕ) (l : List ℕ) (x : ℕ) → mark m (l ++ x ∷ []) ≡ l ++ (x + m) ∷ []
mark-snoc m [] x = refl
mark-snoc m (y ∷ []) x = refl
mark-snoc m (y ∷ z ∷ l) x = ap (λ (r : List ℕ). y ∷ r) (mark-snoc m (z ∷ l) x)

module _ (t d : List ℕ) (x : ℕ) where
  pub data_whole : get_or t (x * 7 + 1) 0 % 8 ≡ 0 → padded (cell_at t d x) ≡ take (get_or t (x * 7 + 1) 0 / 8) (drop (x * 128) d)
  unfolding cell_at
  data_whole e =
      let b : (get_or t (x * 7 + 1) 0 + 7) / 8 ≡ get_or t (x * 7 + 1) 0 / 8 = omega arith in
      rw (eq-eqb (get_or t (x * 7 + 1) 0 % 8) 0 e, b) refl

  pub data_part : CellOk t d x → (get_or t (x * 7 + 1) 0 % 8 ≡ 0 → ⊥)
      → padded (cell_at t d x) ≡ take (get_or t (x * 7 + 1) 0 / 8) (drop (x * 128) d) ++ (get_or d (x * 128 + get_or t (x * 7 + 1) 0 / 8) 0 + 2 ^ (7 - get_or t (x * 7 + 1) 0 % 8)) ∷ []
  unfolding cell_at
  data_part ok e =
      let k = get_or t (x * 7 + 1) 0 / 8 in
      let l = ok.ok.bits in
      let b : (get_or t (x * 7 + 1) 0 + 7) / 8 ≡ suc (get_or t (x * 7 + 1) 0 / 8) = omega arith in
      let h : get_or t (x * 7 + 1) 0 / 8 < length (drop (x * 128) d) = rw (length-drop (x * 128) d) (omega (arith, ok.bytes)) in
      rw (ne_eqb (get_or t (x * 7 + 1) 0 % 8) 0 e, b, take-suc (drop (x * 128) d) (get_or t (x * 7 + 1) 0 / 8) 0 h, get_or-drop (x * 128) d (get_or t (x * 7 + 1) 0 / 8) 0)
      (mark-snoc (2 ^ (7 - get_or t (x * 7 + 1) 0 % 8)) (take (get_or t (x * 7 + 1) 0 / 8) (drop (x * 128) d)) (get_or d (x * 128 + get_or t (x * 7 + 1) 0 / 8) 0))

-- the bit fits behind the bits of the last byte
mark-at : (y r : ℕ) → 0 < r → r < 8 → y < 256 → y % (2 ^ ((8 - r) % 8)) ≡ 0 → y + 2 ^ (7 - r) < 256
mark-at y zero p h b e = absurd (not-suc-le-zero p)
mark-at y (suc zero) p h b e = omega arith
mark-at y (suc (suc zero)) p h b e = omega arith
mark-at y (suc (suc (suc zero))) p h b e = omega arith
mark-at y (suc (suc (suc (suc zero)))) p h b e = omega arith
mark-at y (suc (suc (suc (suc (suc zero))))) p h b e = omega arith
mark-at y (suc (suc (suc (suc (suc (suc zero)))))) p h b e = omega arith
mark-at y (suc (suc (suc (suc (suc (suc (suc zero))))))) p h b e = omega arith
mark-at y (suc (suc (suc (suc (suc (suc (suc (suc r)))))))) p h b e = absurd (omega arith)

pub mark-fits : (t d : List ℕ) (x : ℕ) → CellOk t d x → (get_or t (x * 7 + 1) 0 % 8 ≡ 0 → ⊥) → get_or d (x * 128 + get_or t (x * 7 + 1) 0 / 8) 0 < 256
    → get_or d (x * 128 + get_or t (x * 7 + 1) 0 / 8) 0 + 2 ^ (7 - get_or t (x * 7 + 1) 0 % 8) < 256
mark-fits t d x ok e b = mark-at (get_or d (x * 128 + get_or t (x * 7 + 1) 0 / 8) 0) (get_or t (x * 7 + 1) 0 % 8) (omega arith) (omega arith) b ok.tail

-- ---- lengths

pub places-length : (s : List ℕ) (n : ℕ) (rs : List ℕ) → length (places_of s n rs) ≡ length rs
unfolding places_of
places-length s n [] = refl
places-length s n (r ∷ rs) = ap suc (places-length s n rs)

bytes-length : (t d : List ℕ) (x : ℕ) → CellOk t d x → length (take (bytes_for (get_or t (x * 7 + 1) 0)) (drop (x * 128) d)) ≡ bytes_for (get_or t (x * 7 + 1) 0)
bytes-length t d x ok =
    let l = ok.ok.bits in
    let b = ok.bytes in
    length-take-le (bytes_for (get_or t (x * 7 + 1) 0)) (drop (x * 128) d) (rw (length-drop (x * 128) d) (omega arith))

padded-length : (t d : List ℕ) (x : ℕ) → length (padded (cell_at t d x)) ≡ length (take (bytes_for (get_or t (x * 7 + 1) 0)) (drop (x * 128) d))
unfolding cell_at
padded-length t d x = go (eqb (get_or t (x * 7 + 1) 0 % 8) 0)
  where
    go : (b : Bool) → length (cond b (take (bytes_for (get_or t (x * 7 + 1) 0)) (drop (x * 128) d)) (mark (2 ^ (7 - get_or t (x * 7 + 1) 0 % 8)) (take (bytes_for (get_or t (x * 7 + 1) 0)) (drop (x * 128) d)))) ≡ length (take (bytes_for (get_or t (x * 7 + 1) 0)) (drop (x * 128) d))
    go true = refl
    go false = length-mark (2 ^ (7 - get_or t (x * 7 + 1) 0 % 8)) (take (bytes_for (get_or t (x * 7 + 1) 0)) (drop (x * 128) d))

-- what a cell's bytes are
pub cell_parts : (t d s : List ℕ) (n size x : ℕ) → RecordOk t x
    → cell_bytes size (placed_cell t d s n x)
    ≡ (get_or t (x * 7 + 2) 0 + 8 * get_or t (x * 7) 0 + 32 * level_of (cells_of n t d) x) ∷ bits_descriptor (get_or t (x * 7 + 1) 0) ∷ (padded (cell_at t d x) ++ all_be size (places_of s n (refs_at t x)))
unfolding placed_cell cell_at cell_bytes
cell_parts t d s n size x ok = rw (places-length s n (refs_at t x), refs-length t x ok) refl

pub cell-length : (t d s : List ℕ) (n size x : ℕ) → CellOk t d x → length (cell_bytes size (placed_cell t d s n x)) ≡ cell_size t size x
unfolding cell_size
cell-length t d s n size x ok =
    let a = length-append (padded (cell_at t d x)) (all_be size (places_of s n (refs_at t x))) in
    let b = padded-length t d x ∙ bytes-length t d x ok in
    let e : length (all_be size (places_of s n (refs_at t x))) ≡ get_or t (x * 7 + 2) 0 * size = length-refs size (places_of s n (refs_at t x)) ∙ rw (places-length s n (refs_at t x), refs-length t x ok.ok) refl in
    let z : suc (suc (length (padded (cell_at t d x) ++ all_be size (places_of s n (refs_at t x))))) ≡ 2 + bytes_for (get_or t (x * 7 + 1) 0) + get_or t (x * 7 + 2) 0 * size = omega arith in
    ap length (cell_parts t d s n size x ok.ok) ∙ z

-- ---- as the code has it

module _ {t d w : List ℕ} {x len : ℕ} (v : w ≡ take 128 (drop (x * 128) d)) (q : len ≡ get_or t (x * 7 + 1) 0) (ok : CellOk t d x) where
  short : len / 8 < 128
  short = omega (arith, ok.ok.bits)

  front : take (len / 8) w ≡ take (len / 8) (drop (x * 128) d)
  front = rw v (take-take (len / 8) 128 (drop (x * 128) d) (omega (arith, short)))

  last : get_or w (len / 8) 0 ≡ get_or d (x * 128 + len / 8) 0
  last = rw v (get_or-take 128 (drop (x * 128) d) (len / 8) 0 short ∙ get_or-drop (x * 128) d (len / 8) 0)

  pub put_whole : len % 8 ≡ 0 → take (len / 8) w ≡ padded (cell_at t d x)
  put_whole e = rw front (rw q (sym (data_whole t d x (rw q at e))))

  pub put-part : (len % 8 ≡ 0 → ⊥) → padded (cell_at t d x) ≡ take (len / 8) w ++ (get_or w (len / 8) 0 + 2 ^ (7 - len % 8)) ∷ []
  put-part e = rw (front, last) (rw q (data_part t d x ok (rw q at e)))

  pub put-fits : (len % 8 ≡ 0 → ⊥) → get_or w (len / 8) 0 < 256 → get_or w (len / 8) 0 + 2 ^ (7 - len % 8) < 256
  put-fits e b = rw last (rw q (mark-fits t d x ok (rw q at e) (rw (last, q) at b)))

  -- the whole bytes are a part of what is written
  pub front-long : length (take (len / 8) w) ≤ length (padded (cell_at t d x))
  front-long =
      let b : length (padded (cell_at t d x)) ≡ bytes_for len = rw q (padded-length t d x ∙ bytes-length t d x ok) in
      rw front (omega (arith, length-take (len / 8) (drop (x * 128) d)))
