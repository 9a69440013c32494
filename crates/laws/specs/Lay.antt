-- Memory and cells: the memory of a sound store is a function of its cells and its capacity, and the memory of well-formed cells is a sound store. Assumes nothing.
use Prim.Native.Nat.{ℕ, zero, suc, ◌+◌, ◌*◌, ◌/◌, ◌%◌, ◌-◌, ◌<◌, ◌≤◌}
use Rattle.std.specs.Prelude.{◌≡◌, refl, Bool, false, ◌⊎◌}
use Rattle.std.proofs.Math.Path.{sym, ap, subst}
use Rattle.std.proofs.Common.{◌∙◌, inl, inr, add-zero, zero-mul, length-drop, take_all, get_or-drop, get_or-append-add, take-add, drop_at, drop-drop}
use mathlib.Core.List.{List, [], ◌∷◌, ◌++◌, append-nil, append_assoc}
use Rattle.std.proofs.Math.Bool.{true}
use Rattle.std.proofs.Math.Nat.{zero-mod}
use native.Mathlib.Omega.{arith}
use Rattle.std.proofs.Math.ListN.{length, get_or, take, drop, replicate, length-take, length-append, length-replicate, take-append-drop, get_or-eq_default, get_or-append}
use Rattle.std.proofs.lemmas.List.{get_or-replicate, take-append-le}
use Rattle.std.proofs.Math.Seq.{get_or-take, take-take, length-take-le}
use Rattle.std.proofs.Math.Dec.{eqb, ltb}
use borrow.Author.Tests.{eqb-true, eq-eqb, le-leb, lt-ltb, le-ltb, ltb-true, ltb-false}
use Rattle.scheme.specs.Bits.{bytes_for}
use Rattle.scheme.specs.Cells.{Cell, blank, find, insert}
use Rattle.scheme.specs.Memory.{cell_at, cells_of, all_below, all_zero, sound_ref, tail_zero, sound_cell, sized, sound, row_of, block_of, rows, blocks, lay_table, lay_bytes}
use Rattle.laws.specs.Tests.{and_left, and_right}
use Rattle.laws.specs.Puts.{puts, puts-parts}
use Rattle.laws.specs.Wf.{WfCell, Wf}
use Rattle.laws.specs.Unique.{find_cases, insert-old, insert-new}
use Rattle.laws.specs.Records.{unused_in, CellSound, SoundMemory, cells-length, cells_at_lem}
use Rattle.laws.specs.RoundLaws.{rows-length, blocks-length, wf-small, nth_row, nth_block}

-- zeros
pub zeros-is : (xs : List ℕ) → all_zero xs ≡ true → xs ≡ replicate (length xs) 0
unfolding all_zero
zeros-is [] e = refl
zeros-is (x ∷ xs) e =
    let z : x ≡ 0 = eqb-true x 0 (and_left (eqb x 0) (all_zero xs) e) in
    rw (z, ← zeros-is xs (and_right (eqb x 0) (all_zero xs) e))

drop-zeros : (n m : ℕ) → drop {A = ℕ} n (replicate m 0) ≡ replicate (m - n) 0
drop-zeros zero m = let q : m ≡ m - 0 = omega arith in ap (λ (k : ℕ). replicate k 0) q
drop-zeros (suc n) zero = let q : 0 ≡ 0 - suc n = omega arith in ap (λ (k : ℕ). replicate k 0) q
drop-zeros (suc n) (suc m) = let q : m - n ≡ suc m - suc n = omega arith in drop-zeros n m ∙ ap (λ (k : ℕ). replicate k 0) q

-- what lies past p + n, where all from p on is 0
pub rest-zero : (l : List ℕ) (p n : ℕ) → all_zero (drop p l) ≡ true → drop (p + n) l ≡ replicate (length l - (p + n)) 0
rest-zero l p n e =
    let q : length (drop p l) - n ≡ length l - (p + n) = rw (length-drop p l) (omega arith) in
    sym (drop-drop n p l)
    ∙ ap (λ (r : List ℕ). drop n r) (zeros-is (drop p l) e)
    ∙ drop-zeros n (length (drop p l))
    ∙ ap (λ (k : ℕ). replicate k 0) q

-- seven numbers, one by one
seven : (xs : List ℕ) → length xs ≡ 7 → xs ≡ get_or xs 0 0 ∷ get_or xs 1 0 ∷ get_or xs 2 0 ∷ get_or xs 3 0 ∷ get_or xs 4 0 ∷ get_or xs 5 0 ∷ get_or xs 6 0 ∷ []
seven [] e = absurd (omega arith)
seven (a ∷ []) e = absurd (omega arith)
seven (a ∷ b ∷ []) e = absurd (omega arith)
seven (a ∷ b ∷ c ∷ []) e = absurd (omega arith)
seven (a ∷ b ∷ c ∷ d ∷ []) e = absurd (omega arith)
seven (a ∷ b ∷ c ∷ d ∷ f ∷ []) e = absurd (omega arith)
seven (a ∷ b ∷ c ∷ d ∷ f ∷ g ∷ []) e = absurd (omega arith)
seven (a ∷ b ∷ c ∷ d ∷ f ∷ g ∷ h ∷ []) e = refl
seven (a ∷ b ∷ c ∷ d ∷ f ∷ g ∷ h ∷ i ∷ xs) e = absurd (omega arith)

row-eq : (xs : List ℕ) (a b c d f g h : ℕ) → length xs ≡ 7 → get_or xs 0 0 ≡ a → get_or xs 1 0 ≡ b → get_or xs 2 0 ≡ c → get_or xs 3 0 ≡ d → get_or xs 4 0 ≡ f → get_or xs 5 0 ≡ g → get_or xs 6 0 ≡ h → xs ≡ a ∷ b ∷ c ∷ d ∷ f ∷ g ∷ h ∷ []
row-eq xs a b c d f g h e ea eb ec ed ef eg eh = rw (← ea, ← eb, ← ec, ← ed, ← ef, ← eg, ← eh) (seven xs e)

pub split : {P : Type 0} (k m : ℕ) → (k < m → P) → (m ≤ k → P) → P
split {P} k m f g = go (ltb k m) refl
  where
    go : (b : Bool) → ltb k m ≡ b → P
    go true e = f (ltb-true k m e)
    go false e = g (ltb-false k m e)

pub part_at : (l : List ℕ) (p n k : ℕ) → k < n → get_or (take n (drop p l)) k 0 ≡ get_or l (p + k) 0
part_at l p n k h = get_or-take n (drop p l) k 0 h ∙ get_or-drop p l k 0

module _ (t d : List ℕ) (i : ℕ) (s : CellSound t d i) (room : i * 7 + 7 ≤ length t) where
  -- a reference that the record has, also an unused one
  ref_at : (k : ℕ) → k < 4 → get_or t (i * 7 + (3 + k)) 0 ≡ get_or (take (get_or t (i * 7 + 2) 0) (drop (i * 7 + 3) t)) k 0
  unfolding sound_ref
  ref_at k h =
      let q : i * 7 + (3 + k) ≡ i * 7 + 3 + k = omega arith in
      rw q
      (split k (get_or t (i * 7 + 2) 0)
      (λ l. sym (part_at t (i * 7 + 3) (get_or t (i * 7 + 2) 0) k l))
      (λ l.
      let z : eqb (get_or t (i * 7 + 3 + k) 0) 0 ≡ true = rw (le-ltb k (get_or t (i * 7 + 2) 0) l) at (s.refs k h) in
      eqb-true (get_or t (i * 7 + 3 + k) 0) 0 z
      ∙ sym (get_or-eq_default (take (get_or t (i * 7 + 2) 0) (drop (i * 7 + 3) t)) 0 {n = k} (simp length-take (omega arith)))))

  refs-count : length (take (get_or t (i * 7 + 2) 0) (drop (i * 7 + 3) t)) ≡ get_or t (i * 7 + 2) 0
  refs-count = simp (length-take, length-drop) (omega (arith, s.count))

  pub row_at : take 7 (drop (i * 7) t) ≡ row_of [] (cell_at t d i)
  unfolding cell_at
  row_at =
      row-eq (take 7 (drop (i * 7) t)) _ _ _ _ _ _ _
      (simp (length-take, length-drop) (omega arith))
      (part_at t (i * 7) 7 0 (omega arith) ∙ ap (λ (k : ℕ). get_or t k 0) (add-zero (i * 7)))
      (part_at t (i * 7) 7 1 (omega arith))
      (part_at t (i * 7) 7 2 (omega arith) ∙ sym refs-count)
      (part_at t (i * 7) 7 3 (omega arith) ∙ ref_at 0 (omega arith))
      (part_at t (i * 7) 7 4 (omega arith) ∙ ref_at 1 (omega arith))
      (part_at t (i * 7) 7 5 (omega arith) ∙ ref_at 2 (omega arith))
      (part_at t (i * 7) 7 6 (omega arith) ∙ ref_at 3 (omega arith))

  -- the numbers of a sound record, one by one
  pub row-numbers : row_of [] (cell_at t d i)
      ≡ get_or t (i * 7) 0 ∷ get_or t (i * 7 + 1) 0 ∷ get_or t (i * 7 + 2) 0 ∷ get_or t (i * 7 + 3) 0 ∷ get_or t (i * 7 + 4) 0 ∷ get_or t (i * 7 + 5) 0 ∷ get_or t (i * 7 + 6) 0 ∷ []
  row-numbers =
      sym row_at
      ∙ row-eq (take 7 (drop (i * 7) t)) _ _ _ _ _ _ _
      (simp (length-take, length-drop) (omega arith))
      (part_at t (i * 7) 7 0 (omega arith) ∙ ap (λ (k : ℕ). get_or t k 0) (add-zero (i * 7)))
      (part_at t (i * 7) 7 1 (omega arith))
      (part_at t (i * 7) 7 2 (omega arith))
      (part_at t (i * 7) 7 3 (omega arith))
      (part_at t (i * 7) 7 4 (omega arith))
      (part_at t (i * 7) 7 5 (omega arith))
      (part_at t (i * 7) 7 6 (omega arith))

-- the 128 bytes of a sound record
module _ (t d : List ℕ) (i : ℕ) (s : CellSound t d i) (room : i * 128 + 128 ≤ length d) where
  pub block_at_lem : take 128 (drop (i * 128) d) ≡ block_of (cell_at t d i)
  unfolding cell_at tail_zero
  block_at_lem =
      let m : ℕ = bytes_for (get_or t (i * 7 + 1) 0) in
      let x : List ℕ = take 128 (drop (i * 128) d) in
      let small : bytes_for (get_or t (i * 7 + 1) 0) ≤ 128 = omega (arith, s.bits) in
      let zero_rest : all_zero (drop (bytes_for (get_or t (i * 7 + 1) 0)) (take 128 (drop (i * 128) d))) ≡ true = and_right (eqb (get_or (take 128 (drop (i * 128) d)) (get_or t (i * 7 + 1) 0 / 8) 0 % unused_in (get_or t (i * 7 + 1) 0)) 0) _ s.tail in
      let whole : length (take 128 (drop (i * 128) d)) ≡ 128 = simp (length-take, length-drop) (omega arith) in
      let front : take m x ≡ take m (drop (i * 128) d) = take-take (bytes_for (get_or t (i * 7 + 1) 0)) 128 (drop (i * 128) d) small in
      let count : length (take m (drop (i * 128) d)) ≡ m = length-take-le m (drop (i * 128) d) (rw (length-drop (i * 128) d) (omega arith)) in
      let left : length (drop m x) ≡ 128 - length (take m (drop (i * 128) d)) = rw (length-drop m x, whole, count) in
      sym (take-append-drop m x)
      ∙ ap (λ (l : List ℕ). l ++ drop m x) front
      ∙ ap (λ (l : List ℕ). take m (drop (i * 128) d) ++ l) (zeros-is (drop m x) zero_rest)
      ∙ ap (λ (k : ℕ). take m (drop (i * 128) d) ++ replicate k 0) left

rows_snoc : (p cs : List Cell) (c : Cell) → rows p (cs ++ (c ∷ [])) ≡ rows p cs ++ row_of [] c
unfolding rows
rows_snoc p [] c = append-nil (row_of p c)
rows_snoc p (x ∷ cs) c = ap (λ (l : List ℕ). row_of p x ++ l) (rows_snoc (p ++ x ∷ []) cs c) ∙ sym (append_assoc (row_of p x) (rows (p ++ x ∷ []) cs) (row_of [] c))

blocks-snoc : (cs : List Cell) (c : Cell) → blocks (cs ++ (c ∷ [])) ≡ blocks cs ++ block_of c
unfolding blocks
blocks-snoc [] c = append-nil (block_of c)
blocks-snoc (x ∷ cs) c = ap (λ (l : List ℕ). block_of x ++ l) (blocks-snoc cs c) ∙ sym (append_assoc (block_of x) (blocks cs) (block_of c))

-- the front of the memory is that of the cells
rows_are : (n : ℕ) (t d : List ℕ) → n * 7 ≤ length t → ((k : ℕ) → k < n → CellSound t d k) → rows [] (cells_of n t d) ≡ take (n * 7) t
unfolding cells_of rows
rows_are zero t d h s = ap (λ (k : ℕ). take k t) (sym (zero-mul 7))
rows_are (suc n) t d h s =
    let q : n * 7 + 7 ≡ suc n * 7 = omega arith in
    rows_snoc [] (cells_of n t d) (cell_at t d n)
    ∙ ap (λ (l : List ℕ). l ++ row_of [] (cell_at t d n)) (rows_are n t d (omega arith) (λ k l. s k (omega arith)))
    ∙ ap (λ (l : List ℕ). take (n * 7) t ++ l) (sym (row_at t d n (s n (omega arith)) (omega arith)))
    ∙ sym (take-add (n * 7) 7 t)
    ∙ ap (λ (k : ℕ). take k t) q

blocks-are : (n : ℕ) (t d : List ℕ) → n * 128 ≤ length d → ((k : ℕ) → k < n → CellSound t d k) → blocks (cells_of n t d) ≡ take (n * 128) d
unfolding cells_of blocks
blocks-are zero t d h s = ap (λ (k : ℕ). take k d) (sym (zero-mul 128))
blocks-are (suc n) t d h s =
    let q : n * 128 + 128 ≡ suc n * 128 = omega arith in
    blocks-snoc (cells_of n t d) (cell_at t d n)
    ∙ ap (λ (l : List ℕ). l ++ block_of (cell_at t d n)) (blocks-are n t d (omega arith) (λ k l. s k (omega arith)))
    ∙ ap (λ (l : List ℕ). take (n * 128) d ++ l) (sym (block_at_lem t d n (s n (omega arith)) (omega arith)))
    ∙ sym (take-add (n * 128) 128 d)
    ∙ ap (λ (k : ℕ). take k d) q

pub count-snoc : (n : ℕ) (t d : List ℕ) (x : Cell) → length (cells_of n t d ++ (x ∷ [])) ≡ n + 1
count-snoc n t d x = length-append (cells_of n t d) (x ∷ []) ∙ ap (λ (k : ℕ). k + 1) (cells-length n t d)

module _ (n : ℕ) (t d : List ℕ) (s : SoundMemory n t d) where
  -- the memory is that of its cells
  pub lay-table : lay_table (length t / 7) (cells_of n t d) ≡ t
  unfolding lay_table
  lay-table =
      let z = s.lengths in
      let q : (length t / 7 - length (cells_of n t d)) * 7 ≡ length t - (n * 7 + 0) = rw (cells-length n t d) (omega arith) in
      let e : drop (n * 7 + 0) t ≡ replicate (length t - (n * 7 + 0)) 0 = rest-zero t (n * 7) 0 s.rest_table in
      ap (λ (l : List ℕ). l ++ replicate ((length t / 7 - length (cells_of n t d)) * 7) 0) (rows_are n t d (omega arith) s.cells)
      ∙ ap (λ (k : ℕ). take (n * 7) t ++ replicate k 0) q
      ∙ ap (λ (l : List ℕ). take (n * 7) t ++ l) (sym e)
      ∙ ap (λ (k : ℕ). take (n * 7) t ++ drop k t) (add-zero (n * 7))
      ∙ take-append-drop (n * 7) t

  pub lay-bytes : lay_bytes (length t / 7) (cells_of n t d) ≡ d
  unfolding lay_bytes
  lay-bytes =
      let z = s.lengths in
      let q : (length t / 7 - length (cells_of n t d)) * 128 ≡ length d - (n * 128 + 0) = rw (cells-length n t d) (omega arith) in
      let e : drop (n * 128 + 0) d ≡ replicate (length d - (n * 128 + 0)) 0 = rest-zero d (n * 128) 0 s.rest_bytes in
      ap (λ (l : List ℕ). l ++ replicate ((length t / 7 - length (cells_of n t d)) * 128) 0) (blocks-are n t d (omega arith) s.cells)
      ∙ ap (λ (k : ℕ). take (n * 128) d ++ replicate k 0) q
      ∙ ap (λ (l : List ℕ). take (n * 128) d ++ l) (sym e)
      ∙ ap (λ (k : ℕ). take (n * 128) d ++ drop k d) (add-zero (n * 128))
      ∙ take-append-drop (n * 128) d

  -- and with one more cell, it is that of the cells with the new one at the end
  pub lay-table-put : (x : Cell) → n < length t / 7 → puts t (n * 7) (row_of [] x) ≡ lay_table (length t / 7) (cells_of n t d ++ (x ∷ []))
  unfolding lay_table
  lay-table-put x h =
      let z = s.lengths in
      let q : (length t / 7 - length (cells_of n t d ++ (x ∷ []))) * 7 ≡ length t - (n * 7 + 7) = rw (count-snoc n t d x) (omega arith) in
      puts-parts t (n * 7) (row_of [] x) (omega arith)
      ∙ ap (λ (l : List ℕ). take (n * 7) t ++ row_of [] x ++ l) (rest-zero t (n * 7) 7 s.rest_table)
      ∙ ap (λ (l : List ℕ). l ++ row_of [] x ++ replicate (length t - (n * 7 + 7)) 0) (sym (rows_are n t d (omega arith) s.cells))
      ∙ ap (λ (l : List ℕ). l ++ replicate (length t - (n * 7 + 7)) 0) (sym (rows_snoc [] (cells_of n t d) x))
      ∙ ap (λ (k : ℕ). rows [] (cells_of n t d ++ (x ∷ [])) ++ replicate k 0) (sym q)

  pub lay-bytes-put : (x : Cell) → length x.bytes ≤ 128 → n < length t / 7 → puts d (n * 128) (block_of x) ≡ lay_bytes (length t / 7) (cells_of n t d ++ (x ∷ []))
  unfolding lay_bytes
  lay-bytes-put x small h =
      let z = s.lengths in
      let q : (length t / 7 - length (cells_of n t d ++ (x ∷ []))) * 128 ≡ length d - (n * 128 + 128) = rw (count-snoc n t d x) (omega arith) in
      let w : length (block_of x) ≡ 128 = rw (length-append x.bytes (replicate (128 - length x.bytes) 0), length-replicate {A = ℕ} (128 - length x.bytes) 0) (omega arith) in
      puts-parts d (n * 128) (block_of x) (rw w (omega arith))
      ∙ ap (λ (k : ℕ). take (n * 128) d ++ block_of x ++ drop (n * 128 + k) d) w
      ∙ ap (λ (l : List ℕ). take (n * 128) d ++ block_of x ++ l) (rest-zero d (n * 128) 128 s.rest_bytes)
      ∙ ap (λ (l : List ℕ). l ++ block_of x ++ replicate (length d - (n * 128 + 128)) 0) (sym (blocks-are n t d (omega arith) s.cells))
      ∙ ap (λ (l : List ℕ). l ++ replicate (length d - (n * 128 + 128)) 0) (sym (blocks-snoc (cells_of n t d) x))
      ∙ ap (λ (k : ℕ). blocks (cells_of n t d ++ (x ∷ [])) ++ replicate k 0) (sym q)

  -- taken back to its first m cells: all from there on is 0
  module _ (m : ℕ) (h : m ≤ n) where
    pub back-table : take (m * 7) t ++ replicate (length t - m * 7) 0 ≡ lay_table (length t / 7) (cells_of m t d)
    unfolding lay_table
    back-table =
        let z = s.lengths in
        let g = s.held in
        let q : length t - m * 7 ≡ (length t / 7 - length (cells_of m t d)) * 7 = rw (cells-length m t d) (omega arith) in
        ap (λ (l : List ℕ). l ++ replicate (length t - m * 7) 0) (sym (rows_are m t d (omega arith) (λ k l. s.cells k (omega arith))))
        ∙ ap (λ (k : ℕ). rows [] (cells_of m t d) ++ replicate k 0) q

    pub back-bytes : take (m * 128) d ++ replicate (length d - m * 128) 0 ≡ lay_bytes (length t / 7) (cells_of m t d)
    unfolding lay_bytes
    back-bytes =
        let z = s.lengths in
        let g = s.held in
        let q : length d - m * 128 ≡ (length t / 7 - length (cells_of m t d)) * 128 = rw (cells-length m t d) (omega arith) in
        ap (λ (l : List ℕ). l ++ replicate (length d - m * 128) 0) (sym (blocks-are m t d (omega arith) (λ k l. s.cells k (omega arith))))
        ∙ ap (λ (k : ℕ). blocks (cells_of m t d) ++ replicate k 0) q

-- a number read past the end, or in a padded list
pub past : (l : List ℕ) (k : ℕ) → length l ≤ k → get_or l k 0 ≡ 0
past l k h = get_or-eq_default l 0 h

zero-at : (m k : ℕ) → get_or {A = ℕ} (replicate m 0) k 0 ≡ 0
zero-at m k = split k m (λ h. get_or-replicate m k 0 0 h) (λ h. past (replicate m 0) k (rw (length-replicate {A = ℕ} m 0) h))

-- a record that is sound holds a cell that is well formed
module _ (t d : List ℕ) (i : ℕ) (s : CellSound t d i) (room_t : i * 7 + 7 ≤ length t) (room_d : i * 128 + 128 ≤ length d) where
  count-is : length (take (get_or t (i * 7 + 2) 0) (drop (i * 7 + 3) t)) ≡ get_or t (i * 7 + 2) 0
  count-is = simp (length-take, length-drop) (omega (arith, s.count))

  size_is : length (take (bytes_for (get_or t (i * 7 + 1) 0)) (drop (i * 128) d)) ≡ bytes_for (get_or t (i * 7 + 1) 0)
  size_is = simp (length-take, length-drop) (omega (arith, s.bits))

  below-is : (k : ℕ) → k < get_or t (i * 7 + 2) 0 → get_or (take (get_or t (i * 7 + 2) 0) (drop (i * 7 + 3) t)) k 0 < i
  unfolding sound_ref
  below-is k h =
      let z : ltb (get_or t (i * 7 + 3 + k) 0) i ≡ true = rw (lt-ltb k (get_or t (i * 7 + 2) 0) h) at (s.refs k (omega (arith, s.count))) in
      subst (λ (r : ℕ). r < i) (sym (part_at t (i * 7 + 3) (get_or t (i * 7 + 2) 0) k h)) (ltb-true (get_or t (i * 7 + 3 + k) 0) i z)

  tail-is : get_or (take (bytes_for (get_or t (i * 7 + 1) 0)) (drop (i * 128) d)) (get_or t (i * 7 + 1) 0 / 8) 0 % unused_in (get_or t (i * 7 + 1) 0) ≡ 0
  unfolding tail_zero
  tail-is =
      let m : ℕ = get_or t (i * 7 + 1) 0 in
      let z : get_or (take 128 (drop (i * 128) d)) (m / 8) 0 % unused_in m ≡ 0 = eqb-true (get_or (take 128 (drop (i * 128) d)) (m / 8) 0 % unused_in m) 0 (and_left (eqb (get_or (take 128 (drop (i * 128) d)) (m / 8) 0 % unused_in m) 0) _ s.tail) in
      split (m / 8) (bytes_for m)
      (λ h.
      let q : get_or (take (bytes_for m) (drop (i * 128) d)) (m / 8) 0 ≡ get_or (take 128 (drop (i * 128) d)) (m / 8) 0 = get_or-take (bytes_for m) (drop (i * 128) d) (m / 8) 0 h ∙ sym (get_or-take 128 (drop (i * 128) d) (m / 8) 0 (omega (arith, s.bits))) in
      ap (λ (x : ℕ). x % unused_in m) q ∙ z)
      (λ h. ap (λ (x : ℕ). x % unused_in m) (past (take (bytes_for m) (drop (i * 128) d)) (m / 8) (rw size_is h)) ∙ zero-mod (unused_in m))

  pub wf-at : WfCell i (cell_at t d i)
  unfolding cell_at
  wf-at = record {
    flag = s.flag;
    bits = s.bits;
    count = rw count-is s.count;
    below = λ k h. below-is k (rw count-is at h);
    size = size_is;
    tail = tail-is;
  }

pub wf-cells : (n : ℕ) (t d : List ℕ) → SoundMemory n t d → Wf (cells_of n t d)
wf-cells n t d s =
    record {
      each = λ i h.
          let l : i < n = rw (cells-length n t d) at h in
          let z = s.lengths in
          subst (λ (c : Cell). WfCell i c) (sym (cells_at_lem n t d i l)) (wf-at t d i (s.cells i l) (omega (arith, s.held)) (omega (arith, s.held)));
    }

-- the memory of well-formed cells is a sound store
all_intro : (p : ℕ → Bool) (n : ℕ) → ((k : ℕ) → k < n → p k ≡ true) → all_below n p ≡ true
unfolding all_below
all_intro p zero f = refl
all_intro p (suc n) f = rw (all_intro p n (λ k h. f k (omega arith)), f n (omega arith))

zeros-zero : (m : ℕ) → all_zero (replicate m 0) ≡ true
unfolding all_zero
zeros-zero zero = refl
zeros-zero (suc m) = zeros-zero m

pad_at : (l : List ℕ) (m k : ℕ) → get_or (l ++ replicate m 0) k 0 ≡ get_or l k 0
pad_at l m k =
    split k (length l)
    (λ h. get_or-append l (replicate m 0) 0 k h)
    (λ h.
    let q : length l + (k - length l) ≡ k = omega arith in
    ap (λ (j : ℕ). get_or (l ++ replicate m 0) j 0) (sym q) ∙ get_or-append-add l (replicate m 0) (k - length l) 0 ∙ zero-at m (k - length l) ∙ sym (past l k h))

tail_intro : (i : ℕ) (c : Cell) → WfCell i c → tail_zero c.len (block_of c) ≡ true
unfolding tail_zero
tail_intro i c w =
    rw (pad_at c.bytes (128 - length c.bytes) (c.len / 8), eq-eqb (get_or c.bytes (c.len / 8) 0 % unused_in c.len) 0 w.tail, drop_at c.bytes (replicate (128 - length c.bytes) 0) (bytes_for c.len) w.size)
    (zeros-zero (128 - length c.bytes))

ref_intro : (t rs : List ℕ) (i k : ℕ) → get_or t (i * 7 + 2) 0 ≡ length rs → get_or t (i * 7 + 3 + k) 0 ≡ get_or rs k 0 → ((j : ℕ) → j < length rs → get_or rs j 0 < i) → sound_ref t i k ≡ true
unfolding sound_ref
ref_intro t rs i k e f b =
    rw (e, f)
    (split k (length rs)
    (λ h. rw (lt-ltb k (length rs) h) (lt-ltb (get_or rs k 0) i (b k h)))
    (λ h. rw (le-ltb k (length rs) h) (eq-eqb (get_or rs k 0) 0 (past rs k h))))

pub cell_intro : (t d : List ℕ) (i : ℕ) (c : Cell) → WfCell i c → get_or t (i * 7) 0 ≡ c.exotic → get_or t (i * 7 + 1) 0 ≡ c.len → get_or t (i * 7 + 2) 0 ≡ length c.refs
    → ((k : ℕ) → k < 4 → get_or t (i * 7 + 3 + k) 0 ≡ get_or c.refs k 0) → take 128 (drop (i * 128) d) ≡ block_of c → sound_cell t d i ≡ true
unfolding sound_cell
cell_intro t d i c w e0 e1 e2 e3 eb =
    let refs : all_below 4 (sound_ref t i) ≡ true = all_intro (sound_ref t i) 4 (λ k h. ref_intro t c.refs i k e2 (e3 k h) w.below) in
    rw (e0, le-leb c.exotic 1 w.flag, e1, le-leb c.len 1023 w.bits, e2, le-leb (length c.refs) 4 w.count, refs, eb) (tail_intro i c w)

row-refs : (c : Cell) (x : List ℕ) (k : ℕ) → k < 4 → get_or (row_of [] c ++ x) (3 + k) 0 ≡ get_or c.refs k 0
row-refs c x zero h = refl
row-refs c x (suc zero) h = refl
row-refs c x (suc (suc zero)) h = refl
row-refs c x (suc (suc (suc zero))) h = refl
row-refs c x (suc (suc (suc (suc k)))) h = absurd (omega arith)

module _ (cap : ℕ) (cs : List Cell) (w : Wf cs) (fits : length cs ≤ cap) (few : cap ≤ 4096) where
  table-length : length (lay_table cap cs) ≡ cap * 7
  unfolding lay_table
  table-length = length-append (rows [] cs) (replicate ((cap - length cs) * 7) 0) ∙ rw (rows-length [] cs, length-replicate {A = ℕ} ((cap - length cs) * 7) 0) (omega arith)

  bytes-length : length (lay_bytes cap cs) ≡ cap * 128
  unfolding lay_bytes
  bytes-length = length-append (blocks cs) (replicate ((cap - length cs) * 128) 0) ∙ rw (blocks-length cs (wf-small cs w), length-replicate {A = ℕ} ((cap - length cs) * 128) 0) (omega arith)

  lay-cell : (i : ℕ) → i < length cs → sound_cell (lay_table cap cs) (lay_bytes cap cs) i ≡ true
  unfolding lay_table lay_bytes
  lay-cell i h =
      let c : Cell = get_or cs i blank in
      let rt : List ℕ = replicate ((cap - length cs) * 7) 0 in
      let rd : List ℕ = replicate ((cap - length cs) * 128) 0 in
      let at3 : (k : ℕ) → k < 4 → get_or (rows [] cs ++ rt) (i * 7 + 3 + k) 0 ≡ get_or c.refs k 0 = λ k l.
      let q : i * 7 + 3 + k ≡ i * 7 + (3 + k) = omega arith in
      ap (λ (j : ℕ). get_or (rows [] cs ++ rt) j 0) q ∙ nth_row cs w i h rt (3 + k) ∙ row-refs c (rows (take i cs ++ c ∷ []) (drop (suc i) cs) ++ rt) k l in
      cell_intro (rows [] cs ++ rt) (blocks cs ++ rd) i c (w.each i h)
      (ap (λ (j : ℕ). get_or (rows [] cs ++ rt) j 0) (sym (add-zero (i * 7))) ∙ nth_row cs w i h rt 0)
      (nth_row cs w i h rt 1) (nth_row cs w i h rt 2) at3 (nth_block cs w i h rd)

  rest-table : all_zero (drop (length cs * 7) (lay_table cap cs)) ≡ true
  unfolding lay_table
  rest-table = rw (drop_at (rows [] cs) (replicate ((cap - length cs) * 7) 0) (length cs * 7) (rows-length [] cs)) (zeros-zero ((cap - length cs) * 7))

  rest-bytes : all_zero (drop (length cs * 128) (lay_bytes cap cs)) ≡ true
  unfolding lay_bytes
  rest-bytes = rw (drop_at (blocks cs) (replicate ((cap - length cs) * 128) 0) (length cs * 128) (blocks-length cs (wf-small cs w))) (zeros-zero ((cap - length cs) * 128))

  pub sound-lay : sound (length cs) (lay_table cap cs) (lay_bytes cap cs) ≡ true
  unfolding sound sized
  sound-lay =
      let a : length (lay_table cap cs) % 7 ≡ 0 = rw table-length (omega arith) in
      let b : length (lay_table cap cs) / 7 ≡ cap = rw table-length (omega arith) in
      let z : eqb (length (lay_table cap cs) % 7) 0 ≡ true = eq-eqb (length (lay_table cap cs) % 7) 0 a in
      rw (z, b, le-leb cap 4096 few, eq-eqb (length (lay_bytes cap cs)) (cap * 128) bytes-length, le-leb (length cs) cap fits, all_intro (sound_cell (lay_table cap cs) (lay_bytes cap cs)) (length cs) lay-cell, rest-table, rest-bytes)

-- ---- one more cell

pub wf-nil : Wf []
wf-nil = record { each = λ i h. absurd (omega arith) }

pub wf-snoc : (cs : List Cell) (x : Cell) → Wf cs → WfCell (length cs) x → Wf (cs ++ (x ∷ []))
wf-snoc cs x w y =
    record {
      each = λ i h.
          split i (length cs)
          (λ l. subst (λ (c : Cell). WfCell i c) (sym (get_or-append cs (x ∷ []) blank i l)) (w.each i l))
          (λ l.
          let q : i ≡ length cs = omega (arith, length-append cs (x ∷ [])) in
          subst (λ (j : ℕ). WfCell j (get_or (cs ++ (x ∷ [])) j blank)) (sym q)
          (subst (λ (c : Cell). WfCell (length cs) c) (sym (ap (λ (j : ℕ). get_or (cs ++ (x ∷ [])) j blank) (sym (add-zero (length cs))) ∙ get_or-append-add cs (x ∷ []) 0 blank)) y));
    }

pub wf-insert : (cs : List Cell) (x : Cell) → Wf cs → WfCell (length cs) x → Wf (insert cs x)
wf-insert cs x w y = go (find_cases cs x)
  where
    go : (find cs x < length cs) ⊎ (find cs x ≡ length cs) → Wf (insert cs x)
    go (inl h) = rw (insert-old cs x h) w
    go (inr e) = rw (insert-new cs x e) (wf-snoc cs x w y)

-- the first cells of a store
pub cells-front : (m n : ℕ) (t d : List ℕ) → m ≤ n → take m (cells_of n t d) ≡ cells_of m t d
unfolding cells_of
cells-front m zero t d h = let q : m ≡ 0 = omega arith in rw q
cells-front m (suc n) t d h =
    split m (suc n)
    (λ l.
    take-append-le m (cells_of n t d) (cell_at t d n ∷ []) (rw (cells-length n t d) (omega arith)) ∙ cells-front m n t d (omega arith))
    (λ l.
    let q : m ≡ suc n = omega arith in
    rw q (take_all (suc n) (cells_of n t d ++ (cell_at t d n ∷ [])) (rw (length-append (cells_of n t d) (cell_at t d n ∷ []), cells-length n t d) (omega arith))))
