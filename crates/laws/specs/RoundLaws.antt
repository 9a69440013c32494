-- The cells that lie in the memory of a list of cells are that list. Assumes nothing.
use Prim.Native.Nat.{ℕ, zero, suc, ◌+◌, ◌*◌, ◌-◌, ◌<◌, ◌≤◌}
use Rattle.std.specs.Prelude.{◌≡◌, replicate}
use Rattle.std.proofs.Math.Path.{refl, sym, ap}
use Rattle.std.proofs.Common.{subst, ◌∙◌, add-zero, zero-mul, arith, length-append, get_or-take, get_or-append-add, take-suc}
use mathlib.Core.List.{List, [], ◌∷◌, ◌++◌, append-nil, append_assoc}
use Rattle.std.proofs.Math.ListN.{length, get_or, take, drop}
use Rattle.std.proofs.lemmas.List.{length-replicate}
use Rattle.std.proofs.Math.Seq.{drop-append-add, take_at, split_at, take-length, length-take-le}
use Rattle.scheme.specs.Cells.{Cell, blank}
use Rattle.scheme.specs.Bits.{bytes_for}
use Rattle.scheme.specs.Memory.{cell_at, cells_of, row_of, block_of, rows, blocks, lay_table, lay_bytes}
use Rattle.laws.specs.Wf.{Wf}

rows_append : (p xs ys : List Cell) → rows p (xs ++ ys) ≡ rows p xs ++ rows (p ++ xs) ys
unfolding rows
rows_append p [] ys = ap (λ (q : List Cell). rows q ys) (sym (append-nil p))
rows_append p (x ∷ xs) ys =
    ap (λ (l : List ℕ). row_of p x ++ l) (rows_append (p ++ x ∷ []) xs ys ∙ ap (λ (q : List Cell). rows (p ++ x ∷ []) xs ++ rows q ys) (append_assoc p (x ∷ []) xs))
    ∙ sym (append_assoc (row_of p x) (rows (p ++ x ∷ []) xs) (rows (p ++ (x ∷ xs)) ys))

blocks-append : (xs ys : List Cell) → blocks (xs ++ ys) ≡ blocks xs ++ blocks ys
unfolding blocks
blocks-append [] ys = refl
blocks-append (x ∷ xs) ys = ap (λ (l : List ℕ). block_of x ++ l) (blocks-append xs ys) ∙ sym (append_assoc (block_of x) (blocks xs) (blocks ys))

pub rows-length : (p cs : List Cell) → length (rows p cs) ≡ length cs * 7
unfolding rows
rows-length p [] = sym (zero-mul 7)
rows-length p (c ∷ cs) = length-append (row_of p c) (rows (p ++ c ∷ []) cs) ∙ rw (rows-length (p ++ c ∷ []) cs) (omega arith)

block-length : (c : Cell) → length c.bytes ≤ 128 → length (block_of c) ≡ 128
block-length c h = length-append c.bytes (replicate (128 - length c.bytes) 0) ∙ rw (length-replicate {A = ℕ} (128 - length c.bytes) 0) (omega arith)

pub blocks-length : (cs : List Cell) → ((i : ℕ) → i < length cs → length (get_or cs i blank).bytes ≤ 128) → length (blocks cs) ≡ length cs * 128
unfolding blocks
blocks-length [] h = sym (zero-mul 128)
blocks-length (c ∷ cs) h =
    length-append (block_of c) (blocks cs)
    ∙ rw (block-length c (h 0 (omega arith)), blocks-length cs (λ i l. h (suc i) (omega arith))) (omega arith)

refs-back : (rs x : List ℕ) → length rs ≤ 4 → take (length rs) (get_or rs 0 0 ∷ get_or rs 1 0 ∷ get_or rs 2 0 ∷ get_or rs 3 0 ∷ x) ≡ rs
refs-back [] x h = refl
refs-back (a ∷ []) x h = refl
refs-back (a ∷ b ∷ []) x h = refl
refs-back (a ∷ b ∷ c ∷ []) x h = refl
refs-back (a ∷ b ∷ c ∷ d ∷ []) x h = refl
refs-back (a ∷ b ∷ c ∷ d ∷ e ∷ rs) x h = absurd (omega arith)

-- what lies past a list's length p
module _ (xs ys : List ℕ) (p : ℕ) (e : length xs ≡ p) where
  past-at : (k : ℕ) → get_or (xs ++ ys) (p + k) 0 ≡ get_or ys k 0
  past-at k = subst (λ (m : ℕ). get_or (xs ++ ys) (m + k) 0 ≡ get_or ys k 0) e (get_or-append-add xs ys k 0)

  past-from : (k : ℕ) → drop (p + k) (xs ++ ys) ≡ drop k ys
  past-from k = subst (λ (m : ℕ). drop (m + k) (xs ++ ys) ≡ drop k ys) e (drop-append-add xs ys k)

-- a cell, read back from behind a front of n records
module _ (c : Cell) (n : ℕ) (small : length c.refs ≤ 4) (size : length c.bytes ≡ bytes_for c.len) (ft fd rt rd : List ℕ) (et : length ft ≡ n * 7) (ed : length fd ≡ n * 128) where
  abbrev row : List ℕ
  row = row_of [] c ++ rt

  pub cell-back : cell_at (ft ++ (row_of [] c ++ rt)) (fd ++ (block_of c ++ rd)) n ≡ c
  unfolding cell_at
  cell-back =
      let t : List ℕ = ft ++ row in
      let flag : get_or (ft ++ row) (n * 7) 0 ≡ c.exotic = ap (λ (k : ℕ). get_or (ft ++ row) k 0) (sym (add-zero (n * 7))) ∙ past-at ft row (n * 7) et 0 in
      let bits : get_or (ft ++ row) (n * 7 + 1) 0 ≡ c.len = past-at ft row (n * 7) et 1 in
      let count : get_or (ft ++ row) (n * 7 + 2) 0 ≡ length c.refs = past-at ft row (n * 7) et 2 in
      let refs : take (length c.refs) (drop (n * 7 + 3) (ft ++ row)) ≡ c.refs = ap (λ (l : List ℕ). take (length c.refs) l) (past-from ft row (n * 7) et 3) ∙ refs-back c.refs rt small in
      let from : drop (n * 128) (fd ++ (block_of c ++ rd)) ≡ block_of c ++ rd = ap (λ (k : ℕ). drop k (fd ++ (block_of c ++ rd))) (sym (add-zero (n * 128))) ∙ past-from fd (block_of c ++ rd) (n * 128) ed 0 in
      let bytes : take (bytes_for c.len) (block_of c ++ rd) ≡ c.bytes = ap (λ (l : List ℕ). take (bytes_for c.len) l) (append_assoc c.bytes (replicate (128 - length c.bytes) 0) rd) ∙ take_at c.bytes (replicate (128 - length c.bytes) 0 ++ rd) (bytes_for c.len) size in
      rw (flag, bits, count, refs, from, bytes)

-- the fields of a well-formed list that a layout needs
pub wf-small : (cs : List Cell) (w : Wf cs) (i : ℕ) → i < length cs → length (get_or cs i blank).bytes ≤ 128
wf-small cs w i h = let x = w.each i h in rw x.size (omega (arith, x.bits))

get_or-of_take : (cs : List Cell) (n i : ℕ) → i < n → get_or (take n cs) i blank ≡ get_or cs i blank
get_or-of_take cs n i h = get_or-take n cs i blank h

module _ (cs : List Cell) (w : Wf cs) (rt rd : List ℕ) where
  -- the nth cell, where the rows and blocks of cs stand in front
  nth_back : (n : ℕ) → n < length cs → cell_at (rows [] cs ++ rt) (blocks cs ++ rd) n ≡ get_or cs n blank
  unfolding rows blocks
  nth_back n h =
      let c : Cell = get_or cs n blank in
      let x = w.each n h in
      let f : List Cell = take n cs in
      let g : List Cell = drop (suc n) cs in
      let s : cs ≡ f ++ (c ∷ g) = split_at cs n blank h in
      let m : length f ≡ n = length-take-le n cs (omega arith) in
      let r : rows [] cs ++ rt ≡ rows [] f ++ (row_of [] c ++ (rows (f ++ c ∷ []) g ++ rt)) =
      ap (λ (l : List Cell). rows [] l ++ rt) s
      ∙ ap (λ (l : List ℕ). l ++ rt) (rows_append [] f (c ∷ g))
      ∙ append_assoc (rows [] f) (row_of [] c ++ rows (f ++ c ∷ []) g) rt
      ∙ ap (λ (l : List ℕ). rows [] f ++ l) (append_assoc (row_of [] c) (rows (f ++ c ∷ []) g) rt) in
      let b : blocks cs ++ rd ≡ blocks f ++ (block_of c ++ (blocks g ++ rd)) =
      ap (λ (l : List Cell). blocks l ++ rd) s
      ∙ ap (λ (l : List ℕ). l ++ rd) (blocks-append f (c ∷ g))
      ∙ append_assoc (blocks f) (block_of c ++ blocks g) rd
      ∙ ap (λ (l : List ℕ). blocks f ++ l) (append_assoc (block_of c) (blocks g) rd) in
      let et : length (rows [] f) ≡ n * 7 = rows-length [] f ∙ ap (λ (k : ℕ). k * 7) m in
      let small : (i : ℕ) → i < length f → length (get_or f i blank).bytes ≤ 128 = λ i l. rw (get_or-of_take cs n i (rw m at l)) (wf-small cs w i (omega (arith, rw m at l))) in
      let ed : length (blocks f) ≡ n * 128 = blocks-length f small ∙ ap (λ (k : ℕ). k * 128) m in
      ap (λ (l : List ℕ). cell_at l (blocks cs ++ rd) n) r
      ∙ ap (λ (l : List ℕ). cell_at (rows [] f ++ (row_of [] c ++ (rows (f ++ c ∷ []) g ++ rt))) l n) b
      ∙ cell-back c n x.count x.size (rows [] f) (blocks f) (rows (f ++ c ∷ []) g ++ rt) (blocks g ++ rd) et ed

  front-back : (n : ℕ) → n ≤ length cs → cells_of n (rows [] cs ++ rt) (blocks cs ++ rd) ≡ take n cs
  unfolding cells_of
  front-back zero h = refl
  front-back (suc n) h =
      ap (λ (l : List Cell). l ++ (cell_at (rows [] cs ++ rt) (blocks cs ++ rd) n ∷ [])) (front-back n (omega arith))
      ∙ ap (λ (c : Cell). take n cs ++ (c ∷ [])) (nth_back n h)
      ∙ sym (take-suc cs n blank h)

-- what lies in the memory of cs is cs
pub cells-back : (cap : ℕ) (cs : List Cell) → Wf cs → cells_of (length cs) (lay_table cap cs) (lay_bytes cap cs) ≡ cs
unfolding lay_table lay_bytes
cells-back cap cs w = front-back cs w _ _ (length cs) (omega arith) ∙ take-length cs

-- the numbers and the bytes of the nth record
module _ (cs : List Cell) (w : Wf cs) (n : ℕ) (h : n < length cs) where
  pub nth_row : (rt : List ℕ) (k : ℕ) → get_or (rows [] cs ++ rt) (n * 7 + k) 0 ≡ get_or (row_of [] (get_or cs n blank) ++ (rows (take n cs ++ get_or cs n blank ∷ []) (drop (suc n) cs) ++ rt)) k 0
  unfolding rows
  nth_row rt k =
      let c : Cell = get_or cs n blank in
      let f : List Cell = take n cs in
      let g : List Cell = drop (suc n) cs in
      let m : length f ≡ n = length-take-le n cs (omega arith) in
      let et : length (rows [] f) ≡ n * 7 = rows-length [] f ∙ ap (λ (k : ℕ). k * 7) m in
      ap (λ (l : List Cell). get_or (rows [] l ++ rt) (n * 7 + k) 0) (split_at cs n blank h)
      ∙ ap (λ (l : List ℕ). get_or (l ++ rt) (n * 7 + k) 0) (rows_append [] f (c ∷ g))
      ∙ ap (λ (l : List ℕ). get_or l (n * 7 + k) 0) (append_assoc (rows [] f) (row_of [] c ++ rows (f ++ c ∷ []) g) rt)
      ∙ ap (λ (l : List ℕ). get_or (rows [] f ++ l) (n * 7 + k) 0) (append_assoc (row_of [] c) (rows (f ++ c ∷ []) g) rt)
      ∙ past-at (rows [] f) (row_of [] c ++ (rows (f ++ c ∷ []) g ++ rt)) (n * 7) et k

  pub nth_block : (rd : List ℕ) → take 128 (drop (n * 128) (blocks cs ++ rd)) ≡ block_of (get_or cs n blank)
  unfolding blocks
  nth_block rd =
      let c : Cell = get_or cs n blank in
      let f : List Cell = take n cs in
      let g : List Cell = drop (suc n) cs in
      let m : length f ≡ n = length-take-le n cs (omega arith) in
      let small : (i : ℕ) → i < length f → length (get_or f i blank).bytes ≤ 128 = λ i l. rw (get_or-of_take cs n i (rw m at l)) (wf-small cs w i (omega (arith, rw m at l))) in
      let ed : length (blocks f) ≡ n * 128 = blocks-length f small ∙ ap (λ (k : ℕ). k * 128) m in
      ap (λ (k : ℕ). take 128 (drop k (blocks cs ++ rd))) (sym (add-zero (n * 128)))
      ∙ ap (λ (l : List Cell). take 128 (drop (n * 128 + 0) (blocks l ++ rd))) (split_at cs n blank h)
      ∙ ap (λ (l : List ℕ). take 128 (drop (n * 128 + 0) (l ++ rd))) (blocks-append f (c ∷ g))
      ∙ ap (λ (l : List ℕ). take 128 (drop (n * 128 + 0) l)) (append_assoc (blocks f) (block_of c ++ blocks g) rd)
      ∙ ap (λ (l : List ℕ). take 128 l) (past-from (blocks f) (block_of c ++ blocks g ++ rd) (n * 128) ed 0)
      ∙ ap (λ (l : List ℕ). take 128 l) (append_assoc (block_of c) (blocks g) rd)
      ∙ take_at (block_of c) (blocks g ++ rd) 128 (block-length c (wf-small cs w n h))
