-- The front of a text of bytes: what is read of it is what is read of the whole text, or a field of it is not whole.
-- Assumes nothing.
use Rattle.std.specs.Prelude.{◌≡◌, ℕ, zero, suc, ◌+◌, ◌*◌, ◌/◌, ◌%◌, ◌≤◌, ◌<◌, Bool, cond, length, drop, replicate, eqb, Ok, Err}
use Rattle.std.proofs.Math.Path.{refl}
use Rattle.std.proofs.Common.{sym, ap, ◌∙◌, arith, length-take-le}
use Rattle.std.proofs.Math.Bool.{true, false}
use mathlib.Core.List.{List, [], ◌∷◌, ◌++◌}
use Rattle.std.proofs.Math.ListN.{take}
use Rattle.std.proofs.Math.Seq.{take-take}
use Rattle.std.proofs.Math.Dec.{leb}
use borrow.Author.Tests.{leb-true, leb-false, le-leb, lt-leb}
use Rattle.scheme.specs.Refusals.{CUT, SIZE, OFFSET, COUNTS, CELLS, SCRATCH, ROOTROOM, REFS, CRC}
use Rattle.scheme.specs.Res.{Res, then, check, refusal}
use Rattle.scheme.specs.Bytes.{unbe, chunk, field, fields, unle}
use Rattle.scheme.specs.Bag.{hashes, bits, raw_cell, Past, Header, header, numbers, checksum, read_scratch}
use Rattle.scheme.specs.Layout.{layout, tag_ok}
use Rattle.scheme.specs.Limits.{max_cells, max_refs}
use Rattle.scheme.specs.Crc.{crc_of}
use Rattle.scheme.specs.Cells.{Cell}
use Rattle.laws.specs.Accept.{then_use, check_inv}
use Rattle.theorems.specs.Places.{total, cut_place, number_at, size_in, off_in, count_in, roots_in, idx_in, crc_in, cell_fields}

pub total-append : (us vs : List ℕ) → total (us ++ vs) ≡ total us + total vs
total-append [] vs = omega arith
total-append (u ∷ us) vs = omega (arith, total-append us vs)

pub total-replicate : (n w : ℕ) → total (replicate n w) ≡ n * w
total-replicate zero w = omega arith
total-replicate (suc n) w = omega (arith, total-replicate n w)

-- the first field that ends past k stands in the first part, if that ends past k, and else in the second
pub cut-first : (us vs : List ℕ) (k p : ℕ) → k < p + total us → cut_place p k (us ++ vs) ≡ cut_place p k us
cut-first [] vs k p h = go vs
  where
    go : (vs : List ℕ) → cut_place p k vs ≡ p
    go [] = refl
    go (v ∷ vs) = rw (lt-leb (p + v) k (omega arith))
cut-first (u ∷ us) vs k p h = go (leb (p + u) k) (cut-first us vs k (p + u) (omega arith))
  where
    go : (t : Bool) → cut_place (p + u) k (us ++ vs) ≡ cut_place (p + u) k us → cond t (cut_place (p + u) k (us ++ vs)) p ≡ cond t (cut_place (p + u) k us) p
    go true ih = ih
    go false ih = refl

pub cut-second : (us vs : List ℕ) (k p : ℕ) → p + total us ≤ k → cut_place p k (us ++ vs) ≡ cut_place (p + total us) k vs
cut-second [] vs k p h = let e : p + 0 ≡ p = omega arith in rw e
cut-second (u ∷ us) vs k p h =
    let e : p + (u + total us) ≡ p + u + total us = omega arith in
    rw (le-leb (p + u) k (omega arith), e) (cut-second us vs k (p + u) (omega arith))

-- x is what is read of the first k bytes by fields of the widths ws from place p on, where the whole text gives a
pub data Front {A : Type 0} (k p : ℕ) (ws : List ℕ) (a : A) (x : Res A) : Type 0 where
  within : p + total ws ≤ k → x ≡ Ok a → Front k p ws a x
  past : k < p + total ws → x ≡ Err (refusal CUT (cut_place p k ws)) → Front k p ws a x

pub front-then : {A B : Type 0} {k p : ℕ} {us : List ℕ} (vs : List ℕ) (q : ℕ) {a : A} {c : B} {x : Res A} (f : A → Res B)
    → Front k p us a x → q ≡ p + total us → (q ≤ k → Front k q vs c (f a)) → Front k p (us ++ vs) c (then x f)
front-then {k = k} {p} {us} vs q {a} {c} f (past h e) eq F = past (omega (arith, total-append us vs)) (rw (e, cut-first us vs k p h))
front-then {k = k} {p} {us} vs q {a} {c} f (within h e) eq F = rw e (go (F (omega arith)))
  where
    go : Front k q vs c (f a) → Front k p (us ++ vs) c (f a)
    go (within g y) = within (omega (arith, total-append us vs)) y
    go (past g y) = past (omega (arith, total-append us vs)) (rw (cut-second us vs k p (omega arith), ← eq) y)

-- a step that takes no field
pub front-ok : {A B : Type 0} {k p : ℕ} {vs : List ℕ} {a : A} {c : B} {x : Res A} (f : A → Res B) → x ≡ Ok a → Front k p vs c (f a) → Front k p vs c (then x f)
front-ok f e F = rw e F

-- a last step that takes no field
pub front-last : {A B : Type 0} {k p : ℕ} {us : List ℕ} {a : A} {c : B} {x : Res A} (f : A → Res B) → Front k p us a x → f a ≡ Ok c → Front k p us c (then x f)
front-last f (within h e) y = within h (rw e y)
front-last f (past h e) y = past h (rw e)

-- a step whose fields end past k: what would follow is not read
pub front-stop : {A B : Type 0} {k p : ℕ} {us : List ℕ} {a : A} {c : B} {x : Res A} (f : A → Res B) → Front k p us a x → k < p + total us → Front k p us c (then x f)
front-stop f (within h e) g = absurd (omega arith)
front-stop f (past h e) g = past h (rw e)

take-drop-take : (n p k : ℕ) (b : List ℕ) → p + n ≤ k → take n (drop p (take k b)) ≡ take n (drop p b)
take-drop-take n zero k b h = take-take n k b (omega arith)
take-drop-take n (suc p) zero b h = absurd (omega arith)
take-drop-take n (suc p) (suc k) [] h = refl
take-drop-take n (suc p) (suc k) (x ∷ b) h = take-drop-take n p k b (omega arith)

pub chunk-is : (b : List ℕ) (p n : ℕ) (xs : List ℕ) → chunk b p n ≡ Ok xs → (p + n ≤ length b) × (xs ≡ take n (drop p b))
unfolding chunk
chunk-is b p n xs e =
    then_use (check (leb (p + n) (length b)) (refusal CUT p)) _ _ e λ u c e₁.
    (leb-true (p + n) (length b) (check_inv (leb (p + n) (length b)) (refusal CUT p) u c), cc)

pub field_is : (b : List ℕ) (p n x : ℕ) → field b p n ≡ Ok x → (p + n ≤ length b) × (x ≡ number_at b p n)
unfolding field
field_is b p n x e =
    then_use (chunk b p n) _ _ e λ xs c e₁.
    let r = chunk-is b p n xs c in
    let q : x ≡ unbe 0 xs = cc in
    (r.0, q ∙ ap (unbe 0) r.1)

-- the place behind a cell is where its last field ends
pub cell-next : (b : List ℕ) (size p : ℕ) (c : Past Cell) → raw_cell b size p ≡ Ok c → c.next ≡ p + total (cell_fields b size p)
unfolding raw_cell cell_fields
cell-next b size p c e =
    then_use (field b p 1) _ _ e λ d1 x₁ e₁.
    then_use (check (leb (d1 % 8) max_refs) (refusal REFS p)) _ _ e₁ λ u₂ x₂ e₂.
    then_use (field b (p + 1) 1) _ _ e₂ λ d2 x₃ e₃.
    then_use (chunk b (p + 2) (hashes d1)) _ _ e₃ λ u₄ x₄ e₄.
    then_use (chunk b (p + 2 + hashes d1) ((d2 + 1) / 2)) _ _ e₄ λ xs x₅ e₅.
    then_use (bits (eqb (d2 % 2) 1) (p + 2 + hashes d1) xs) _ _ e₅ λ w x₆ e₆.
    then_use (fields b size (d1 % 8) (p + 2 + hashes d1 + (d2 + 1) / 2)) _ _ e₆ λ rs x₇ e₇.
    let n₁ = (field_is b p 1 d1 x₁).1 in
    let n₂ = (field_is b (p + 1) 1 d2 x₃).1 in
    let q : c.next ≡ p + 2 + hashes d1 + (d2 + 1) / 2 + d1 % 8 * size = cc in
    rw (← n₁, ← n₂, q, total-replicate (d1 % 8) size) (omega arith)

-- what an accepted header says of the bytes
pub record HeaderIs (b : List ℕ) (h : Header) : Type 0 where
  pub size_is : h.shape.size ≡ size_in b
  pub idx_is : h.shape.has_idx ≡ idx_in b
  pub crc-is : h.shape.has_crc ≡ crc_in b
  pub list-is : h.shape.has-list ≡ true
  pub off-is : h.off ≡ off_in b
  pub cells_is : h.cells ≡ count_in b
  pub roots-is : h.roots ≡ roots_in b
  pub next-is : h.next ≡ 6 + 3 * h.shape.size + h.off

pub header_is : (scratch room : ℕ) (b : List ℕ) (h : Header) → header scratch room b ≡ Ok h → HeaderIs b h
unfolding header layout
header_is scratch room b h e =
    then_use (field b 0 4) _ _ e λ tag x₁ e₁.
    then_use (tag_ok tag) _ _ e₁ λ u₂ x₂ e₂.
    then_use (field b 4 1) _ _ e₂ λ flags x₃ e₃.
    let l = layout tag flags in
    then_use (check (leb l.size 4) (refusal SIZE 4)) _ _ e₃ λ u₄ x₄ e₄.
    then_use (field b 5 1) _ _ e₄ λ off x₅ e₅.
    then_use (check (leb off 8) (refusal OFFSET 5)) _ _ e₅ λ u₆ x₆ e₆.
    then_use (field b 6 l.size) _ _ e₆ λ cells x₇ e₇.
    then_use (field b (6 + l.size) l.size) _ _ e₇ λ roots x₈ e₈.
    then_use (field b (6 + 2 * l.size) l.size) _ _ e₈ λ absent x₉ e₉.
    then_use (check (leb (roots + absent) cells) (refusal COUNTS 6)) _ _ e₉ λ u₁₀ x₁₀ e₁₀.
    then_use (check (leb cells max_cells) (refusal CELLS 6)) _ _ e₁₀ λ u₁₁ x₁₁ e₁₁.
    then_use (check (leb (read_scratch cells) scratch) (refusal SCRATCH (read_scratch cells))) _ _ e₁₁ λ u₁₂ x₁₂ e₁₂.
    then_use (check (leb roots room) (refusal ROOTROOM roots)) _ _ e₁₂ λ u₁₃ x₁₃ e₁₃.
    then_use (field b (6 + 3 * l.size) off) _ _ e₁₃ λ sum x₁₄ e₁₄.
    let q : record { shape = l; off = off; cells = cells; roots = roots; next = 6 + 3 * l.size + off } ≡ h = cc in
    let n₁ = (field_is b 4 1 flags x₃).1 in
    let n₂ = (field_is b 5 1 off x₅).1 in
    let n₃ = (field_is b 6 l.size cells x₇).1 in
    let n₄ = (field_is b (6 + l.size) l.size roots x₈).1 in
    rw (← q) (record {
      size_is = rw n₁;
      idx_is = rw n₁;
      crc-is = rw n₁;
      list-is = refl;
      off-is = n₂;
      cells_is = n₃ ∙ rw n₁;
      roots-is = n₄ ∙ rw n₁;
      next-is = refl;
    })

module _ (k : ℕ) (b : List ℕ) (h : k ≤ length b) where
  pub front-chunk : (p n : ℕ) (xs : List ℕ) → chunk b p n ≡ Ok xs → Front k p (n ∷ []) xs (chunk (take k b) p n)
  unfolding chunk
  front-chunk p n xs e = go (leb (p + n) k) refl
    where
      go : (t : Bool) → leb (p + n) k ≡ t → Front k p (n ∷ []) xs (chunk (take k b) p n)
      go true y =
          let g = leb-true (p + n) k y in
          let r = chunk-is b p n xs e in
          within (omega arith) (rw (length-take-le k b h, y, take-drop-take n p k b g) (ap Ok (sym r.1)))
      go false y =
          let g = leb-false (p + n) k y in
          past (omega arith) (rw (length-take-le k b h, y))

  pub front-field : (p n x : ℕ) → field b p n ≡ Ok x → Front k p (n ∷ []) x (field (take k b) p n)
  unfolding field
  front-field p n x e =
      then_use (chunk b p n) _ _ e λ xs c e₁.
      front-last _ (front-chunk p n xs c) e₁

  pub front-fields : (w n p : ℕ) (xs : List ℕ) → fields b w n p ≡ Ok xs → p ≤ k → Front k p (replicate n w) xs (fields (take k b) w n p)
  front-fields w zero p xs e g = within (omega arith) e
  front-fields w (suc n) p xs e g =
      then_use (field b p w) _ _ e λ y ey e₁.
      then_use (fields b w n (p + w)) _ _ e₁ λ ys es e₂.
      front-then (replicate n w) (p + w) _ (front-field p w y ey) (omega arith) λ j.
      front-last _ (front-fields w n (p + w) ys es j) e₂

  pub front-cell : (size p : ℕ) (c : Past Cell) → raw_cell b size p ≡ Ok c → Front k p (cell_fields b size p) c (raw_cell (take k b) size p)
  unfolding raw_cell cell_fields
  front-cell size p c e =
      then_use (field b p 1) _ _ e λ d1 x₁ e₁.
      then_use (check (leb (d1 % 8) max_refs) (refusal REFS p)) _ _ e₁ λ u₂ x₂ e₂.
      then_use (field b (p + 1) 1) _ _ e₂ λ d2 x₃ e₃.
      then_use (chunk b (p + 2) (hashes d1)) _ _ e₃ λ u₄ x₄ e₄.
      then_use (chunk b (p + 2 + hashes d1) ((d2 + 1) / 2)) _ _ e₄ λ xs x₅ e₅.
      then_use (bits (eqb (d2 % 2) 1) (p + 2 + hashes d1) xs) _ _ e₅ λ w x₆ e₆.
      then_use (fields b size (d1 % 8) (p + 2 + hashes d1 + (d2 + 1) / 2)) _ _ e₆ λ rs x₇ e₇.
      let n₁ = (field_is b p 1 d1 x₁).1 in
      let n₂ = (field_is b (p + 1) 1 d2 x₃).1 in
      rw (← n₁, ← n₂)
      (front-then _ (p + 1) _ (front-field p 1 d1 x₁) refl λ h₁.
      front-ok _ x₂
      (front-then _ (p + 2) _ (front-field (p + 1) 1 d2 x₃) (omega arith) λ h₂.
      front-then _ (p + 2 + hashes d1) _ (front-chunk (p + 2) (hashes d1) u₄ x₄) (omega arith) λ h₃.
      front-then _ (p + 2 + hashes d1 + (d2 + 1) / 2) _ (front-chunk (p + 2 + hashes d1) ((d2 + 1) / 2) xs x₅) (omega arith) λ h₄.
      front-ok _ x₆
      (front-last _ (front-fields size (d1 % 8) (p + 2 + hashes d1 + (d2 + 1) / 2) rs x₇ h₄) e₇)))

  pub front-header : (scratch room : ℕ) (c : Header) → header scratch room b ≡ Ok c
      → Front k 0 (4 ∷ 1 ∷ 1 ∷ c.shape.size ∷ c.shape.size ∷ c.shape.size ∷ c.off ∷ []) c (header scratch room (take k b))
  unfolding header
  front-header scratch room c e =
      then_use (field b 0 4) _ _ e λ tag x₁ e₁.
      then_use (tag_ok tag) _ _ e₁ λ u₂ x₂ e₂.
      then_use (field b 4 1) _ _ e₂ λ flags x₃ e₃.
      let l = layout tag flags in
      then_use (check (leb l.size 4) (refusal SIZE 4)) _ _ e₃ λ u₄ x₄ e₄.
      then_use (field b 5 1) _ _ e₄ λ off x₅ e₅.
      then_use (check (leb off 8) (refusal OFFSET 5)) _ _ e₅ λ u₆ x₆ e₆.
      then_use (field b 6 l.size) _ _ e₆ λ cells x₇ e₇.
      then_use (field b (6 + l.size) l.size) _ _ e₇ λ roots x₈ e₈.
      then_use (field b (6 + 2 * l.size) l.size) _ _ e₈ λ absent x₉ e₉.
      then_use (check (leb (roots + absent) cells) (refusal COUNTS 6)) _ _ e₉ λ u₁₀ x₁₀ e₁₀.
      then_use (check (leb cells max_cells) (refusal CELLS 6)) _ _ e₁₀ λ u₁₁ x₁₁ e₁₁.
      then_use (check (leb (read_scratch cells) scratch) (refusal SCRATCH (read_scratch cells))) _ _ e₁₁ λ u₁₂ x₁₂ e₁₂.
      then_use (check (leb roots room) (refusal ROOTROOM roots)) _ _ e₁₂ λ u₁₃ x₁₃ e₁₃.
      then_use (field b (6 + 3 * l.size) off) _ _ e₁₃ λ sum x₁₄ e₁₄.
      let q : record { shape = l; off = off; cells = cells; roots = roots; next = 6 + 3 * l.size + off } ≡ c = cc in
      rw (← q)
      (front-then _ 4 _ (front-field 0 4 tag x₁) refl λ h₁.
      front-ok _ x₂
      (front-then _ 5 _ (front-field 4 1 flags x₃) refl λ h₂.
      front-ok _ x₄
      (front-then _ 6 _ (front-field 5 1 off x₅) refl λ h₃.
      front-ok _ x₆
      (front-then _ (6 + l.size) _ (front-field 6 l.size cells x₇) (omega arith) λ h₄.
      front-then _ (6 + 2 * l.size) _ (front-field (6 + l.size) l.size roots x₈) (omega arith) λ h₅.
      front-then _ (6 + 3 * l.size) _ (front-field (6 + 2 * l.size) l.size absent x₉) (omega arith) λ h₆.
      front-ok _ x₁₀
      (front-ok _ x₁₁
      (front-ok _ x₁₂
      (front-ok _ x₁₃
      (front-last _ (front-field (6 + 3 * l.size) off sum x₁₄) refl))))))))

  pub front-numbers : (w n p : ℕ) (c : Past (List ℕ)) → numbers b w n p ≡ Ok c → p ≤ k → Front k p (replicate n w) c (numbers (take k b) w n p)
  unfolding numbers
  front-numbers w n p c e g =
      then_use (fields b w n p) _ _ e λ xs x₁ e₁.
      front-last _ (front-fields w n p xs x₁ g) e₁

  pub front-sum : (has : Bool) (p end : ℕ) → checksum has b p ≡ Ok end → p ≤ k → Front k p (cond has (4 ∷ []) []) end (checksum has (take k b) p)
  unfolding checksum
  front-sum false p end e g = within (omega arith) e
  front-sum true p end e g =
      then_use (chunk b p 4) _ _ e λ xs x₁ e₁.
      then_use (check (eqb (unle xs) (crc_of (take p b))) (refusal CRC p)) _ _ e₁ λ u x₂ e₂.
      let same : take p (take k b) ≡ take p b = take-take p k b g in
      let x₃ : check (eqb (unle xs) (crc_of (take p (take k b)))) (refusal CRC p) ≡ Ok u = rw same x₂ in
      front-then [] (p + 4) _ (front-chunk p 4 xs x₁) refl λ j.
      front-ok _ x₃ (within (omega arith) e₂)
