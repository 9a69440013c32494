-- What is read is written in the bytes that were read: fields, cells and the header of a text that is accepted, as texts of the grammar.
-- Assumes nothing.
use Rattle.std.specs.Prelude.{◌≡◌, ◌≢◌, ℕ, zero, suc, ◌+◌, ◌-◌, ◌*◌, ◌/◌, ◌%◌, ◌^◌, ◌≤◌, ◌<◌, Bool, true, false, cond, not, ◌&&◌, drop, eqb, leb, Ok}
use Rattle.std.proofs.Math.Path.{refl}
use Rattle.std.proofs.Common.{sym, ap, ◌∙◌, take-append-drop, drop-drop}
use native.Mathlib.Omega.{arith}
use mathlib.Core.List.Memᴰ.{head as here}
use mathlib.Core.List.Memᴰ.{tail as there}
use mathlib.Core.List.{List, [], ◌∷◌, ◌++◌, map, append_assoc, append-nil, Memᴰ as Mem}
use Rattle.std.proofs.Math.ListN.{length}
use borrow.Author.Tests.{leb-true, eqb-true, eqb-false, not-true}
use Rattle.scheme.specs.Limits.{max_refs}
use Rattle.scheme.specs.Refusals.{REFS, PADDING}
use Rattle.scheme.specs.Res.{check, refusal}
use Rattle.scheme.specs.Bytes.{be, unbe, le, unle, chunk, field, fields}
use Rattle.scheme.specs.Bits.{bit_of, last_of, zeros, unmark}
use Rattle.scheme.specs.Cells.{Cell}
use Rattle.scheme.specs.Bag.{hashes, bits, Bits, Past, raw_cell, raw_cells}
use Rattle.scheme.specs.Write.{all_be}
use Rattle.laws.specs.CellRound.{all_below, all_below-true}
use Rattle.laws.specs.CellLaws.{cell_path}
use Rattle.laws.specs.Tests.{and_left, and_right}
use Rattle.laws.specs.Accept.{Small, then_use, check_inv, chunk-inv}
use Rattle.theorems.specs.Front.{chunk-is}
use Rattle.theorems.specs.Grammar.{RawCell, ones_in, refs_descriptor, bits_descriptor, cell_text, cells_text, cell_of, RawCellOk}

-- ---- numbers

be-of : (k a : ℕ) (xs : List ℕ) → Small xs → be (k + length xs) (unbe a xs) ≡ be k a ++ xs
be-of k a [] S = let e : k + 0 ≡ k = omega arith in rw e (sym (append-nil (be k a)))
be-of k a (x ∷ xs) S =
    let h = S x (here refl) in
    let e : k + suc (length xs) ≡ suc k + length xs = omega arith in
    let q : (a * 256 + x) / 256 ≡ a = omega arith in
    let m : (a * 256 + x) % 256 ≡ x = omega arith in
    rw (e, be-of (suc k) (a * 256 + x) xs (λ y n. S y (there n)), q, m) (append_assoc (be k a) (x ∷ []) xs)

-- the bytes of the number that bytes are
pub be-unbe : (xs : List ℕ) → Small xs → be (length xs) (unbe 0 xs) ≡ xs
be-unbe xs S = let e : 0 + length xs ≡ length xs = omega arith in rw e at (be-of 0 0 xs S)

unbe-most : (m a : ℕ) (xs : List ℕ) → a < 256 ^ m → Small xs → unbe a xs < 256 ^ (m + length xs)
unbe-most m a [] h S = let e : m + 0 ≡ m = omega arith in rw e h
unbe-most m a (x ∷ xs) h S =
    let g = S x (here refl) in
    let e : m + suc (length xs) ≡ suc m + length xs = omega arith in
    let b : a * 256 + x < 256 ^ suc m = omega arith in
    rw e (unbe-most (suc m) (a * 256 + x) xs b (λ y n. S y (there n)))

pub unbe-bound : (xs : List ℕ) → Small xs → unbe 0 xs < 256 ^ length xs
unbe-bound xs S = let e : 0 + length xs ≡ length xs = omega arith in rw e at (unbe-most 0 0 xs (omega arith) S)

pub le-unle : (xs : List ℕ) → Small xs → le (length xs) (unle xs) ≡ xs
le-unle [] S = refl
le-unle (x ∷ xs) S =
    let h = S x (here refl) in
    let q : (x + 256 * unle xs) / 256 ≡ unle xs = omega arith in
    let m : (x + 256 * unle xs) % 256 ≡ x = omega arith in
    rw (q, m, le-unle xs (λ y n. S y (there n)))

-- ---- fields

-- from place p on stands the text w, up to place q
pub record Stands (b : List ℕ) (p : ℕ) (w : List ℕ) (q : ℕ) : Type 0 where
  pub within : q ≤ length b
  pub is : drop p b ≡ w ++ drop q b

pub stands-then : {b : List ℕ} {p q r : ℕ} {v w : List ℕ} → Stands b p v q → Stands b q w r → Stands b p (v ++ w) r
stands-then {b} {p} {q} {r} {v} {w} A B = record { within = B.within; is = A.is ∙ ap (λ (l : List ℕ). v ++ l) B.is ∙ sym (append_assoc v w (drop r b)) }

pub stands-none : (b : List ℕ) (p : ℕ) → p ≤ length b → Stands b p [] p
stands-none b p h = record { within = h; is = refl }

module _ (b : List ℕ) (S : Small b) where
  pub chunk-text : (p n : ℕ) (xs : List ℕ) → chunk b p n ≡ Ok xs → (length xs ≡ n) × Small xs × Stands b p xs (p + n)
  chunk-text p n xs e =
      let r = chunk-is b p n xs e in
      let i = chunk-inv b p n xs e S in
      (i.0, i.1, record { within = r.0; is = sym (take-append-drop n (drop p b)) ∙ rw (drop-drop n p b, r.1) })

  pub field-text : (p n x : ℕ) → field b p n ≡ Ok x → (x < 256 ^ n) × Stands b p (be n x) (p + n)
  unfolding field
  field-text p n x e =
      then_use (chunk b p n) _ _ e λ xs c e₁.
      let r = chunk-text p n xs c in
      let q : unbe 0 xs ≡ x = cc in
      go xs r.0 r.1 r.2 q
    where
      go : (xs : List ℕ) → length xs ≡ n → Small xs → Stands b p xs (p + n) → unbe 0 xs ≡ x → (x < 256 ^ n) × Stands b p (be n x) (p + n)
      go xs l T A q = rw (← q, ← l) (unbe-bound xs T, rw (be-unbe xs T, l) A)

  pub fields-text : (k n p : ℕ) (xs : List ℕ) → p ≤ length b → fields b k n p ≡ Ok xs → (length xs ≡ n) × ((x : ℕ) → Mem x xs → x < 256 ^ k) × Stands b p (all_be k xs) (p + n * k)
  fields-text k zero p xs h e =
      let q : [] ≡ xs = cc in
      let z : p + 0 * k ≡ p = omega arith in
      rw (← q, z) (refl, (λ x m. elim m [ ]), stands-none b p h)
  fields-text k (suc n) p xs h e =
      then_use (field b p k) _ _ e λ y ey e₁.
      then_use (fields b k n (p + k)) _ _ e₁ λ ys es e₂.
      let f = field-text p k y ey in
      let r = fields-text k n (p + k) ys f.1.within es in
      let q : y ∷ ys ≡ xs = cc in
      let z : p + suc n * k ≡ p + k + n * k = omega arith in
      rw (← q, z) (ap suc r.0, (λ x m. go ys y f.0 r.1 x m), stands-then f.1 r.2)
    where
      go : (ys : List ℕ) (y : ℕ) → y < 256 ^ k → ((x : ℕ) → Mem x ys → x < 256 ^ k) → (x : ℕ) → Mem x (y ∷ ys) → x < 256 ^ k
      go ys y f g x (here q) = rw q f
      go ys y f g x (there m) = g x m

-- ---- a cell

-- d1 is the sum of its parts
abbrev parts_test : ℕ → Bool
parts_test d =
    eqb (d % 8 + 8 * (d / 8 % 2) + 16 * bit_of (eqb (d / 16 % 2) 1) + 32 * (d / 32)) d
    && (eqb (hashes d) (cond (eqb (d / 16 % 2) 1) (34 * (ones_in (d / 32) + 1)) 0) && (leb (d / 32) 7 && leb (d / 8 % 2) 1))

parts_tests : all_below 256 (λ d. parts_test d) ≡ true
parts_tests = refl

pub record Parts (d : ℕ) : Type 0 where
  pub sum : d % 8 + 8 * (d / 8 % 2) + 16 * bit_of (eqb (d / 16 % 2) 1) + 32 * (d / 32) ≡ d
  pub hash_count : hashes d ≡ cond (eqb (d / 16 % 2) 1) (34 * (ones_in (d / 32) + 1)) 0
  pub level : d / 32 ≤ 7
  pub flag : d / 8 % 2 ≤ 1

parts : (d : ℕ) → d < 256 → Parts d
parts d h =
    let t = all_below-true 256 (λ d. parts_test d) parts_tests d h in
    let a = eqb (d % 8 + 8 * (d / 8 % 2) + 16 * bit_of (eqb (d / 16 % 2) 1) + 32 * (d / 32)) d in
    let b = eqb (hashes d) (cond (eqb (d / 16 % 2) 1) (34 * (ones_in (d / 32) + 1)) 0) in
    let c = leb (d / 32) 7 in
    let f = leb (d / 8 % 2) 1 in
    let t₁ = and_right a (b && (c && f)) t in
    let t₂ = and_right b (c && f) t₁ in
    record {
      sum = eqb-true _ _ (and_left a (b && (c && f)) t);
      hash_count = eqb-true _ _ (and_left b (c && f) t₁);
      level = leb-true _ _ (and_left c f t₂);
      flag = leb-true _ _ (and_right c f t₂);
    }

-- d2 from the data bytes
half_double : (d n : ℕ) → n ≡ (d + 1) / 2 → 2 * n - bit_of (eqb (d % 2) 1) ≡ d
half_double d n e = go (eqb (d % 2) 1) refl
  where
    go : (t : Bool) → eqb (d % 2) 1 ≡ t → 2 * n - bit_of t ≡ d
    go true x = let o = eqb-true (d % 2) 1 x in omega arith
    go false x = let o : d % 2 ≢ 1 = eqb-false (d % 2) 1 x in omega arith

pub record CellText (b : List ℕ) (size p : ℕ) (c : Past Cell) : Type 0 where
  pub raw : RawCell
  pub fine : RawCellOk raw
  pub is : cell_of raw ≡ c.it
  pub stands : Stands b p (cell_text size raw) c.next

-- what the data bytes stand for
bits_of_lem : (odd : Bool) (q : ℕ) (xs : List ℕ) (w : Bits) → bits odd q xs ≡ Ok w
    → (cond odd (8 * length xs - 1 - zeros 8 (last_of xs)) (8 * length xs) ≡ w.len) × (cond odd (unmark (zeros 8 (last_of xs)) xs) xs ≡ w.bytes) × (odd ≡ true → last_of xs ≡ 0 → ⊥)
unfolding bits
bits_of_lem false q xs w e = (cc, cc, λ o. let z : ◌≡◌ {A = ℕ} 0 1 = cc in absurd (omega arith))
bits_of_lem true q xs w e =
    then_use (check (not (eqb (last_of xs) 0)) (refusal PADDING q)) _ _ e λ u c e₁.
    (cc, cc, λ o. eqb-false (last_of xs) 0 (not-true (eqb (last_of xs) 0) (check_inv (not (eqb (last_of xs) 0)) (refusal PADDING q) u c)))

module _ (b : List ℕ) (S : Small b) (size p : ℕ) (d1 d2 : ℕ) (hs xs rs : List ℕ) (w : Bits) where
  abbrev odd : Bool
  odd = eqb (d2 % 2) 1

  abbrev raw_of : RawCell
  raw_of = record { exotic = d1 / 8 % 2; level = d1 / 32; has-hashes = eqb (d1 / 16 % 2) 1; hashes = hs; completed = odd; content = xs; refs = rs }

  cell_parts : d1 < 256 → d2 < 256 → d1 % 8 ≤ 4 → length hs ≡ hashes d1 → Small hs → length xs ≡ (d2 + 1) / 2 → Small xs → length rs ≡ d1 % 8
      → bits odd (p + 2 + hashes d1) xs ≡ Ok w
      → RawCellOk raw_of × (cell_of raw_of ≡ record { exotic = d1 / 8 % 2; len = w.len; bytes = w.bytes; refs = rs }) × (refs_descriptor raw_of ≡ d1) × (bits_descriptor raw_of ≡ d2)
  unfolding cell_of refs_descriptor bits_descriptor
  cell_parts h₁ h₂ few n₁ s₁ n₂ s₂ n₃ e =
      let P = parts d1 h₁ in
      let B = bits_of_lem odd (p + 2 + hashes d1) xs w e in
      let d = half_double d2 (length xs) n₂ in (
        record {
          exotic = P.flag;
          level = P.level;
          hashes = n₁ ∙ P.hash_count;
          hash_bytes = s₁;
          data_bytes = s₂;
          short = omega arith;
          some = B.2;
          refs = omega arith;
        },
        cell_path _ _ refl B.0 B.1 refl,
        rw n₃ P.sum,
        d,
      )

module _ (b : List ℕ) (S : Small b) where
  pub byte-text : (p x : ℕ) → field b p 1 ≡ Ok x → (x < 256) × Stands b p (x ∷ []) (p + 1)
  byte-text p x e =
      let f = field-text b S p 1 x e in
      let h : x < 256 = omega (arith, f.0) in
      let q : x % 256 ≡ x = omega arith in
      let A : Stands b p (x % 256 ∷ []) (p + 1) = f.1 in
      (h, rw q at A)

  pub cell-text : (size p : ℕ) (c : Past Cell) → raw_cell b size p ≡ Ok c → CellText b size p c
  unfolding raw_cell cell_text
  cell-text size p c e =
      then_use (field b p 1) _ _ e λ d1 x₁ e₁.
      then_use (check (leb (d1 % 8) max_refs) (refusal REFS p)) _ _ e₁ λ u₂ x₂ e₂.
      then_use (field b (p + 1) 1) _ _ e₂ λ d2 x₃ e₃.
      then_use (chunk b (p + 2) (hashes d1)) _ _ e₃ λ hs x₄ e₄.
      then_use (chunk b (p + 2 + hashes d1) ((d2 + 1) / 2)) _ _ e₄ λ xs x₅ e₅.
      then_use (bits (eqb (d2 % 2) 1) (p + 2 + hashes d1) xs) _ _ e₅ λ w x₆ e₆.
      then_use (fields b size (d1 % 8) (p + 2 + hashes d1 + (d2 + 1) / 2)) _ _ e₆ λ rs x₇ e₇.
      let t₁ = byte-text p d1 x₁ in
      let few = leb-true (d1 % 8) max_refs (check_inv (leb (d1 % 8) max_refs) (refusal REFS p) u₂ x₂) in
      let t₂ = byte-text (p + 1) d2 x₃ in
      let t₃ = chunk-text b S (p + 2) (hashes d1) hs x₄ in
      let t₄ = chunk-text b S (p + 2 + hashes d1) ((d2 + 1) / 2) xs x₅ in
      let t₅ = fields-text b S size (d1 % 8) (p + 2 + hashes d1 + (d2 + 1) / 2) rs t₄.2.within x₇ in
      let P = cell_parts b S size p d1 d2 hs xs rs w t₁.0 t₂.0 few t₃.0 t₃.1 t₄.0 t₄.1 t₅.0 x₆ in
      let m : p + 1 + 1 ≡ p + 2 = omega arith in
      let A₂ : Stands b (p + 1) (d2 ∷ []) (p + 2) = rw m at t₂.1 in
      let A = stands-then t₁.1 (stands-then A₂ (stands-then t₃.2 (stands-then t₄.2 t₅.2))) in
      let q : record {
        it = record { exotic = d1 / 8 % 2; len = w.len; bytes = w.bytes; refs = rs };
        next = p + 2 + hashes d1 + (d2 + 1) / 2 + d1 % 8 * size;
      } ≡ c = cc in
      rw (← q) (record {
        raw = raw_of b S size p d1 d2 hs xs rs w;
        fine = P.0;
        is = P.1;
        stands = rw (P.2, P.3) A;
      })

  pub record CellsText (size n p : ℕ) (c : Past (List Cell)) : Type 0 where
    pub raws : List RawCell
    pub many : length raws ≡ n
    pub fine : (r : RawCell) → Mem r raws → RawCellOk r
    pub is : map cell_of raws ≡ c.it
    pub stands : Stands b p (cells_text size raws) c.next

  pub cells-text : (size n p : ℕ) (c : Past (List Cell)) → p ≤ length b → raw_cells b size n p ≡ Ok c → CellsText size n p c
  cells-text size zero p c h e =
      let q : record { it = []; next = p } ≡ c = cc in
      rw (← q) (record { raws = []; many = refl; fine = λ r m. elim m [ ]; is = refl; stands = stands-none b p h })
  cells-text size (suc n) p c h e =
      then_use (raw_cell b size p) _ _ e λ f x₁ e₁.
      then_use (raw_cells b size n f.next) _ _ e₁ λ r x₂ e₂.
      let T = cell-text size p f x₁ in
      let R = cells-text size n f.next r T.stands.within x₂ in
      let q : record { it = f.it ∷ r.it; next = r.next } ≡ c = cc in
      rw (← q) (record {
        raws = T.raw ∷ R.raws;
        many = ap suc R.many;
        fine = λ x m. go T.raw R.raws T.fine R.fine x m;
        is = rw (T.is, R.is);
        stands = stands-then T.stands R.stands;
      })
    where
      go : (y : RawCell) (ys : List RawCell) → RawCellOk y → ((r : RawCell) → Mem r ys → RawCellOk r) → (x : RawCell) → Mem x (y ∷ ys) → RawCellOk x
      go y ys F G x (here q) = rw q F
      go y ys F G x (there m) = G x m
