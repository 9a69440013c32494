-- What is written as a number reads back as that number: the bytes from a place on, and the fields there.
-- Assumes nothing.
use Rattle.std.specs.Prelude.{◌≡◌, refl, ℕ, zero, suc, ◌+◌, ◌*◌, ◌/◌, ◌%◌, ◌^◌, ◌≤◌, ◌<◌, Bool, true, false, cond, List, [], ◌∷◌, ◌++◌, length, take, drop, eqb, Ok}
use Rattle.std.proofs.Common.{sym, ap, ◌∙◌, zero-add, arith, append_assoc, length-append, length-drop, take-append-drop, drop_at, drop-drop, length-take-le, le-leb, eqb-true}
use Rattle.std.proofs.Math.Seq.{take_at}
use Rattle.std.proofs.lemmas.Bool.{eqb-false}
use Rattle.scheme.specs.Bytes.{be, unbe, le, unle, width, chunk, field, fields}

pub length-be : (k n : ℕ) → length (be k n) ≡ k
length-be zero n = refl
length-be (suc k) n = omega (arith, length-append (be k (n / 256)) (n % 256 ∷ []), length-be k (n / 256))

unbe-snoc : (a : ℕ) (xs : List ℕ) (x : ℕ) → unbe a (xs ++ x ∷ []) ≡ unbe a xs * 256 + x
unbe-snoc a [] x = refl
unbe-snoc a (y ∷ ys) x = unbe-snoc (a * 256 + y) ys x

pub unbe-be : (k n : ℕ) → n < 256 ^ k → unbe 0 (be k n) ≡ n
unbe-be zero n h = omega arith
unbe-be (suc k) n h =
    let ih = unbe-be k (n / 256) (omega arith) in
    rw (unbe-snoc 0 (be k (n / 256)) (n % 256), ih) (omega arith)

pub length-le : (k n : ℕ) → length (le k n) ≡ k
length-le zero n = refl
length-le (suc k) n = omega (arith, length-le k (n / 256))

pub unle-le : (k n : ℕ) → n < 256 ^ k → unle (le k n) ≡ n
unle-le zero n h = omega arith
unle-le (suc k) n h = omega (arith, unle-le k (n / 256) (omega arith))

-- the fewest bytes hold the number, and are no more than any that do
pub width-holds : (f n : ℕ) → n < 256 ^ f → n < 256 ^ width f n
width-holds zero n h = h
width-holds (suc f) n h = go (eqb n 0) refl (width-holds f (n / 256) (omega arith))
  where
    go : (b : Bool) → eqb n 0 ≡ b → n / 256 < 256 ^ width f (n / 256) → n < 256 ^ cond b 0 (suc (width f (n / 256)))
    go true e ih = let q = eqb-true n 0 e in omega arith
    go false e ih = let g : n < 256 ^ suc (width f (n / 256)) = omega arith in g

pub width-le : (f k n : ℕ) → n < 256 ^ k → width f n ≤ k
width-le zero k n h = omega arith
width-le (suc f) k n h = go (eqb n 0) refl k h (λ j g. width-le f j (n / 256) g)
  where
    go : (b : Bool) → eqb n 0 ≡ b → (k : ℕ) → n < 256 ^ k → ((j : ℕ) → n / 256 < 256 ^ j → width f (n / 256) ≤ j) → cond b 0 (suc (width f (n / 256))) ≤ k
    go true e k h ih = omega arith
    go false e zero h ih = absurd (eqb-false n 0 e (omega arith))
    go false e (suc k) h ih = omega (arith, ih k (omega arith))

pub width-most : (f n : ℕ) → width f n ≤ f
width-most zero n = omega arith
width-most (suc f) n = go (eqb n 0) (width-most f (n / 256))
  where
    go : (b : Bool) → width f (n / 256) ≤ f → cond b 0 (suc (width f (n / 256))) ≤ suc f
    go true ih = omega arith
    go false ih = omega arith

-- the bytes of b from p on are l
pub record At (b : List ℕ) (p : ℕ) (l : List ℕ) : Type 0 where
  pub within : p ≤ length b
  pub rest : drop p b ≡ l

pub at-start : (b : List ℕ) → At b 0 b
at-start b = record { within = omega arith; rest = refl }

pub at_move : {b : List ℕ} {p : ℕ} {l : List ℕ} (q : ℕ) → At b p l → p ≡ q → At b q l
at_move q A e = rw (← e) A

pub at_same : {b : List ℕ} {p : ℕ} {l : List ℕ} (m : List ℕ) → At b p l → l ≡ m → At b p m
at_same m A e = rw (← e) A

module _ {b : List ℕ} {p : ℕ} (xs l : List ℕ) (k : ℕ) (A : At b p (xs ++ l)) (e : length xs ≡ k) where
  pub at_room : p + k ≤ length b
  at_room = omega (arith, length-drop p b, ap length A.rest, length-append xs l, A.within)

  pub at_next : At b (p + k) l
  at_next = record { within = at_room; rest = sym (drop-drop k p b) ∙ rw A.rest (drop_at xs l k e) }

  pub at-chunk : chunk b p k ≡ Ok xs
  unfolding chunk
  at-chunk = rw (le-leb (p + k) (length b) at_room, A.rest, take_at xs l k e)

pub at-end : {b : List ℕ} {p : ℕ} → At b p [] → p ≡ length b
at-end {b} {p} A = omega (arith, length-drop p b, ap length A.rest, A.within)

pub field-be : {b : List ℕ} {p : ℕ} (k n : ℕ) (l : List ℕ) → At b p (be k n ++ l) → n < 256 ^ k → field b p k ≡ Ok n
unfolding chunk field
field-be k n l A h = rw (at-chunk (be k n) l k A (length-be k n), unbe-be k n h)

pub field-byte : {b : List ℕ} {p : ℕ} (x : ℕ) (l : List ℕ) → At b p (x ∷ l) → field b p 1 ≡ Ok x
unfolding chunk field
field-byte x l A = rw (at-chunk (x ∷ []) l 1 A refl, zero-add x)

-- n numbers of k bytes can be read where there are so many bytes
pub fields-any : {b : List ℕ} (k n : ℕ) {p : ℕ} (xs l : List ℕ) → At b p (xs ++ l) → length xs ≡ n * k → (vs : List ℕ) × (fields b k n p ≡ Ok vs)
unfolding chunk field
fields-any k zero xs l A e = ([], refl)
fields-any {b} k (suc n) {p} xs l A e =
    let e₁ = length-take-le k xs (omega arith) in
    let A₁ = at_same (take k xs ++ (drop k xs ++ l)) A (ap (λ (z : List ℕ). z ++ l) (sym (take-append-drop k xs)) ∙ append_assoc (take k xs) (drop k xs) l) in
    let ih = fields-any k n (drop k xs) l (at_next (take k xs) (drop k xs ++ l) k A₁ e₁) (omega (arith, length-drop k xs)) in
    (unbe 0 (take k xs) ∷ ih.0, rw (at-chunk (take k xs) (drop k xs ++ l) k A₁ e₁, ih.1))
