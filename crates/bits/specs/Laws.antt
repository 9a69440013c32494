-- When a field is whole, where it ends, and how the fields by place are those of the definitions. Assumes nothing.
use Prim.Native.Nat.{ℕ, zero, suc, ◌+◌, ◌-◌, ◌*◌, ◌≤◌, ◌<◌}
use Rattle.std.proofs.Math.Path.{◌≡◌, refl, ap}
use Rattle.std.proofs.Common.{sym, ◌∙◌, zero-add, length-drop, length-take-le, drop-cons, drop-drop, leb-true, leb-false, le-leb}
use Rattle.std.specs.Prelude.{Bool, true, false, List, [], ◌∷◌, take, drop, get_or, leb, min, Ok, Err}
use native.Mathlib.Omega.{arith}
use Rattle.std.proofs.Math.ListN.{length}
use Rattle.std.proofs.Math.Seq.{take-nil}
use Rattle.std.proofs.lemmas.Bool.{lt-leb}
use Rattle.scheme.specs.Refusals.{CUT}
use Rattle.scheme.specs.Res.{Res, then, refusal}
use Rattle.scheme.specs.declared.Refusal.{Refusal}
use Rattle.scheme.specs.Bytes.{unbe, chunk, field, fields}
use Rattle.bits.specs.Field.{last_eight, field_at, byte_at, skip_at, skip_fields_at, number_at, numbers_at}

-- a chunk that is whole, and one that is cut
pub chunk_whole : (b : List ℕ) (p n : ℕ) → p + n ≤ length b → chunk b p n ≡ Ok (take n (drop p b))
unfolding chunk
chunk_whole b p n h = rw (le-leb _ _ h)

pub chunk-cut : (b : List ℕ) (p n : ℕ) → length b < p + n → chunk b p n ≡ Err (refusal CUT p)
unfolding chunk
chunk-cut b p n h = rw (lt-leb _ _ h)

ok_inj : {A : Type 0} (x y : A) → ◌≡◌ {A = Res A} (Ok x) (Ok y) → x ≡ y
ok_inj x y e = cc

-- by cases: whole or cut
pub chunk-cases : {A : Type 0} (b : List ℕ) (p n : ℕ) → (p + n ≤ length b → chunk b p n ≡ Ok (take n (drop p b)) → A) → (length b < p + n → chunk b p n ≡ Err (refusal CUT p) → A) → A
chunk-cases {A} b p n f g = go (leb (p + n) (length b)) refl
  where
    go : (t : Bool) → leb (p + n) (length b) ≡ t → A
    go true e = f (leb-true _ _ e) (chunk_whole b p n (leb-true _ _ e))
    go false e = g (leb-false _ _ e) (chunk-cut b p n (leb-false _ _ e))

pub chunk-inv : (b : List ℕ) (p n : ℕ) (xs : List ℕ) → chunk b p n ≡ Ok xs → (p + n ≤ length b) × (xs ≡ take n (drop p b))
chunk-inv b p n xs e = chunk-cases b p n (λ h g. (h, cc)) (λ h g. let z : ◌≡◌ {A = ℕ} 0 1 = cc in absurd (omega arith))

-- a part of the front of a list
pub drop-take : (m n : ℕ) (l : List ℕ) → drop m (take (m + n) l) ≡ take n (drop m l)
drop-take zero n l = rw zero-add
drop-take (suc m) n [] = rw (take-nil, take-nil)
drop-take (suc m) n (x ∷ l) = let e : suc m + n ≡ suc (m + n) = omega arith in rw e (drop-take m n l)

module _ (b : List ℕ) (p n : ℕ) where
  -- a field that is whole
  pub field-whole : p + n ≤ length b → field_at b p n ≡ Ok ((unbe 0 (last_eight (take n (drop p b))), p + n))
  unfolding field_at
  field-whole h = rw (chunk_whole b p n h)

  pub field_cut : length b < p + n → field_at b p n ≡ Err (refusal CUT p)
  unfolding field_at
  field_cut h = rw (chunk-cut b p n h)

  taken : p + n ≤ length b → length (take n (drop p b)) ≡ n
  taken h = length-take-le n (drop p b) (rw length-drop (omega arith))

  -- a field of at most eight bytes is all of them, a longer one the last eight
  pub field-few : p + n ≤ length b → n ≤ 8 → field_at b p n ≡ Ok ((number_at b n p, p + n))
  field-few h s =
      let e : n - 8 ≡ 0 = omega arith in
      field-whole h ∙ rw (taken h, e)

  pub field-many : p + n ≤ length b → 8 < n → field_at b p n ≡ Ok ((number_at b 8 (p + n - 8), p + n))
  field-many h s =
      let e : n ≡ n - 8 + 8 = omega arith in
      let q : take n (drop p b) ≡ take (n - 8 + 8) (drop p b) = ap (λ (k : ℕ). take k (drop p b)) e in
      let d : p + (n - 8) ≡ p + n - 8 = omega arith in
      field-whole h ∙ rw (taken h, q, drop-take (n - 8) 8 (drop p b), drop-drop (n - 8) p b, d)

  -- the same of both: the last n bytes, at most eight
  pub field-least : p + n ≤ length b → field_at b p n ≡ Ok (number_at b (min n 8) (p + n - min n 8), p + n)
  field-least h = go (leb n 8) refl
    where
      go : (t : Bool) → leb n 8 ≡ t → field_at b p n ≡ Ok (number_at b (min n 8) (p + n - min n 8), p + n)
      go true e =
          let m : min n 8 ≡ n = omega (arith, leb-true _ _ e) in
          let q : p + n - n ≡ p = omega arith in
          field-few h (leb-true _ _ e) ∙ rw (m, q)
      go false e =
          let m : min n 8 ≡ 8 = omega (arith, leb-false _ _ e) in
          field-many h (leb-false _ _ e) ∙ rw m

  -- as the definitions say it
  pub field_is : n ≤ 8 → field_at b p n ≡ then (field b p n) λ x. Ok ((x, p + n))
  unfolding field_at field
  field_is s = chunk-cases b p n (λ h e. field-few h s ∙ rw e) (λ h e. field_cut h ∙ rw e)

  pub field-ok : n ≤ 8 → (x : ℕ × ℕ) → field_at b p n ≡ Ok x → (field b p n ≡ Ok x.0) × (x.1 ≡ p + n) × (p + n ≤ length b)
  unfolding field_at field
  field-ok s x e =
      chunk-cases b p n
      (λ h g.
      let q : x ≡ (number_at b n p, p + n) = ok_inj _ _ (sym e ∙ field-few h s) in
      (rw (g, q), ap (λ (y : ℕ × ℕ). y.1) q, h))
      (λ h g. let k = field_cut h in let z : ◌≡◌ {A = ℕ} 0 1 = cc in absurd (omega arith))

  pub field-bad : (r : Refusal) → field_at b p n ≡ Err r → (field b p n ≡ Err r) × (r ≡ refusal CUT p)
  unfolding field_at field
  field-bad r e =
      chunk-cases b p n
      (λ h g. let k = field-whole h in let z : ◌≡◌ {A = ℕ} 0 1 = cc in absurd (omega arith))
      (λ h g. let k = field_cut h in let q : r ≡ refusal CUT p = cc in (rw (g, q), q))

  -- bytes that are passed over
  pub skip-whole : p + n ≤ length b → skip_at b p n ≡ Ok (p + n)
  unfolding skip_at
  skip-whole h = rw (chunk_whole b p n h)

  pub skip-cut : length b < p + n → skip_at b p n ≡ Err (refusal CUT p)
  unfolding skip_at
  skip-cut h = rw (chunk-cut b p n h)

  pub skip-past : (q : ℕ) → skip_at b p n ≡ Ok q → (q ≡ p + n) × (p + n ≤ length b)
  skip-past q e =
      chunk-cases b p n
      (λ h g. let k = skip-whole h in (cc, h))
      (λ h g. let k = skip-cut h in let z : ◌≡◌ {A = ℕ} 0 1 = cc in absurd (omega arith))

  pub skip-bad : (r : Refusal) → skip_at b p n ≡ Err r → (length b < p + n) × (r ≡ refusal CUT p)
  skip-bad r e =
      chunk-cases b p n
      (λ h g. let k = skip-whole h in let z : ◌≡◌ {A = ℕ} 0 1 = cc in absurd (omega arith))
      (λ h g. let k = skip-cut h in (h, cc))

module _ (b : List ℕ) (p : ℕ) where
  one_byte : p < length b → take 1 (drop p b) ≡ get_or b p 0 ∷ []
  one_byte h = rw (drop-cons b p 0 h)

  pub byte-whole : p < length b → byte_at b p ≡ Ok ((get_or b p 0, p + 1))
  unfolding byte_at field
  byte-whole h = let g : p + 1 ≤ length b = omega arith in rw (chunk_whole b p 1 g, one_byte h, zero-add)

  pub byte_cut : length b ≤ p → byte_at b p ≡ Err (refusal CUT p)
  unfolding byte_at field
  byte_cut h = let g : length b < p + 1 = omega arith in rw (chunk-cut b p 1 g)

  pub byte-is : (x : ℕ × ℕ) → byte_at b p ≡ Ok x → (p < length b) × (x.0 ≡ get_or b p 0) × (x.1 ≡ p + 1)
  byte-is x e =
      chunk-cases b p 1
      (λ h g.
      let k : p < length b = omega arith in
      let q : x ≡ (get_or b p 0, p + 1) = ok_inj _ _ (sym e ∙ byte-whole k) in
      (k, ap (λ (y : ℕ × ℕ). y.0) q, ap (λ (y : ℕ × ℕ). y.1) q))
      (λ h g. let k = byte_cut (omega arith) in let z : ◌≡◌ {A = ℕ} 0 1 = cc in absurd (omega arith))

  pub byte-bad : (r : Refusal) → byte_at b p ≡ Err r → r ≡ refusal CUT p
  byte-bad r e =
      chunk-cases b p 1
      (λ h g. let k = byte-whole (omega arith) in let z : ◌≡◌ {A = ℕ} 0 1 = cc in absurd (omega arith))
      (λ h g. let k = byte_cut (omega arith) in cc)

-- fields that are passed over, one after another
module _ (b : List ℕ) (k : ℕ) where
  pub skip-fields-none : (p : ℕ) → skip_fields_at b k 0 p ≡ Ok p
  unfolding skip_fields_at
  skip-fields-none p = let e : p + 0 * k ≡ p = omega arith in ap Ok e

  pub skip-fields-past : (n p q : ℕ) → skip_at b p k ≡ Ok q → skip_fields_at b k (suc n) p ≡ skip_fields_at b k n q
  unfolding skip_fields_at field
  skip-fields-past n p q e =
      let h = skip-past b p k q e in
      rw (chunk_whole b p k h.1, h.0) (go (fields b k n (p + k)))
    where
      go : (s : Res (List ℕ)) → then (then s λ xs. Ok (number_at b k p ∷ xs)) (λ xs. Ok (p + suc n * k)) ≡ then s λ xs. Ok (p + k + n * k)
      go (Err r) = refl
      go (Ok xs) = let z : p + suc n * k ≡ p + k + n * k = omega arith in rw z

  pub skip-fields-cut : (n p : ℕ) (r : Refusal) → skip_at b p k ≡ Err r → skip_fields_at b k (suc n) p ≡ Err r
  unfolding skip_at skip_fields_at field
  skip-fields-cut n p r e =
      chunk-cases b p k
      (λ h g. let z : ◌≡◌ {A = ℕ} 0 1 = cc in absurd (omega arith))
      (λ h g. let q : r ≡ refusal CUT p = cc in rw (g, q))

  -- n fields of k bytes end n * k bytes on, within the bytes
  pub skip-fields-end : (n p q : ℕ) → skip_fields_at b k n p ≡ Ok q → (q ≡ p + n * k) × (p ≤ length b → p + n * k ≤ length b)
  skip-fields-end zero p q e =
      let h : q ≡ p = ok_inj _ _ (sym e ∙ skip-fields-none p) in
      (omega arith, λ g. omega arith)
  skip-fields-end (suc n) p q e =
      chunk-cases b p k
      (λ h g.
      let r = skip-fields-end n (p + k) q (sym (skip-fields-past n p (p + k) (skip-whole b p k h)) ∙ e) in
      let z : p + suc n * k ≡ p + k + n * k = omega arith in
      (r.0 ∙ sym z, λ _. rw z (r.1 h)))
      (λ h g. let c = skip-fields-cut n p (refusal CUT p) (skip-cut b p k h) in let z : ◌≡◌ {A = ℕ} 0 1 = cc in absurd (omega arith))

  -- the numbers of fields that are whole
  pub fields-are : (n p : ℕ) → fields b k n p ≡ then (skip_fields_at b k n p) λ q. Ok (numbers_at b k n p)
  unfolding skip_fields_at field
  fields-are zero p = refl
  fields-are (suc n) p =
      chunk-cases b p k
      (λ h g. rw g (go (fields b k n (p + k)) (fields-are n (p + k))))
      (λ h g. rw g)
    where
      go : (s : Res (List ℕ)) → s ≡ then (then s λ xs. Ok (p + k + n * k)) (λ q. Ok (numbers_at b k n (p + k)))
          → then s (λ xs. Ok (number_at b k p ∷ xs)) ≡ then (then (then s λ xs. Ok (number_at b k p ∷ xs)) (λ xs. Ok (p + suc n * k))) (λ q. Ok (numbers_at b k (suc n) p))
      go (Err r) e = refl
      go (Ok xs) e = let h : xs ≡ numbers_at b k n (p + k) = cc in rw h

  pub length-numbers : (n p : ℕ) → length (numbers_at b k n p) ≡ n
  length-numbers zero p = refl
  length-numbers (suc n) p = ap suc (length-numbers n (p + k))
