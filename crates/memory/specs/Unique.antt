-- Two outcomes that meet a function's contract are equal: the answer, and what the lent slice holds afterwards. Assumes nothing.
use Rattle.std.specs.Prelude.{◌≡◌, ℕ, ◌+◌, ◌*◌, ◌/◌, List, [], ◌∷◌, length, take, drop, replicate, get_or}
use Rattle.laws.specs.OneAnswer.{one-content, one-pair}
use Rattle.laws.specs.Puts.{puts}

pub one_field : (t : List ℕ) (i f r s : ℕ) → r ≡ get_or t (i * 7 + f) 0 → s ≡ get_or t (i * 7 + f) 0 → r ≡ s
one_field t i f r s p q = one-content p q

pub one-room : (t : List ℕ) (r s : ℕ) → r ≡ length t / 7 → s ≡ length t / 7 → r ≡ s
one-room t r s p q = one-content p q

pub one_data : (d : List ℕ) (i : ℕ) (x y : List ℕ) → x ≡ take 128 (drop (i * 128) d) → y ≡ take 128 (drop (i * 128) d) → x ≡ y
one_data d i x y p q = one-content p q

-- all 0, as `fill(0)` leaves it
pub one_zeroing : (xs ys zs : List ℕ) → ys ≡ replicate (length xs) 0 → zs ≡ replicate (length xs) 0 → ys ≡ zs
one_zeroing xs ys zs p q = one-content p q

pub one_entry : (xs : List ℕ) (i r s : ℕ) → r ≡ get_or xs i 0 → s ≡ get_or xs i 0 → r ≡ s
one_entry xs i r s p q = one-content p q

module _ (o : List ℕ) (at : ℕ) where
  pub one-put-byte : (b r s : ℕ) (o₁ o₂ : List ℕ) → (r ≡ at + 1) × (o₁ ≡ puts o at (b ∷ [])) → (s ≡ at + 1) × (o₂ ≡ puts o at (b ∷ [])) → (r ≡ s) × (o₁ ≡ o₂)
  one-put-byte b r s o₁ o₂ p q = one-pair p q

pub one-put : {A : Type 0} (o : List A) (at : ℕ) (src : List A) (r s : ℕ) (o₁ o₂ : List A) → (r ≡ at + length src) × (o₁ ≡ puts o at src)
    → (s ≡ at + length src) × (o₂ ≡ puts o at src) → (r ≡ s) × (o₁ ≡ o₂)
one-put o at src r s o₁ o₂ p q = one-pair p q
