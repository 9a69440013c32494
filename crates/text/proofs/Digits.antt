-- Laws of decimal and hexadecimal digits. Assumes nothing.
use mathlib.Core.Path.{◌≡◌, refl, sym, ap, ◌∙◌}
use mathlib.Core.List.{List, [], ◌∷◌, ◌++◌}
use mathlib.Core.Bool.{Bool, true, false, cond}
use Prim.Native.Nat.{ℕ, zero, suc, ◌+◌, ◌*◌, ◌/◌, ◌%◌, ◌^◌, ◌<◌, ◌≤◌}
use native.Mathlib.Nat.{pow-suc}
use native.Mathlib.Omega.{arith}
use lib.ListN.{length, set, length-append}
use lib.Dec.{ltb}
use borrow.Author.Tests.{lt-ltb, le-ltb}
use Rattle.scheme.specs.Text.{digits, hex_digit, hex}
use Rattle.laws.specs.Puts.{puts}

-- ---- decimal

cond-length : (b : Bool) (x y : ℕ) (l : List ℕ) (k : ℕ) → length l ≤ k → length (cond b (x ∷ []) (l ++ (y ∷ []))) ≤ suc k
cond-length true x y l k h = omega arith
cond-length false x y l k h = simp length-append (omega arith)

pub digits-length : (k n : ℕ) → length (digits k n) ≤ k
unfolding digits
digits-length zero n = omega arith
digits-length (suc k) n = cond-length (ltb n 10) (48 + n) (48 + n % 10) (digits k (n / 10)) k (digits-length k (n / 10))

pub digits-one : (k n : ℕ) → n < 10 → digits (suc k) n ≡ (48 + n) ∷ []
unfolding digits
digits-one k n h = rw (lt-ltb n 10 h)

-- a number below 10 ^ k takes at most k digits: room for another changes nothing
digits_more : (k n : ℕ) → n < 10 ^ suc k → digits (suc (suc k)) n ≡ digits (suc k) n
unfolding digits
digits_more zero n h = digits-one 1 n (omega arith) ∙ sym (digits-one 0 n (omega arith))
digits_more (suc k) n h =
    ap (λ l. cond (ltb n 10) ((48 + n) ∷ []) (l ++ (48 + n % 10) ∷ []))
    (digits_more k (n / 10) (tenth (10 ^ suc k) (rw (pow-suc 10 (suc k)) at h)))
  where
    tenth : (m : ℕ) → n < m * 10 → n / 10 < m
    tenth m h = omega arith

-- the last digit behind those of the tenth
pub digits-two : (n : ℕ) → 10 ≤ n → n < 18446744073709551616 → digits 20 n ≡ digits 20 (n / 10) ++ (48 + n % 10) ∷ []
unfolding digits
digits-two n l h = rw (le-ltb n 10 l) (ap (λ (x : List ℕ). x ++ (48 + n % 10) ∷ []) (sym (digits_more 18 (n / 10) (tenth h))))
  where
    tenth : n < 18446744073709551616 → n / 10 < 10000000000000000000
    tenth h = omega arith

-- a length of bits takes at most four digits
pub digits_4 : (n : ℕ) → n ≤ 1023 → digits 4 n ≡ digits 20 n
digits_4 n h = sym (grow 16)
  where
    below : (k : ℕ) → n < 10 ^ suc (suc (suc (suc k)))
    below zero = omega arith
    below (suc k) = rw (pow-suc 10 (suc (suc (suc (suc k))))) (up (10 ^ suc (suc (suc (suc k)))) (below k))
      where
        up : (m : ℕ) → n < m → n < m * 10
        up m h = omega arith

    grow : (k : ℕ) → digits (suc (suc (suc (suc k)))) n ≡ digits 4 n
    grow zero = refl
    grow (suc k) = digits_more (suc (suc (suc k))) n (below k) ∙ grow k

-- ---- hexadecimal

pub hex-append : (a b : List ℕ) → hex (a ++ b) ≡ hex a ++ hex b
unfolding hex
hex-append [] b = refl
hex-append (x ∷ a) b = ap (λ l. hex_digit (x / 16) ∷ hex_digit (x % 16) ∷ l) (hex-append a b)

pub hex-length : (a : List ℕ) → length (hex a) ≡ 2 * length a
unfolding hex
hex-length [] = refl
hex-length (x ∷ a) = let e = hex-length a in omega arith

-- two stores, one behind the other
pub puts_2 : (l : List ℕ) (i a b : ℕ) → set (set l i a) (i + 1) b ≡ puts l i (a ∷ b ∷ [])
unfolding puts
puts_2 l i a b = refl
