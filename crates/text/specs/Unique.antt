-- What `width` and `put_decimal` promise leaves one outcome. Assumes nothing.
use Rattle.std.specs.Prelude.{◌≡◌, ℕ, ◌+◌, ◌≤◌, List, length}
use Rattle.scheme.specs.Text.{digits}
use Rattle.laws.specs.OneAnswer.{one-content, one-pair}
use Rattle.laws.specs.Puts.{puts}

-- the number of n's digits
pub one_width : (n r q : ℕ) → (r ≡ length (digits 20 n)) × (r ≤ 20) → (q ≡ length (digits 20 n)) × (q ≤ 20) → r ≡ q
one_width n r q a b = one-content a.0 b.0

-- the next place, and the output o afterwards
pub one_decimal : (o : List ℕ) (at n r q : ℕ) (o₁ o₂ : List ℕ) → (r ≡ at + length (digits 20 n)) × (o₁ ≡ puts o at (digits 20 n))
    → (q ≡ at + length (digits 20 n)) × (o₂ ≡ puts o at (digits 20 n)) → (r ≡ q) × (o₁ ≡ o₂)
one_decimal o at n r q o₁ o₂ = one-pair
