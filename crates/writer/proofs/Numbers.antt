-- Numbers as bytes: the library's are those of the definitions. Assumes nothing.
use mathlib.Core.Path.{◌≡◌, refl, sym, subst, ◌∙◌}
use mathlib.Core.List.{[], ◌∷◌, ◌++◌}
use Prim.Native.Nat.{ℕ, zero, suc, ◌+◌, ◌-◌, ◌/◌, ◌%◌, ◌^◌, ◌<◌, ◌≤◌}
use native.Mathlib.Nat.{zero-add, pow-suc, mul_comm, div-div-eq-div-mul}
use native.Mathlib.Omega.{arith}
use lib.ListN.{take, drop}
use lib.Seq.{take_all}
use Rattle.std.specs.Int.{byte_at, bytes_high_first, bytes_low_first}
use Rattle.scheme.specs.Bytes.{be, le}
use Rattle.laws.specs.Fields.{length-be}

-- ---- a number as bytes, as the library gives them

byte-next : (i n : ℕ) → byte_at (suc i) n ≡ byte_at i (n / 256)
byte-next zero n = refl
byte-next (suc i) n = rw (pow-suc, mul_comm (256 ^ suc i) 256, div-div-eq-div-mul)

high-next : (k n : ℕ) → bytes_high_first (suc k) n ≡ bytes_high_first k (n / 256) ++ (n % 256) ∷ []
high-next zero n = refl
high-next (suc k) n = rw (byte-next k n, high-next k n)

high-is : (k n : ℕ) → bytes_high_first k n ≡ be k n
high-is zero n = refl
high-is (suc k) n = high-next k n ∙ rw (high-is k (n / 256))

high-last : (j k n : ℕ) → drop j (bytes_high_first (j + k) n) ≡ be k n
high-last zero k n = rw zero-add (high-is k n)
high-last (suc j) k n = let e : suc j + k ≡ suc (j + k) = omega arith in rw e (high-last j k n)

-- the last k of m bytes
pub be-last : (m k n : ℕ) → k ≤ m → take (m - (m - k)) (drop (m - k) (bytes_high_first m n)) ≡ be k n
be-last m k n h =
    let e : m ≡ m - k + k = omega arith in
    let d : drop (m - k) (bytes_high_first m n) ≡ be k n = subst (λ (i : ℕ). drop (m - k) (bytes_high_first i n) ≡ be k n) (sym e) (high-last (m - k) k n) in
    rw d (take_all (m - (m - k)) (be k n) (rw length-be (omega arith)))

low-next : (i k n : ℕ) → bytes_low_first (suc i) k n ≡ bytes_low_first i k (n / 256)
low-next i zero n = refl
low-next i (suc k) n = rw (byte-next i n, low-next (suc i) k n)

pub low-is : (k n : ℕ) → bytes_low_first 0 k n ≡ le k n
low-is zero n = refl
low-is (suc k) n = rw (low-next 0 k n, low-is k (n / 256))

-- the bit behind the first r bits
pub bit_behind : (r : ℕ) → r < 8 → 128 / 2 ^ r ≡ 2 ^ (7 - r)
bit_behind zero h = refl
bit_behind (suc zero) h = refl
bit_behind (suc (suc zero)) h = refl
bit_behind (suc (suc (suc zero))) h = refl
bit_behind (suc (suc (suc (suc zero)))) h = refl
bit_behind (suc (suc (suc (suc (suc zero))))) h = refl
bit_behind (suc (suc (suc (suc (suc (suc zero)))))) h = refl
bit_behind (suc (suc (suc (suc (suc (suc (suc zero))))))) h = refl
bit_behind (suc (suc (suc (suc (suc (suc (suc (suc r)))))))) h = absurd (omega arith)
