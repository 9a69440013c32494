-- The last 1 bit of a byte. Assumes nothing.
use Rattle.std.specs.Prelude.{ℕ, suc, ◌+◌, ◌-◌, ◌*◌, ◌/◌, ◌%◌, ◌^◌, ◌≤◌, ◌<◌, ◌≡◌, refl, Bool, true, ◌&&◌, ◌||◌, eqb, leb}
use Rattle.std.proofs.Common.{arith, eq-eqb, ne_eqb, leb-true, eqb-true}
use Rattle.laws.specs.Tests.{and_left, and_right}
use Rattle.laws.specs.CellRound.{all_below, all_below-true}
use Rattle.scheme.specs.Bits.{zeros}

-- one step of the search
pub zeros-odd : (k x : ℕ) → x % 2 ≡ 1 → zeros (suc k) x ≡ 0
zeros-odd k x e = rw (eq-eqb (x % 2) 1 e)

pub zeros_even : (k x : ℕ) → (x % 2 ≡ 1 → ⊥) → zeros (suc k) x ≡ suc (zeros k (x / 2))
zeros_even k x e = rw (ne_eqb (x % 2) 1 e)

-- of a byte that is not 0 the last 1 bit is one of eight, and without it the byte is its bits before that one
abbrev last_test : ℕ → Bool
last_test y = eqb y 0 || (leb (zeros 8 y) 7 && eqb (y - 2 ^ zeros 8 y) (y / 2 ^ (zeros 8 y + 1) * 2 ^ (zeros 8 y + 1)))

last_tests : all_below 256 (λ y. last_test y) ≡ true
last_tests = refl

pub last_bit : (y : ℕ) → y < 256 → (y ≡ 0 → ⊥) → (zeros 8 y ≤ 7) × (y - 2 ^ zeros 8 y ≡ y / 2 ^ (zeros 8 y + 1) * 2 ^ (zeros 8 y + 1))
last_bit y h n =
    let t = all_below-true 256 (λ y. last_test y) last_tests y h in
    let u : (leb (zeros 8 y) 7 && eqb (y - 2 ^ zeros 8 y) (y / 2 ^ (zeros 8 y + 1) * 2 ^ (zeros 8 y + 1))) ≡ true = rw (ne_eqb y 0 n) at t in
    (leb-true (zeros 8 y) 7 (and_left (leb (zeros 8 y) 7) _ u), eqb-true _ _ (and_right (leb (zeros 8 y) 7) _ u))

-- the last of the first r bits of a byte
unit_tests : all_below 8 (λ r. eqb r 0 || eqb (128 / 2 ^ (r - 1)) (2 ^ (8 - r))) ≡ true
unit_tests = refl

pub unit_is : (r : ℕ) → 1 ≤ r → r ≤ 7 → 128 / 2 ^ (r - 1) ≡ 2 ^ (8 - r)
unit_is r g h =
    let t = all_below-true 8 (λ r. eqb r 0 || eqb (128 / 2 ^ (r - 1)) (2 ^ (8 - r))) unit_tests r (omega arith) in
    let z : (r ≡ 0 → ⊥) = λ e. omega arith in
    eqb-true _ _ (rw (ne_eqb r 0 z) at t)
