-- `raw_cell::padding_bits` meets its contract: the library counts the same zeros. Assumes nothing.
use Prim.Native.Nat.{ℕ, zero, suc, ◌%◌, ◌/◌, ◌<◌, ◌≤◌}
use mathlib.Core.Path.{◌≡◌, refl}
use mathlib.Core.Bool.{Bool, true, false, cond}
use native.Mathlib.Omega.{arith}
use lib.Count.{under}
use lib.Dec.{eqb}
use Rattle.std.specs.Int.Count.{count_trailing_zeros}
use Rattle.scheme.specs.Bits.{zeros}
use Rattle.raw_cell.proofs.padding_bits.Goals as goal

same : (k n : ℕ) → count_trailing_zeros k n ≡ zeros k n
unfolding count_trailing_zeros
same zero n = refl
same (suc k) n = rw (same k (n / 2)) (digit (n % 2) (omega arith))
  where
    digit : (d : ℕ) → d < 2 → under d (zeros k (n / 2)) ≡ cond (eqb d 1) 0 (suc (zeros k (n / 2)))
    digit zero h = refl
    digit (suc zero) h = refl
    digit (suc (suc d)) h = absurd (omega arith)

-- they are at most the bits that are looked at
most : (k n : ℕ) → zeros k n ≤ k
most zero n = omega arith
most (suc k) n = go (eqb (n % 2) 1) (most k (n / 2))
  where
    go : (t : Bool) {z : ℕ} → z ≤ k → cond t 0 (suc z) ≤ suc k
    go true h = omega arith
    go false h = omega (arith, h)

pub returns : goal.returns
returns c = omega (arith, same 8 c.args.b, most 8 c.args.b)
