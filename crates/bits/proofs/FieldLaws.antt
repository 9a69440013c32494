-- One digit more of a big-endian number. Assumes nothing.
use Prim.Native.Nat.{ℕ, suc, ◌+◌, ◌*◌, ◌-◌, ◌^◌, ◌≤◌, ◌<◌}
use mathlib.Core.Path.{◌≡◌}
use mathlib.Core.List.{List}
use native.Mathlib.Omega.{arith}
use native.Mathlib.Nat.{pow-suc, pow-le-pow_right}
use native.Mathlib.Numerals.{add-one}
use lib.ListN.{length, take, drop, get_or}
use lib.Seq.{drop-cons}
use lib.Dec.{lit<}
use Rattle.scheme.specs.Bytes.{unbe}

-- one byte more is the number's next digit
pub be-more : (l : List ℕ) (at n i v : ℕ) → i < n → at + n ≤ length l
    → unbe (v * 256 + get_or l (at + i) 0) (take (n - (i + 1)) (drop (at + (i + 1)) l)) ≡ unbe v (take (n - i) (drop (at + i) l))
be-more l at n i v h f =
    let e : n - i ≡ suc (n - (i + 1)) = omega arith in
    let e2 : at + (i + 1) ≡ suc (at + i) = omega arith in
    let g : at + i < length l = omega arith in
    rw (e, e2, drop-cons l (at + i) 0 g)

-- one digit more, and the number has one more place
pub be-bound : (i v b : ℕ) → v < 256 ^ i → b < 256 → v * 256 + b < 256 ^ (i + 1)
be-bound i v b hv hb = rw (add-one, pow-suc) (omega arith)

-- a number of at most eight places fits 64 bits
pub be-fits : (i v : ℕ) → v < 256 ^ i → i ≤ 8 → v < 2 ^ 64
be-fits i v hv hi = omega (arith, pow-le-pow_right {n = 256} (lit< tt) hi)
