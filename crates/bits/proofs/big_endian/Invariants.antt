-- `bits::big_endian` meets its contract. The invariant: what is read so far, gone on with by the bytes left, is the whole number, and it has at most `i` places.
-- Assumes nothing.
use Prim.Native.Nat.{◌<◌, ◌-◌, ◌+◌, ◌^◌}
use mathlib.Core.Path.{◌≡◌}
use lib.ListN.{take, drop}
use Rattle.scheme.specs.Bytes.{unbe}
use Rattle.bits.proofs.big_endian.Given as goal

abbrev pub invariant-loop-i : goal.invariant-loop-i
invariant-loop-i l = (l.value < 256 ^ l.i) × (unbe l.value (take (l.n - l.i) (drop (l.at + l.i) l.bytes)) ≡ unbe 0 (take l.n (drop l.at l.bytes)))
