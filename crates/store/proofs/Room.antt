-- The room that a sound store has. Assumes nothing.
use Rattle.std.specs.Prelude.{◌≡◌, ℕ, ◌+◌, ◌*◌, ◌/◌, ◌<◌, ◌≤◌, List, true, length, get_or}
use Rattle.std.proofs.Common.{arith}
use Rattle.scheme.specs.Memory.{sound}
use Rattle.laws.specs.Records.{sound-is}

pub room : (n : ℕ) (t d : List ℕ) → sound n t d ≡ true → (n ≤ 4096) × (n * 7 ≤ length t) × (n * 128 ≤ length d) × (length d ≡ length t / 7 * 128)
room n t d e = let s = sound-is n t d e in let z = s.lengths in (omega (arith, s.held), omega (arith, s.held), omega (arith, s.held), z.bytes)

pub record_room : (n : ℕ) (t d : List ℕ) (i : ℕ) → sound n t d ≡ true → i < n → (get_or t (i * 7) 0 ≤ 1) × (get_or t (i * 7 + 1) 0 ≤ 1023)
record_room n t d i e l = let s = sound-is n t d e in let k = s.cells i l in (k.flag, k.bits)
