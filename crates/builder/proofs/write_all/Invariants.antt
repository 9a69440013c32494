-- `builder::write_all` meets its contract. The loop's invariant: the first i bits are put in. Assumes nothing.
use Rattle.std.specs.Prelude.{◌≡◌, ℕ, List, length, take}
use Rattle.scheme.specs.Bits.{bits_of}
use Rattle.laws.specs.Puts.{puts}
use Rattle.laws.specs.BitLaws.{AllBytes}
use Rattle.builder.specs.Paper.{Yields}
use Rattle.builder.proofs.write_all.Given as goal

abbrev pub invariant-loop-i : goal.invariant-loop-i
invariant-loop-i g l =
    AllBytes l.bytes
    × ((xs : List ℕ) → length xs ≡ l.n → Yields (goal.F-post g l.bit) xs → bits_of l.bytes ≡ puts (bits_of l.initial.bytes) l.at (take l.i xs))
