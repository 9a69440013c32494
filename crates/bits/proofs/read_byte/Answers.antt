-- `bits::read_byte` meets its contract. Assumes nothing.
use mathlib.Core.Path.{sym}
use Rattle.bits.specs.Laws.{byte-whole, byte_cut}
use Rattle.bits.proofs.read_byte.Goals as goal

pub returns-then-at-bytes : goal.returns-then-at-bytes
returns-then-at-bytes c = sym (byte-whole _ _ c.if-at-bytes.true)

pub returns-else-at-bytes : goal.returns-else-at-bytes
returns-else-at-bytes c = rw c.at.ensures (sym (byte_cut _ _ c.if-at-bytes.false))
