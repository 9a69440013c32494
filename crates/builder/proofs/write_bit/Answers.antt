-- `builder::write_bit` meets its contract. Assumes nothing.
use native.Mathlib.Omega.{arith}
use Rattle.laws.specs.BitLaws.{bit_on, bit_off}
use Rattle.builder.proofs.write_bit.Goals as goal

pub returns-then-bit : goal.returns-then-bit
returns-then-bit c =
    rw (c.mask-m.ensures, c.if-bit.true)
    (bit_on c.args.bytes.now c.args.at c.requires (omega arith))

pub returns-else-bit : goal.returns-else-bit
returns-else-bit c =
    rw (c.mask-m.ensures, c.if-bit.false)
    (bit_off c.args.bytes.now c.args.at c.requires (omega arith))
