-- `builder::bit_at` meets its contract. Assumes nothing.
use Prim.Native.Nat.{◌/◌}
use native.Mathlib.Omega.{arith}
use Rattle.laws.specs.BitLaws.{bit_read}
use Rattle.builder.proofs.bit_at.Goals as goal

pub returns : goal.returns
returns c =
    rw c.mask.ensures
    (bit_read c.args.from.now c.args.i c.requires (omega (arith, c.type_inv.from (c.args.i / 8))))
