-- `memory::field` meets its contract: a number of the table fits, wherever it stands. Assumes nothing.
use Prim.Native.Nat.{◌+◌, ◌*◌}
use native.Mathlib.Omega.{arith}
use Rattle.memory.proofs.field.Goals as goal

pub overflow_cast-result : goal.overflow_cast-result
overflow_cast-result c = omega (arith, c.type_inv.table (c.args.i * 7 + c.args.f))
