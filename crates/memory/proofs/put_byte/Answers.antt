-- `memory::put_byte` meets its contract. Assumes nothing.
use mathlib.Core.Path.{refl}
use Rattle.laws.specs.Puts.{puts_one}
use Rattle.memory.proofs.put_byte.Goals as goal

pub returns : goal.returns
returns c = (refl, puts_one _ _ _)
