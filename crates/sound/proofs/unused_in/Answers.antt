-- `sound::unused_in` meets its contract: the table has the powers. Assumes nothing.
use native.Mathlib.Omega.{arith}
use Rattle.sound.proofs.Laws.{unused-table}
use Rattle.sound.proofs.unused_in.Goals as goal

pub returns : goal.returns
returns c = unused-table _ (omega arith)
