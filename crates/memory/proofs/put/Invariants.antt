-- `memory::put` meets its contract: what is left to write gives the whole. Assumes nothing.
use Prim.Native.Nat.{◌+◌}
use mathlib.Core.Path.{◌≡◌}
use lib.ListN.{drop}
use Rattle.laws.specs.Puts.{puts}
use Rattle.memory.proofs.put.Given as goal

abbrev pub invariant-loop-x : goal.invariant-loop-x
invariant-loop-x g l = (l.to ≡ l.at + l.x-index) × (puts l.out l.to (drop l.x-index l.src) ≡ puts l.initial.out l.at l.src)
