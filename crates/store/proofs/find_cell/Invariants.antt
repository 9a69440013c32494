-- `store::find_cell` meets its contract. The outer loop's invariant: no cell below next equals the one sought.
-- The inner loop's: the first k references agree. Assumes nothing.
use Prim.Native.Nat.{◌≤◌, ◌+◌, ◌-◌, ◌*◌}
use mathlib.Core.Path.{◌≡◌}
use lib.ListN.{take, drop}
use Rattle.scheme.specs.Cells.{find}
use Rattle.scheme.specs.Memory.{cells_of}
use Rattle.store.specs.Search.{cell_of}
use Rattle.store.proofs.find_cell.Given as goal

abbrev pub invariant-loop-k : goal.invariant-loop-k
invariant-loop-k l = take l.k (drop (l.i * 7 + 3) l.cells.table.now) ≡ take l.k l.cell.refs.now

abbrev pub invariant-cells : goal.invariant-cells
invariant-cells l =
    let c = l.cell in
    (l.next ≤ l.cells.count) × (find (cells_of l.next l.cells.table.now l.cells.bytes.now) (cell_of c.flag c.bits c.block.now c.refs.now) ≡ l.next)

abbrev pub decreases-cells : goal.decreases-cells
decreases-cells l = l.cells.count - l.next
