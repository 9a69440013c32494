-- `writer::put_index` meets its contract: the rest is left. Assumes nothing.
use Prim.Native.Nat.{◌≤◌, ◌+◌, ◌*◌}
use lib.ListN.{length}
use lib.Seq.{slice}
use Rattle.laws.specs.Puts.{puts}
use Rattle.writer.specs.Bytes.{index_of}
use Rattle.writer.proofs.Listing.{Next}
use Rattle.writer.proofs.put_index.Given as goal

abbrev pub invariant-loop-p : goal.invariant-loop-p
invariant-loop-p l = (l.start ≤ 142 * l.p) × Next (puts l.initial.out l.at (index_of l.cells.table.now l.shape.size l.shape.off 0 (slice l.cells.count (l.cells.count + l.shape.listed) l.scratch))) (l.at + length (index_of l.cells.table.now l.shape.size l.shape.off 0 (slice l.cells.count (l.cells.count + l.shape.listed) l.scratch))) l.out l.to (index_of l.cells.table.now l.shape.size l.shape.off l.start (slice (l.cells.count + l.p) (l.cells.count + l.shape.listed) l.scratch))
