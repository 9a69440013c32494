-- `writer::put_cells` meets its contract: the rest is left. Assumes nothing.
use Prim.Native.Nat.{◌+◌}
use lib.ListN.{length}
use lib.Seq.{slice}
use Rattle.scheme.specs.Write.{all_bytes}
use Rattle.laws.specs.Puts.{puts}
use Rattle.writer.specs.Bytes.{placed_cells}
use Rattle.writer.proofs.Listing.{Next}
use Rattle.writer.proofs.put_cells.Given as goal

abbrev pub invariant-loop-p : goal.invariant-loop-p
invariant-loop-p l = Next (puts l.initial.out l.at (all_bytes l.shape.size (placed_cells l.cells.table.now l.cells.bytes.now l.scratch l.cells.count (slice l.cells.count (l.cells.count + l.shape.listed) l.scratch)))) (l.at + length (all_bytes l.shape.size (placed_cells l.cells.table.now l.cells.bytes.now l.scratch l.cells.count (slice l.cells.count (l.cells.count + l.shape.listed) l.scratch)))) l.out l.to (all_bytes l.shape.size (placed_cells l.cells.table.now l.cells.bytes.now l.scratch l.cells.count (slice (l.cells.count + l.p) (l.cells.count + l.shape.listed) l.scratch)))
