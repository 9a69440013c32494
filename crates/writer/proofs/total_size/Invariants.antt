-- `writer::total_size` meets its contract: the sum, and the sizes of the cells left. Assumes nothing.
use Prim.Native.Nat.{◌≤◌, ◌+◌, ◌*◌}
use mathlib.Core.Path.{◌≡◌}
use lib.Seq.{slice}
use Rattle.writer.specs.Bytes.{sizes}
use Rattle.writer.proofs.total_size.Given as goal

abbrev pub invariant-loop-p : goal.invariant-loop-p
invariant-loop-p l = (l.sum ≤ 142 * l.p) × (l.sum + sizes l.cells.table.now l.size (slice (l.cells.count + l.p) (l.cells.count + l.m) l.scratch) ≡ sizes l.cells.table.now l.size (slice l.cells.count (l.cells.count + l.m) l.scratch))
