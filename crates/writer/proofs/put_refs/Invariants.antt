-- `writer::put_refs` meets its contract: the rest is left. Assumes nothing.
use Prim.Native.Nat.{◌+◌}
use lib.ListN.{length, drop}
use Rattle.scheme.specs.Write.{all_be}
use Rattle.laws.specs.Records.{refs_at}
use Rattle.laws.specs.Puts.{puts}
use Rattle.writer.specs.Bytes.{places_of}
use Rattle.writer.proofs.Listing.{Next}
use Rattle.writer.proofs.put_refs.Given as goal

abbrev pub invariant-loop-j : goal.invariant-loop-j
invariant-loop-j l = Next (puts l.initial.out l.at (all_be l.shape.size (places_of l.scratch l.cells.count (refs_at l.cells.table.now l.x)))) (l.at + length (all_be l.shape.size (places_of l.scratch l.cells.count (refs_at l.cells.table.now l.x)))) l.out l.to (all_be l.shape.size (places_of l.scratch l.cells.count (drop l.j (refs_at l.cells.table.now l.x))))
