-- `reader::place_cells` meets its contract. The invariant: the cells from place i on are in the memory, and their numbers in the scratch. Assumes nothing.
use lib.ListN.{take, drop}
use Rattle.scheme.specs.Bag.{load}
use Rattle.scheme.specs.Memory.{capacity, cells_of}
use Rattle.bag.specs.Places.{cells_at}
use Rattle.reader.specs.Placing.{Placed}
use Rattle.reader.proofs.place_cells.Given as goal

abbrev pub invariant-loop-i : goal.invariant-loop-i
invariant-loop-i l =
    Placed (capacity l.initial.table) l.o.cells l.initial.scratch l.i (load (cells_of l.initial.count l.initial.table l.initial.bytes) l.i (drop l.i (cells_at l.reply l.o.size (take l.o.cells l.initial.scratch)))) l.count l.table l.bytes l.scratch
