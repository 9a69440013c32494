-- `text::print_cell` and `text::print_refs`, which call each other, meet their contracts. The measures: 8 n + 7 of a cell n, 8 n + (4 - j) of its references
-- from j on. What is left bounds the walk: it covers the cells that are still to print, so that one can be taken off at each. Assumes nothing.
use Prim.Native.Nat.{◌+◌, ◌-◌, ◌*◌}
use Rattle.text.proofs.+print_cell_print_refs.Given as goal

abbrev pub decreases-print_cell : goal.decreases-print_cell
decreases-print_cell l = l.n * 8 + 7

abbrev pub decreases-print_refs : goal.decreases-print_refs
decreases-print_refs l = l.n * 8 + (4 - l.j)
