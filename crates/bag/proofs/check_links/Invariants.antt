-- `bag::check_links` meets its contract. The invariant: the cells that are left answer as all do. Assumes nothing.
use mathlib.Core.Path.{◌≡◌}
use lib.ListN.{take}
use Rattle.scheme.specs.Bag.{links}
use Rattle.bag.specs.Places.{cells_at}
use Rattle.bag.proofs.check_links.Given as goal

abbrev pub invariant-loop-i : goal.invariant-loop-i
invariant-loop-i l = links 0 l.h.cells (cells_at l.bytes l.h.size (take l.i l.scratch)) ≡ links 0 l.h.cells (cells_at l.bytes l.h.size (take l.h.cells l.scratch))
