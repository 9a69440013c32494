-- `bag::scan_cells` meets its contract. The invariant: the rest of the scan, from here, ends as the whole does and leaves its places. Assumes nothing.
use Prim.Native.Nat.{◌≤◌, ◌+◌, ◌-◌, ◌*◌}
use mathlib.Core.Path.{◌≡◌}
use Rattle.laws.specs.Puts.{puts}
use Rattle.bag.specs.Places.{places, scanned}
use Rattle.bag.proofs.scan_cells.Given as goal

abbrev pub invariant-loop-i : goal.invariant-loop-i
invariant-loop-i l =
    (l.place ≤ l.h.first + 300 * l.i)
    × (scanned l.bytes l.h.size (l.h.cells - l.i) l.place ≡ scanned l.bytes l.h.size l.h.cells l.h.first)
    × (puts l.scratch l.i (places l.bytes l.h.size (l.h.cells - l.i) l.place) ≡ puts l.initial.scratch 0 (places l.bytes l.h.size l.h.cells l.h.first))
