-- `order::count_parents` meets its contract: what is left of the cells goes on from the numbers so far. Assumes nothing.
use Prim.Native.Nat.{ℕ, ◌<◌, ◌-◌, ◌+◌, ◌*◌}
use mathlib.Core.Path.{◌≡◌}
use Rattle.laws.specs.Counts.{count_down}
use Rattle.order.specs.Queue.{kids_at, Small}
use Rattle.order.proofs.count_parents.Given as goal

abbrev pub invariant-loop-i : goal.invariant-loop-i
invariant-loop-i l = Small (4 * (l.root - l.i) + 4) l.scratch × ((n : ℕ) → l.root < n → count_down (kids_at l.table n) l.i l.scratch ≡ count_down (kids_at l.table n) l.root l.initial.scratch)
