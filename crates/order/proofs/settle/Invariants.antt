-- `order::settle` meets its contract: what is left of the references goes on from the numbers and the queue so far. Assumes nothing.
use Prim.Native.Nat.{ℕ, ◌≤◌, ◌<◌}
use mathlib.Core.Path.{◌≡◌}
use mathlib.Core.List.{[]}
use lib.ListN.{length, take, drop, get_or}
use lib.Seq.{slice}
use Rattle.laws.specs.Counts.{settle}
use Rattle.laws.specs.Records.{refs_at}
use Rattle.order.specs.Queue.{seen_at}
use Rattle.order.proofs.settle.Given as goal

abbrev pub invariant-loop-j : goal.invariant-loop-j
invariant-loop-j l =
    (l.tail ≤ l.end) × (l.end ≤ length l.initial.scratch)
    × (settle (seen_at l.table l.i l.j) (take l.n l.scratch) (slice l.tail l.end l.scratch) (drop l.j (refs_at l.table l.i)) ≡ settle [] (take l.n l.initial.scratch) [] (refs_at l.table l.i))
    × ((d : ℕ) → l.n ≤ d → d < l.tail → get_or l.scratch d 0 ≡ get_or l.initial.scratch d 0)
    × ((d : ℕ) → l.end ≤ d → get_or l.scratch d 0 ≡ get_or l.initial.scratch d 0)
