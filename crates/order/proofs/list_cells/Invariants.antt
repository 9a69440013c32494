-- `order::list_cells` meets its contract: the cells listed, and what the rest of the process lists, are the listing. Assumes nothing.
use Prim.Native.Nat.{ℕ, ◌≤◌, ◌<◌, ◌-◌, ◌*◌}
use mathlib.Core.Path.{◌≡◌}
use mathlib.Core.List.{List, [], ◌∷◌, ◌++◌}
use lib.ListN.{length, take, get_or}
use lib.Seq.{slice}
use Rattle.laws.specs.Counts.{run_counts, end_counts}
use Rattle.order.specs.Queue.{kids_at, Roomy}
use Rattle.order.proofs.list_cells.Given as goal

abbrev pub leaves : List ℕ → ℕ → ℕ → List ℕ → List ℕ → List ℕ
leaves table n k scratch q = end_counts (kids_at table n) k (take n scratch) q

-- what the process lists, and the counts that it leaves, with the queue q and at most k cells to list
abbrev pub lists : List ℕ → ℕ → ℕ → List ℕ → List ℕ → List ℕ
lists table n k scratch q = run_counts (kids_at table n) k (take n scratch) q

abbrev pub invariant-loop-head : goal.invariant-loop-head
invariant-loop-head l =
    (l.n ≤ l.head) × (l.head ≤ l.tail) × (l.tail ≤ 2 * l.n)
    × (slice l.n l.head l.scratch ++ lists l.table l.n (2 * l.n - l.head) l.scratch (slice l.head l.tail l.scratch) ≡ lists l.table l.n l.n l.initial.scratch (l.root ∷ []))
    × Roomy (kids_at l.table l.n) l.n (2 * l.n - l.head) (take l.n l.scratch) (slice l.head l.tail l.scratch) (l.head - l.n)
    × (2 * l.n ≤ length l.initial.scratch)
    × (leaves l.table l.n (2 * l.n - l.head) l.scratch (slice l.head l.tail l.scratch) ≡ leaves l.table l.n l.n l.initial.scratch (l.root ∷ []))
    × (l.n < l.tail)
    × ((d : ℕ) → l.tail ≤ d → get_or l.scratch d 0 ≡ get_or l.initial.scratch d 0)

abbrev pub decreases-loop-head : goal.decreases-loop-head
decreases-loop-head l = 2 * l.n - l.head
