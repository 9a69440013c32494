-- `order::place_cells` meets its contract: the places of the first p cells are written. Assumes nothing.
use Prim.Native.Nat.{ℕ, ◌+◌, ◌*◌}
use mathlib.Core.Path.{◌≡◌}
use mathlib.Core.List.{List, Memᴰ as Mem}
use lib.ListN.{take, get_or}
use lib.Seq.{slice}
use Rattle.scheme.specs.Write.{place_of}
use Rattle.order.specs.Queue.{NoPlace}
use Rattle.order.proofs.place_cells.Given as goal

-- what the turns before keep
abbrev pub Kept : (s₀ s : List ℕ) (n m : ℕ) → Type 0
Kept s₀ s n m = (d : ℕ) → NoPlace n (slice n (n + m) s₀) d → get_or s d 0 ≡ get_or s₀ d 0

abbrev pub invariant-loop-p : goal.invariant-loop-p
invariant-loop-p l =
    Kept l.initial.scratch l.scratch l.n l.m
    × ((x : ℕ) → Mem x (take l.p (slice l.n (l.n + l.m) l.initial.scratch)) → get_or l.scratch (2 * l.n + x) 0 ≡ place_of x (slice l.n (l.n + l.m) l.initial.scratch))
