-- `order::count_refs` meets its contract: what is left of the references goes on from the numbers so far. Assumes nothing.
use Prim.Native.Nat.{◌+◌}
use mathlib.Core.Path.{◌≡◌}
use mathlib.Core.List.{[]}
use lib.ListN.{drop}
use Rattle.laws.specs.Counts.{bump}
use Rattle.laws.specs.Records.{refs_at}
use Rattle.order.specs.Queue.{seen_at, Small}
use Rattle.order.proofs.count_refs.Given as goal

abbrev pub invariant-loop-j : goal.invariant-loop-j
invariant-loop-j l = Small (16380 + l.j) l.scratch × (bump (seen_at l.table l.i l.j) l.scratch (drop l.j (refs_at l.table l.i)) ≡ bump [] l.initial.scratch (refs_at l.table l.i))
