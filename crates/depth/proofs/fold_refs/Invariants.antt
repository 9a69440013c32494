-- `depth::fold_refs` meets its contract. The invariant: what the references from j on make of h is what all of them make of the start. Assumes nothing.
use Prim.Native.Nat.{ℕ}
use lib.ListN.{drop}
use Rattle.std.specs.List.{FoldsTo}
use Rattle.scheme.specs.Fold.{pick}
use Rattle.laws.specs.Records.{refs_at}
use Rattle.depth.proofs.fold_refs.Given as goal

abbrev pub invariant-loop-j : goal.invariant-loop-j
invariant-loop-j g l =
    (r : ℕ) → FoldsTo (λ h x r. goal.F-post g l.step h x r) l.h (pick 0 l.scratch (drop l.j (refs_at l.table l.i))) r
    → FoldsTo (λ h x r. goal.F-post g l.step h x r) l.start (pick 0 l.scratch (refs_at l.table l.i)) r
