-- `depth::pass` meets its contract. The invariant: what i turns leave. Assumes nothing.
use mathlib.Core.Path.{◌≡◌}
use lib.ListN.{length}
use Rattle.depth.specs.Pass.{Turns}
use Rattle.depth.proofs.pass.Given as goal

abbrev pub invariant-loop-i : goal.invariant-loop-i
invariant-loop-i g l = (length l.scratch ≡ length l.initial.scratch) × Turns (λ s i r. goal.F-post g l.step s i r) l.i l.initial.scratch l.scratch
