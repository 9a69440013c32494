-- `depth::depth_step` meets its contract: a pruned branch's own depth, else the references'. Assumes nothing.
use Prim.Native.Nat.{min}
use mathlib.Core.Path.{ap, sym, ◌∙◌}
use native.Mathlib.Omega.{arith}
use Rattle.scheme.specs.Fold.{pick}
use Rattle.laws.specs.Records.{refs_at}
use Rattle.depth.proofs.Prunes.{step_is, step-not}
use Rattle.depth.proofs.depth_step.Goals as goal

pub returns-in-Some : goal.returns-in-Some
returns-in-Some c =
    let a = c.args in
    let e = step_is _ _ (pick 0 a.scratch.now (refs_at a.cells.table.now a.i)) (sym c.in-Some.ensures) in
    omega arith

pub returns-in-None : goal.returns-in-None
returns-in-None c = c.over_refs.ensures ∙ ap (min c.args.cap) (sym (step-not _ _ (sym c.in-None.ensures)))
