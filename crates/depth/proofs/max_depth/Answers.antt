-- `depth::max_depth` meets its contract: the answer, and the scratch zeroed after it. Assumes nothing.
use mathlib.Core.Path.{ap, ◌∙◌}
use lib.ListN.{replicate}
use Rattle.scheme.specs.Calls.{measuring}
use Rattle.depth.proofs.max_depth.Goals as goal

pub returns : goal.returns
unfolding measuring
returns c =
    record {
      answer = c.depth_at-d.ensures;
      scratch = c.fill.ensures.after (λ y e. e) ∙ ap (λ k. replicate k 0) c.depth_at-d.auto.scratch;
    }
