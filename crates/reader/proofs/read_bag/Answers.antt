-- `reader::read_bag` meets its contract: the scratch is cleared last. Assumes nothing.
use Rattle.reader.specs.Outcome.{cleared}
use Rattle.reader.proofs.read_bag.Goals as goal

pub returns : goal.returns
returns c = cleared _ _ _ _ _ _ _ _ _ _ _ _ _ _ c.read_in-answer.ensures (c.fill.ensures.after (λ y e. e))
