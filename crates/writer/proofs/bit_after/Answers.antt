-- `writer::bit_after` meets its contract. Assumes nothing.
use Rattle.writer.proofs.Numbers.{bit_behind}
use Rattle.writer.proofs.bit_after.Goals as goal

pub returns : goal.returns
returns c = bit_behind c.args.r c.requires
