-- What stands before the index is written.
use Rattle.std.proofs.Common.{take}
use Rattle.std.specs.List.{flat_map}
use Rattle.std.specs.Io.KnownBytes.{Appends}
use Rattle.show.specs.Shown.{spaced}
use Rattle.show.proofs.numbers.Given as goal

abbrev pub invariant-loop-x : goal.invariant-loop-x
invariant-loop-x g l = Appends (g.W.Write.contents l.fn.to) (g.W.Write.contents l.to) (flat_map spaced (take l.x-index l.xs))
