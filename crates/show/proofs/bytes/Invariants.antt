-- What stands before the index is written.
use Rattle.std.proofs.Common.{take}
use Rattle.std.specs.List.{flat_map}
use Rattle.std.specs.Io.KnownBytes.{Appends}
use Rattle.show.specs.Shown.{hex}
use Rattle.show.proofs.bytes.Given as goal

abbrev pub invariant-loop-b : goal.invariant-loop-b
invariant-loop-b g l = Appends (g.W.Write.contents l.fn.to) (g.W.Write.contents l.to) (flat_map (hex 2) (take l.b-index l.xs))
