-- `writer::needed` meets its contract. Assumes nothing.
use mathlib.Core.Path.{◌≡◌}
use mathlib.Core.Bool.{cond}
use Prim.Native.Nat.{◌*◌}
use Rattle.writer.specs.Bag.{needed_of}
use Rattle.writer.proofs.needed.Goals as goal
use Rattle.writer.proofs.needed.Goals.{then-args, else-args, then-args-2, else-args-2}

pub returns : goal.returns
unfolding needed_of
returns c =
    let a = c.args in
    let i : c.if-args.index ≡ cond a.args.has_idx (a.shape.off * a.shape.listed) 0 = elim c.if-args.branch [ then-args w ↦ rw w.if-args.true w.index-is | else-args w ↦ rw w.if-args.false w.index-is ] in
    let t : c.if-args-2.tail ≡ cond a.args.has_crc32c 4 0 = elim c.if-args-2.branch [ then-args-2 w ↦ rw w.if-args-2.true w.tail-is | else-args-2 w ↦ rw w.if-args-2.false w.tail-is ] in
    rw (i, t)
