-- `sound::tail_zero` meets its contract. Assumes nothing.
use Prim.Native.Nat.{◌+◌, ◌/◌}
use mathlib.Core.Path.{◌≡◌, sym}
use native.Mathlib.Omega.{arith}
use borrow.Author.Tests.{eq-eqb}
use Rattle.scheme.specs.Memory.{tail_zero}
use Rattle.sound.proofs.Laws.{zero_rest}
use Rattle.sound.proofs.tail_zero.Goals as goal

pub returns-then-from-unused_in-eq0 : goal.returns-then-from-unused_in-eq0
unfolding tail_zero
returns-then-from-unused_in-eq0 c =
    let d : c.div_ceil.result ≡ (c.args.bits + 7) / 8 = omega arith in
    let z = zero_rest c.div_ceil.result c.args.block.now _ c.joined.ensures in
    simp (sym c.from.ensures, sym c.unused_in.ensures, eq-eqb _ _ c.if-from-unused_in-eq0.true) (rw d at z)
