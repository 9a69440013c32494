-- `store::clean` meets its contract. Assumes nothing.
use Rattle.std.proofs.Common.{◌≡◌, arith, rules}
use Rattle.scheme.specs.Bits.{bytes_for}
use Rattle.store.proofs.Ways.{clean_is}
use Rattle.store.proofs.clean.Goals as goal

pub returns : goal.returns
returns c =
    let a = c.args in
    let d : c.div_ceil.result ≡ bytes_for a.bits = omega arith in
    rw d (clean_is a.block.now a.bits _ _ c.requires.1 c.requires.0 c.keep_used.ensures (rw d at (c.fill.ensures.after (search rules))))
