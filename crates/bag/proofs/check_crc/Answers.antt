-- `bag::check_crc` meets its contract: the four bytes are there. Assumes nothing.
use mathlib.Core.Path.{◌∙◌, sym}
use native.Mathlib.Omega.{arith}
use lib.Seq.{length-take-le}
use Rattle.bits.specs.Laws.{skip-past}
use Rattle.bag.proofs.check_crc.Goals as goal

pub little_endian-requires : goal.little_endian-requires
little_endian-requires c = (skip-past _ _ _ _ (sym c.skip_bytes.ensures ∙ c.in_ok-next.was)).1

pub slice_bounds-crc32c-end : goal.slice_bounds-crc32c-end
slice_bounds-crc32c-end c =
    let h = (skip-past _ _ _ _ (sym c.skip_bytes.ensures ∙ c.in_ok-next.was)).1 in
    sym (length-take-le _ _ (omega arith))
