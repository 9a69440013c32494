-- `raw_cell::read_data` meets its contract. Assumes nothing.
use mathlib.Core.Path.{◌∙◌, sym}
use native.Mathlib.Omega.{arith}
use Rattle.bits.specs.Laws.{skip-past}
use Rattle.raw_cell.proofs.read_data.Goals as goal

pub overflow_sub-last : goal.overflow_sub-last
overflow_sub-last c =
    let p = skip-past _ _ _ _ (sym c.skip_bytes.ensures ∙ c.in_ok-next.was) in
    omega arith

pub bounds-bytes-next : goal.bounds-bytes-next
bounds-bytes-next c =
    let p = skip-past _ _ _ _ (sym c.skip_bytes.ensures ∙ c.in_ok-next.was) in
    omega arith
