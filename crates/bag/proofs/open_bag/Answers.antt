-- `bag::open_bag` meets its contract: what a header keeps to. Assumes nothing.
use mathlib.Core.Path.{◌∙◌, sym}
use native.Mathlib.Omega.{arith}
use Rattle.header.specs.Bounds.{header-within}
use Rattle.bag.proofs.open_bag.Goals as goal

pub open_cells-requires : goal.open_cells-requires
open_cells-requires c =
    let w = header-within _ _ _ _ (sym c.read_header.ensures ∙ c.in_ok-h.was) in
    record { size_bound = (w.narrow, w.few, omega (arith, w.near), omega (arith, w.scratch-room)); size_in_bounds = omega (arith, w.list-end, w.inside) }
