-- `bag::open_cells` meets its contract: the scratch begins with the places of the cells. Assumes nothing.
use mathlib.Core.Path.{◌∙◌, sym}
use native.Mathlib.Omega.{arith}
use Rattle.bag.specs.Open.{marks-cells, marks-long}
use Rattle.bag.proofs.open_cells.Goals as goal

pub after_scan-requires : goal.after_scan-requires
after_scan-requires c =
    let p = c.requires in
    let s = c.scan_cells.ensures in
    let n = marks-long _ _ _ _ _ _ s.scratch_after p.size_bound.3 in
    record {
      size_bound = (p.size_bound.0, omega arith, p.size_in_bounds);
      by_index = marks-cells _ _ _ _ _ _ s.scratch_after p.size_bound.3 _ (sym s.result_value ∙ c.in_ok-at.was);
    }
