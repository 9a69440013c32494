-- A pruned branch as the code answers it: the depth that it names, or none of another cell.
use Rattle.std.specs.Prelude.{ℕ, cond, Option, Some, None}
use Rattle.scheme.specs.Cells.{Cell}
use Rattle.scheme.specs.Depth.{is_pruned, pruned_depth}

abbrev pub pruned_of : Cell → Option ℕ
pruned_of c = cond (is_pruned c) (Some (pruned_depth c)) None
