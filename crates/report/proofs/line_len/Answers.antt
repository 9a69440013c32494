-- `report::line_len` meets its contract: of a text its bytes and the end of the line, of a refusal its line. Assumes nothing.
use mathlib.Core.Path.{ap}
use native.Mathlib.Omega.{arith}
use lib.ListN.{length}
use Rattle.report.proofs.Lines.{line-printed, line_refused, line_clean}
use Rattle.report.proofs.line_len.Goals as goal

pub overflow_add-result : goal.overflow_add-result
overflow_add-result c =
    let l = line-printed _ _ _ _ _ _ _ c.requires.bytes_value c.requires.count_in_bounds _ _ _ c.debug_text.ensures _ c.in-Ok.is in
    omega (arith, l.room, c.debug_text.auto.out, c.requires.count_in_bounds.1)

pub returns-in-Ok : goal.returns-in-Ok
returns-in-Ok c =
    let l = line-printed _ _ _ _ _ _ _ c.requires.bytes_value c.requires.count_in_bounds _ _ _ c.debug_text.ensures _ c.in-Ok.is in
    record {
      len = omega (arith, l.long, l.room, c.debug_text.auto.out, c.requires.count_in_bounds.1);
      clean = line_clean _ _ _ _ _ _ _ c.requires.bytes_value c.requires.count_in_bounds _ _ _ c.debug_text.ensures;
    }

pub returns-in-Err : goal.returns-in-Err
returns-in-Err c =
    let l = line_refused _ _ _ _ _ _ _ c.requires.bytes_value c.requires.count_in_bounds _ _ _ c.debug_text.ensures _ c.in-Err.is in
    record {
      len = omega (arith, ap length l, c.refused_len.ensures);
      clean = line_clean _ _ _ _ _ _ _ c.requires.bytes_value c.requires.count_in_bounds _ _ _ c.debug_text.ensures;
    }
