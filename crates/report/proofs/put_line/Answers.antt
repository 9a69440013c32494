-- `report::put_line` meets its contract: the page's front and the end of the line, or the line of the refusal. Assumes nothing.
use mathlib.Core.Path.{ap, sym}
use mathlib.Core.List.{[], ◌∷◌}
use native.Mathlib.Omega.{arith}
use lib.ListN.{length}
use Rattle.laws.specs.Puts.{puts_then}
use Rattle.report.proofs.Lines.{line-printed, line_refused, line_clean}
use Rattle.report.proofs.put_line.Goals as goal

pub slice_bounds-put-end : goal.slice_bounds-put-end
slice_bounds-put-end c =
    let l = line-printed _ _ _ _ _ _ _ c.requires.bytes_value c.requires.count_in_bounds _ _ _ c.debug_text.ensures _ c.in-Ok.is in
    l.room

pub slice_bounds-put-end-in-Ok : goal.slice_bounds-put-end-in-Ok
slice_bounds-put-end-in-Ok c =
    let l = line-printed _ _ _ _ _ _ _ c.requires.bytes_value c.requires.count_in_bounds _ _ _ c.debug_text.ensures _ c.in-Ok.is in
    sym l.part

pub put-a-requires : goal.put-a-requires
put-a-requires c =
    let l = line-printed _ _ _ _ _ _ _ c.requires.bytes_value c.requires.count_in_bounds _ _ _ c.debug_text.ensures _ c.in-Ok.is in
    omega (arith, l.long, l.part, c.requires.root_in_bounds)

pub put_byte-requires : goal.put_byte-requires
put_byte-requires c =
    let l = line-printed _ _ _ _ _ _ _ c.requires.bytes_value c.requires.count_in_bounds _ _ _ c.debug_text.ensures _ c.in-Ok.is in
    let w = c.put-a in
    omega (arith, l.long, l.part, c.requires.root_in_bounds, w.ensures.0, w.auto.out)

pub put_refused-requires : goal.put_refused-requires
put_refused-requires c =
    let l = line_refused _ _ _ _ _ _ _ c.requires.bytes_value c.requires.count_in_bounds _ _ _ c.debug_text.ensures _ c.in-Err.is in
    omega (arith, ap length l, c.requires.root_in_bounds)

pub returns-in-Ok : goal.returns-in-Ok
returns-in-Ok c =
    let l = line-printed _ _ _ _ _ _ _ c.requires.bytes_value c.requires.count_in_bounds _ _ _ c.debug_text.ensures _ c.in-Ok.is in
    let w = c.put-a in
    let z = c.put_byte in
    record {
      next = omega (arith, l.long, l.part, w.ensures.0, z.ensures.0);
      put = rw l.text (puts_then _ _ _ _ _ _ (10 ∷ []) w.ensures.1 w.ensures.0 z.ensures.1);
      clean = line_clean _ _ _ _ _ _ _ c.requires.bytes_value c.requires.count_in_bounds _ _ _ c.debug_text.ensures;
    }

pub returns-in-Err : goal.returns-in-Err
returns-in-Err c =
    let l = line_refused _ _ _ _ _ _ _ c.requires.bytes_value c.requires.count_in_bounds _ _ _ c.debug_text.ensures _ c.in-Err.is in
    record {
      next = rw l c.put_refused.ensures.next;
      put = rw l c.put_refused.ensures.put;
      clean = line_clean _ _ _ _ _ _ _ c.requires.bytes_value c.requires.count_in_bounds _ _ _ c.debug_text.ensures;
    }
