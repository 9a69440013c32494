use Prim.Native.Nat.{suc, ◌+◌, ◌-◌}
use mathlib.Core.Path.{◌≡◌, ◌∙◌, sym}
use native.Mathlib.Omega.{arith}
use Rattle.laws.specs.Answers.{handed-on}
use Rattle.laws.specs.Puts.{puts, puts-nil}
use Rattle.bag.specs.Places.{places}
use Rattle.bag.specs.Scan.{scan_cell, scan_refused, scan_none, places-none, marks-cell, marks-refused}
use Rattle.bag.specs.Frames.{frame-bad, frame-ok}
use Rattle.bag.proofs.scan_cells.Goals as goal

pub returns-in_err-place : goal.returns-in_err-place
returns-in_err-place c =
    let l = c.loop-i in
    let a = c.args in
    let e : a.h.cells - l.i ≡ suc (a.h.cells - (l.i + 1)) = omega arith in
    let s = frame-bad a.bytes.now (λ j. omega (arith, c.type_inv.bytes j)) a.h.size l.place _ (sym c.raw_cell.ensures ∙ c.in_err-place.was) in
    record {
      result_value = handed-on _ c.from_residual.ensures.1 ∙ sym (scan_refused _ _ _ _ _ s) ∙ rw e at l.invariant.1;
      scratch_after = sym (marks-refused _ _ _ _ _ l.i l.scratch s) ∙ rw e at l.invariant.2;
    }

pub loop-i-preserved : goal.loop-i-preserved
loop-i-preserved c =
    let l = c.loop-i in
    let a = c.args in
    let e : a.h.cells - l.i ≡ suc (a.h.cells - (l.i + 1)) = omega arith in
    let f = frame-ok a.bytes.now (λ j. omega (arith, c.type_inv.bytes j)) a.h.size l.place _ (sym c.raw_cell.ensures ∙ c.in_ok-place.was) in (
      omega (arith, f.near (omega arith)),
      sym (scan_cell _ _ _ _ _ f.is) ∙ rw e at l.invariant.1,
      sym (marks-cell _ _ _ _ _ l.i l.scratch f.is) ∙ rw e at l.invariant.2,
    )

pub returns : goal.returns
returns c =
    let l = c.loop-i in
    let a = c.args in
    let b = a.bytes.now in
    let e : a.h.cells - l.i ≡ 0 = omega arith in
    let n : puts l.scratch l.i (places b a.h.size 0 l.place) ≡ l.scratch = rw (places-none b a.h.size l.place) (puts-nil l.scratch l.i) in
    record { result_value = sym (scan_none b a.h.size l.place) ∙ rw e at l.invariant.1; scratch_after = sym n ∙ rw e at l.invariant.2 }
