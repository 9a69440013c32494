use Rattle.std.proofs.Common.{rules, Ok, Err}
use Prim.Native.Nat.{suc, ◌+◌, ◌-◌}
use mathlib.Core.Path.{◌≡◌, ◌∙◌, sym}
use native.Mathlib.Omega.{arith}
use native.Mathlib.Nat.{sub-zero}
use Rattle.laws.specs.Answers.{handed-on}
use Rattle.scheme.specs.Bytes.{chunk}
use Rattle.bits.specs.Field.{skip_at}
use Rattle.bits.specs.Laws.{skip-fields-past, skip-fields-cut, skip-fields-none}
use Rattle.bits.proofs.skip_fields.Goals as goal

pub loop-init : goal.loop-init
loop-init c = rw sub-zero

pub returns-in_err-place : goal.returns-in_err-place
unfolding skip_at chunk
returns-in_err-place c =
    let l = c.loop in
    let a = c.args in
    let e : a.count - l.counter ≡ suc (a.count - (l.counter + 1)) = omega arith in
    let s : skip_at a.bytes.now l.place a.width ≡ Err c.in_err-place.field-0.0 = search rules in
    handed-on _ c.from_residual.ensures.1 ∙ sym (skip-fields-cut a.bytes.now a.width (a.count - (l.counter + 1)) l.place _ s) ∙ rw e at l.invariant

pub loop-preserved : goal.loop-preserved
unfolding skip_at chunk
loop-preserved c =
    let l = c.loop in
    let a = c.args in
    let e : a.count - l.counter ≡ suc (a.count - (l.counter + 1)) = omega arith in
    let s : skip_at a.bytes.now l.place a.width ≡ Ok c.in_ok-place.place = search rules in
    sym (skip-fields-past a.bytes.now a.width (a.count - (l.counter + 1)) l.place _ s) ∙ rw e at l.invariant

pub returns : goal.returns
returns c =
    let l = c.loop in
    let a = c.args in
    let e : a.count - l.counter ≡ 0 = omega arith in
    sym (skip-fields-none a.bytes.now a.width l.place) ∙ rw e at l.invariant
