use Prim.Native.Nat.{◌-◌, ◌+◌, ◌*◌}
use mathlib.Core.Path.{◌≡◌, refl, sym, ◌∙◌}
use mathlib.Core.List.{[]}
use native.Mathlib.Omega.{arith}
use Rattle.laws.specs.Records.{refs_at, refs-length}
use Rattle.order.proofs.Kids.{kids_refs}
use Rattle.order.proofs.Steps.{small-bump, down-skip, down-count}
use Rattle.order.proofs.count_parents.Goals as goal

pub loop-i-init : goal.loop-i-init
loop-i-init c =
    let ok = c.requires.linked c.args.root (omega arith) in
    (λ d. rw c.count_refs.ensures (omega (arith, small-bump (refs_at c.args.table.now c.args.root) [] 0 c.args.scratch.now c.requires.small d, refs-length c.args.table.now c.args.root ok, ok.few)), λ n h. refl)

pub count_refs-requires-then-scratch-i-ne0-clause-small : goal.count_refs-requires-then-scratch-i-ne0-clause-small
count_refs-requires-then-scratch-i-ne0-clause-small c = λ d. omega (arith, c.loop-i.invariant.0 d)

pub loop-i-preserved-then-scratch-i-ne0 : goal.loop-i-preserved-then-scratch-i-ne0
loop-i-preserved-then-scratch-i-ne0 c =
    let l = c.loop-i in
    let r = c.count_refs-then-scratch-i-ne0 in
    let ok = c.requires.linked (l.i - 1) (omega arith) in (
      λ d. rw r.ensures (omega (arith, small-bump (refs_at c.args.table.now (l.i - 1)) [] (4 * (c.args.root - l.i) + 4) l.scratch l.invariant.0 d, refs-length c.args.table.now (l.i - 1) ok, ok.few)),
      λ n h. down-count c.args.table.now n l.i (omega arith) (omega arith) l.scratch _ r.new.scratch c.if-scratch-i-ne0.true r.ensures (l.invariant.1 n h),
    )

pub loop-i-preserved : goal.loop-i-preserved
loop-i-preserved c =
    let l = c.loop-i in
    (λ d. omega (arith, l.invariant.0 d), λ n h. down-skip c.args.table.now n l.i (omega arith) (omega arith) l.scratch _ c.if-scratch-i-ne0.false (l.invariant.1 n h))

pub returns : goal.returns
returns c =
    let l = c.loop-i in
    let e : l.i ≡ 0 = omega arith in
    λ n h. sym (rw e refl) ∙ l.invariant.1 n h ∙ rw (kids_refs c.args.table.now n c.args.root h, c.count_refs.ensures) refl
