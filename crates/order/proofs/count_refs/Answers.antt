use Prim.Native.Nat.{◌<◌, ◌+◌, ◌*◌}
use mathlib.Core.Path.{refl, sym, ◌∙◌}
use mathlib.Core.List.{[]}
use native.Mathlib.Omega.{arith}
use lib.ListN.{get_or}
use Rattle.laws.specs.Counts.{bump}
use Rattle.laws.specs.Records.{refs_at, refs_end}
use Rattle.order.specs.Queue.{seen_at}
use Rattle.order.proofs.Steps.{small-more, bump-turn-new, bump-turn-old}
use Rattle.order.proofs.count_refs.Goals as goal
use Rattle.order.proofs.count_refs.Goals.{then-not-named, else-not-named}

pub loop-j-init : goal.loop-j-init
unfolding seen_at
loop-j-init c = (λ d. c.requires.small d, refl)

pub loop-j-preserved : goal.loop-j-preserved
loop-j-preserved c =
    let l = c.loop-j in
    let r = c.field-r in
    let X = bump [] c.args.scratch.now (refs_at c.args.table.now c.args.i) in
    let h : l.j < get_or c.args.table.now (c.args.i * 7 + 2) 0 = omega arith in
    elim c.if-not-named.branch [
      | then-not-named w ↦ (
        rw w.scratch-is (λ d. omega (arith, small-more (16380 + l.j) l.scratch r.result l.invariant.0 d)),
        rw w.scratch-is (bump-turn-new c.args.table.now c.args.i l.j r.result c.requires.record_ok h r.ensures l.scratch X (sym w.if-not-named.true ∙ c.named.ensures) l.invariant.1),
      )
      | else-not-named w ↦ (
        rw w.scratch-is (λ d. omega (arith, l.invariant.0 d)),
        rw w.scratch-is (bump-turn-old c.args.table.now c.args.i l.j r.result c.requires.record_ok h r.ensures l.scratch X (sym w.if-not-named.false ∙ c.named.ensures) l.invariant.1),
      )
    ]

pub returns : goal.returns
returns c =
    let l = c.loop-j in
    sym (rw (refs_end c.args.table.now c.args.i l.j c.requires.record_ok (omega arith)) refl) ∙ l.invariant.1
