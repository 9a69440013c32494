use Rattle.std.proofs.Common.{◌≡◌, arith, rules, Ok}
use Rattle.store.specs.Paper.{Adds}
use Rattle.add_many.specs.Many.{builder_at}
use Rattle.add_many.proofs.Turn.{adds-as, stopped-at, turn-next, turn-sound, turn_small, turn-stop, many_is, many-start, many-end}
use Rattle.add_many.proofs.add_each.Goals as goal
use Rattle.add_many.proofs.add_each.Goals.{In_ok-number}

pub loop-i-init : goal.loop-i-init
loop-i-init c = (c.requires.bytes_value, many-start _ _ _ _ _ _ _)

pub returns-in_err-number : goal.returns-in_err-number
returns-in_err-number c =
    let l = c.loop-i in
    let s = stopped-at _ l.i-counter c.add_in-added.result c.map_err.result _ c.from_residual.result
    c.map_err.ensures.cases c.in_err-number.was (λ e p. search rules) c.from_residual.ensures.1 in
    rw s.1 (many_is _ _ _ _ _ _ _ _ _ _ _ _
    (turn-stop _ _ _ _ _ _ _ _ _ c.loop-i-test.true l.invariant.1 _ _ _ _ (adds-as _ _ _ _ _ _ _ _ _ _ c.cell_at.ensures s.0 c.add_in-added.ensures)))

-- the cell that was added
added : (c : In_ok-number) → Adds c.loop-i.count c.loop-i.table c.loop-i.bytes (builder_at c.args.heads.now c.args.blocks.now c.loop-i.i-counter)
    (Ok c.in_ok-number.number) c.add_in-added.new.count c.add_in-added.new.table c.add_in-added.new.bytes
added c =
    let w = c.in_ok-number.was in
    let m = c.map_err.ensures.cases in
    let e : c.add_in-added.result ≡ Ok c.in_ok-number.number = search rules in
    adds-as _ _ _ _ _ _ _ _ _ _ c.cell_at.ensures e c.add_in-added.ensures

pub overflow_cast-numbers : goal.overflow_cast-numbers
overflow_cast-numbers c =
    let l = c.loop-i in
    let z = turn_small _ _ _ _ _ _ _ _ _ c.loop-i-test.true l.invariant.1 _ _ _ _ (added (goal.at.overflow_cast-numbers c).In_ok-number) l.invariant.0 in
    omega arith

pub loop-i-preserved : goal.loop-i-preserved
loop-i-preserved c =
    let l = c.loop-i in
    let d = added c in (
      turn-sound _ _ _ _ _ _ _ _ _ c.loop-i-test.true l.invariant.1 _ _ _ _ d l.invariant.0 (omega arith),
      turn-next _ _ _ _ _ _ _ _ _ c.loop-i-test.true l.invariant.1 _ _ _ _ d,
    )

pub returns : goal.returns
returns c = many-end _ _ _ _ _ _ _ _ _ _ _ _ (omega arith) c.loop-i.invariant.1
