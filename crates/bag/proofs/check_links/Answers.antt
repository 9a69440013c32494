use Prim.Native.Nat.{suc, ◌-◌}
use mathlib.Core.Path.{◌≡◌, ◌∙◌, sym}
use native.Mathlib.Omega.{arith}
use lib.ListN.{take}
use Rattle.laws.specs.Answers.{handed-on}
use Rattle.scheme.specs.Bag.{links}
use Rattle.bag.specs.Places.{cells_at}
use Rattle.bag.specs.Links.{links-bad, links-next, links-none}
use Rattle.bag.proofs.check_links.Goals as goal
use Rattle.bag.proofs.check_links.Goals.{In-loop-i}

-- in a turn the last of the cells that are left is looked at
turn : (d : In-loop-i) →
    let k = d.loop-i.i - 1 in
    let a = d.args in
    links 0 a.h.cells (cells_at a.bytes.now a.h.size (take (suc k) a.scratch.now)) ≡ links 0 a.h.cells (cells_at a.bytes.now a.h.size (take a.h.cells a.scratch.now))
turn d =
    let e : d.loop-i.i ≡ suc (d.loop-i.i - 1) = omega arith in
    rw (← e) d.loop-i.invariant

pub returns-in_err-check_cell : goal.returns-in_err-check_cell
returns-in_err-check_cell c =
    let a = c.args in
    handed-on _ c.from_residual.ensures.1
    ∙ sym (links-bad a.bytes.now a.h.size a.h.cells a.scratch.now (c.loop-i.i - 1) (omega arith) _ (sym c.check_cell.ensures ∙ c.in_err-check_cell.was))
    ∙ turn (goal.at.returns-in_err-check_cell c).In-loop-i

pub loop-i-preserved : goal.loop-i-preserved
loop-i-preserved c =
    let a = c.args in
    sym (links-next a.bytes.now a.h.size a.h.cells a.scratch.now (c.loop-i.i - 1) (omega arith) (sym c.check_cell.ensures ∙ c.in_ok-check_cell.was))
    ∙ turn (goal.at.loop-i-preserved c).In-loop-i

pub returns : goal.returns
returns c =
    let a = c.args in
    let e : c.loop-i.i ≡ 0 = omega arith in
    sym (links-none a.bytes.now a.h.size a.h.cells a.scratch.now) ∙ rw e at c.loop-i.invariant
