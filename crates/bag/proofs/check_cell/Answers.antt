-- `bag::check_cell` meets its contract: the references are those of the cell that is there. Assumes nothing.
use Prim.Native.Nat.{ℕ}
use mathlib.Core.Path.{◌≡◌, ◌∙◌, sym, ap}
use native.Mathlib.Omega.{arith}
use Rattle.scheme.specs.Cells.{Cell}
use borrow.Author.Rules.{rules}
use Rattle.bag.specs.Links.{link_ok, refs-each}
use Rattle.bag.specs.Scan.{cell-is}
use Rattle.bag.specs.Frames.{FrameIs, frame-bad, frame-ok}
use Rattle.bag.proofs.check_cell.Goals as goal
use Rattle.bag.proofs.check_cell.Goals.{In_ok-f}

-- the cell that is read
cell : (d : In_ok-f) →
    let a = d.args in
    FrameIs a.bytes.now a.h.size a.place d.in_ok-f.f
cell d = frame-ok _ (λ j. omega (arith, d.type_inv.bytes j)) _ _ _ (sym d.raw_cell.ensures ∙ d.in_ok-f.was)

pub returns-in_err-f : goal.returns-in_err-f
returns-in_err-f c =
    let e = frame-bad _ (λ j. omega (arith, c.type_inv.bytes j)) _ _ _ (sym c.raw_cell.ensures ∙ c.in_err-f.was) in
    let g = c.requires.1.1 in
    let z : ◌≡◌ {A = ℕ} 0 1 = cc (sym e ∙ g) in
    absurd (omega arith)

pub check_numbers-requires-clause-size_bound : goal.check_numbers-requires-clause-size_bound
check_numbers-requires-clause-size_bound c =
    let f = cell (goal.at.check_numbers-requires-clause-size_bound c).In_ok-f in
    (c.requires.0, rw c.from.ensures f.room)

pub returns : goal.returns
returns c =
    let a = c.args in
    let f = cell (goal.at.returns c).In_ok-f in
    let e = ap (λ (x : Cell). x.refs) (cell-is a.bytes.now a.h.size a.place _ f.is) in
    rw e (c.check_numbers.ensures (λ _ v. link_ok a.i a.h.cells v) (λ k v t p. search rules) ∙ rw c.from.ensures (refs-each a.i a.h.cells 0 _))
