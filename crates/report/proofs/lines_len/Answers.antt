use Prim.Native.Nat.{ℕ}
use mathlib.Core.Path.{◌≡◌, ap, sym, ◌∙◌, refl}
use native.Mathlib.Omega.{arith}
use lib.ListN.{length, take, get_or}
use lib.Seq.{get_or-take, length-take-le}
use Rattle.scheme.specs.Memory.{cells_of}
use Rattle.scheme.specs.Calls.{zeroed}
use Rattle.report.specs.Lines.{lines_of}
use Rattle.report.proofs.Lines.{lines_none, next-length}
use Rattle.report.proofs.lines_len.Goals as goal
use Rattle.report.proofs.lines_len.Goals.{In-loop-root}

-- there are k turns
turns : (c : In-loop-root) → length (take c.args.k c.args.roots.now) ≡ c.args.k
turns c = length-take-le c.args.k c.args.roots.now c.requires.roots.there

root-is : (c : In-loop-root) → get_or (take c.args.k c.args.roots.now) c.loop-root.root-index 0 ≡ get_or c.args.roots.now c.loop-root.root-index 0
root-is c = get_or-take c.args.k c.args.roots.now c.loop-root.root-index 0 (omega (arith, turns c))

pub loop-root-init : goal.loop-root-init
loop-root-init c =
    let s = c.args.store in
    let e = ap length (lines_none (cells_of s.count s.table.now s.bytes.now) c.args.roots.now) in
    (refl, refl, omega arith, omega arith)

pub line_len-total-requires : goal.line_len-total-requires
line_len-total-requires c =
    let i = c.loop-root.invariant in
    let z = (goal.at.line_len-total-requires c).In-loop-root in
    let q = root-is z in
    let n = turns z in
    record {
      bytes_value = (c.requires.roots.whole, omega (arith, q, c.requires.roots.held c.loop-root.root-index (omega arith)));
      count_in_bounds = (rw i.0 c.requires.roots.room, omega (arith, c.requires.page_len, i.1));
    }

pub overflow_add-total : goal.overflow_add-total
overflow_add-total c =
    let n = turns (goal.at.overflow_add-total c).In-loop-root in
    omega (arith, c.requires.roots.few, c.line_len-total.ensures.len.1, c.loop-root.invariant.3)

pub loop-root-preserved : goal.loop-root-preserved
loop-root-preserved c =
    let s = c.args.store in
    let i = c.loop-root.invariant in
    let cs = cells_of s.count s.table.now s.bytes.now in
    let z = (goal.at.loop-root-preserved c).In-loop-root in
    let q = root-is z in
    let n = turns z in
    let e = next-length cs c.args.roots.now c.loop-root.root-index _ q (omega (arith, c.requires.roots.there)) in (
      c.line_len-total.ensures.clean ∙ ap (λ m. zeroed m) i.0 ∙ sym c.requires.roots.clean,
      c.line_len-total.auto.page ∙ i.1,
      omega (arith, e, c.line_len-total.ensures.len.0, i.2),
      omega (arith, c.line_len-total.ensures.len.1, i.3),
    )

pub shape_of-scratch : goal.shape_of-scratch
shape_of-scratch c = ap length c.loop-root.invariant.0

pub shape_of-page : goal.shape_of-page
shape_of-page c = c.loop-root.invariant.1

pub returns : goal.returns
returns c =
    let a = c.args in
    let l = c.loop-root in
    let e : l.root-index ≡ a.k = omega (arith, length-take-le a.k a.roots.now c.requires.roots.there) in
    record {
      len = l.invariant.2 ∙ ap (λ i. length (lines_of a.store.count a.store.table.now a.store.bytes.now a.roots.now i)) e;
      few = omega (arith, l.invariant.3, c.requires.roots.few);
      clean = l.invariant.0;
    }
