use Prim.Native.Nat.{ℕ, ◌+◌}
use mathlib.Core.List.{List}
use mathlib.Core.Path.{◌≡◌, ap, sym, ◌∙◌, refl}
use native.Mathlib.Omega.{arith}
use lib.ListN.{length, take, get_or}
use lib.Seq.{get_or-take, length-take-le}
use Rattle.scheme.specs.Memory.{cells_of}
use Rattle.scheme.specs.Calls.{zeroed}
use Rattle.scheme.specs.Program.{root_lines}
use Rattle.report.specs.Lines.{lines_of}
use Rattle.laws.specs.Puts.{puts, puts-nil, puts_then}
use Rattle.report.proofs.Lines.{lines_none, lines_next, next-length, lines-room}
use Rattle.report.proofs.put_lines.Goals as goal
use Rattle.report.proofs.put_lines.Goals.{In-loop-root}

-- there are k turns
turns : (c : In-loop-root) → length (take c.args.k c.args.roots.now) ≡ c.args.k
turns c = length-take-le c.args.k c.args.roots.now c.requires.roots.there

root-is : (c : In-loop-root) → get_or (take c.args.k c.args.roots.now) c.loop-root.root-index 0 ≡ get_or c.args.roots.now c.loop-root.root-index 0
root-is c = get_or-take c.args.k c.args.roots.now c.loop-root.root-index 0 (omega (arith, turns c))

pub loop-root-init : goal.loop-root-init
loop-root-init c =
    let s = c.args.store in
    let q = lines_none (cells_of s.count s.table.now s.bytes.now) c.args.roots.now in
    let e = ap length q in
    (refl, refl, refl, omega arith, rw q (sym (puts-nil _ _)))

pub put_line-to-requires : goal.put_line-to-requires
put_line-to-requires c =
    let a = c.args in
    let i = c.loop-root.invariant in
    let cs = cells_of a.store.count a.store.table.now a.store.bytes.now in
    let z = (goal.at.put_line-to-requires c).In-loop-root in
    let q = root-is z in
    let n = turns z in
    let l = lines-room cs a.roots.now c.loop-root.root-index a.k _ q (omega arith) c.requires.roots.there in
    record {
      bytes_value = (c.requires.roots.whole, omega (arith, q, c.requires.roots.held c.loop-root.root-index (omega arith)));
      count_in_bounds = (rw i.0 c.requires.roots.room, omega (arith, c.requires.page_len, i.1));
      root_in_bounds = omega (arith, l, c.requires.k_in_bounds, i.2, i.3);
    }

pub loop-root-preserved : goal.loop-root-preserved
loop-root-preserved c =
    let a = c.args in
    let i = c.loop-root.invariant in
    let w = c.put_line-to in
    let cs = cells_of a.store.count a.store.table.now a.store.bytes.now in
    let z = (goal.at.loop-root-preserved c).In-loop-root in
    let r = root-is z in
    let n = turns z in
    let q = lines_next cs a.roots.now c.loop-root.root-index _ r (omega (arith, c.requires.roots.there)) in
    let e = next-length cs a.roots.now c.loop-root.root-index _ r (omega (arith, c.requires.roots.there)) in (
      w.ensures.clean ∙ ap (λ m. zeroed m) i.0 ∙ sym c.requires.roots.clean,
      w.auto.page ∙ i.1,
      w.auto.out ∙ i.2,
      omega (arith, e, w.ensures.next, i.3),
      rw q (puts_then _ _ _ _ _ (root_lines cs (take c.loop-root.root-index a.roots.now)) _ i.4 i.3 w.ensures.put),
    )

pub shape_of-scratch : goal.shape_of-scratch
shape_of-scratch c = ap length c.loop-root.invariant.0

pub shape_of-page : goal.shape_of-page
shape_of-page c = c.loop-root.invariant.1

pub shape_of-out : goal.shape_of-out
shape_of-out c = c.loop-root.invariant.2

pub returns : goal.returns
returns c =
    let a = c.args in
    let l = c.loop-root in
    let lines : ℕ → List ℕ = λ i. lines_of a.store.count a.store.table.now a.store.bytes.now a.roots.now i in
    let e : l.root-index ≡ a.k = omega (arith, length-take-le a.k a.roots.now c.requires.roots.there) in
    record {
      next = l.invariant.3 ∙ ap (λ i. a.at + length (lines i)) e;
      put = l.invariant.4 ∙ ap (λ i. puts a.out.now a.at (lines i)) e;
      clean = l.invariant.0;
    }
