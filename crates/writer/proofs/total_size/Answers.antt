use Prim.Native.Nat.{◌+◌}
use mathlib.Core.Path.{◌≡◌}
use native.Mathlib.Omega.{arith}
use lib.Seq.{slice}
use Rattle.writer.specs.Bytes.{sizes}
use Rattle.writer.proofs.Listing.{list-mem, list-start, list-end, sizes-turn}
use Rattle.writer.proofs.total_size.Goals as goal

pub loop-p-init : goal.loop-p-init
loop-p-init c = let a = c.args in (omega arith, rw (list-start a.scratch.now a.cells.count a.m) (omega arith))

pub cell_size-sum-requires : goal.cell_size-sum-requires
cell_size-sum-requires c =
    let a = c.args in
    let l = c.loop-p in
    let b = c.requires.by_index c.entry-x.result (list-mem a.scratch.now a.cells.count a.m l.p c.entry-x.result (omega arith) (omega arith) c.entry-x.ensures) in
    record { record_ok = c.requires.linked c.entry-x.result b; size_bound = omega arith }

pub loop-p-preserved : goal.loop-p-preserved
loop-p-preserved c =
    let a = c.args in
    let l = c.loop-p in
    (omega (arith, c.cell_size-sum.ensures.1), sizes-turn a.scratch.now a.cells.count a.m l.p c.entry-x.result (omega arith) (omega arith) c.entry-x.ensures a.cells.table.now a.size l.sum c.cell_size-sum.result (sizes a.cells.table.now a.size (slice a.cells.count (a.cells.count + a.m) a.scratch.now)) c.cell_size-sum.ensures.0 l.invariant.1)

pub returns : goal.returns
unfolding sizes
returns c =
    let a = c.args in
    let l = c.loop-p in
    let e = list-end a.scratch.now a.cells.count a.m l.p (omega arith) (omega arith) in
    let w : l.sum + 0 ≡ sizes a.cells.table.now a.size (slice a.cells.count (a.cells.count + a.m) a.scratch.now) = rw e at l.invariant.1 in
    (omega arith, omega arith)
