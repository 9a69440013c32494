use Prim.Native.Nat.{◌+◌}
use mathlib.Core.Path.{◌≡◌, sym}
use native.Mathlib.Nat.{add-zero}
use native.Mathlib.Omega.{arith}
use lib.Seq.{slice}
use Rattle.laws.specs.Puts.{puts-nil}
use Rattle.writer.specs.Bytes.{index_of}
use Rattle.writer.proofs.Listing.{next_start, next-be-room, next-be, next-done, list-mem, list-start, list-end, index-next}
use Rattle.writer.proofs.Seal.{index_yes, index-no}
use Rattle.writer.specs.Bag.{index_if}
use Rattle.writer.proofs.put_index.Goals as goal
use Rattle.writer.proofs.put_index.Goals.{Then-args}

-- the index is asked for
asked : (c : Then-args) → index_if c.args.args.has_idx c.args.cells.table.now c.args.shape.size c.args.shape.off (slice c.args.cells.count (c.args.cells.count + c.args.shape.listed) c.args.scratch.now)
    ≡ index_of c.args.cells.table.now c.args.shape.size c.args.shape.off 0 (slice c.args.cells.count (c.args.cells.count + c.args.shape.listed) c.args.scratch.now)
asked c = index_yes c.args.args.has_idx _ _ _ _ c.if-args.true

pub loop-p-init : goal.loop-p-init
loop-p-init c = (omega arith, rw (list-start c.args.scratch.now c.args.cells.count c.args.shape.listed) (next_start c.args.out.now c.args.at _ (rw (asked (goal.at.loop-p-init c).Then-args) at c.requires.out_in_bounds)))

pub cell_size-requires-clause-record_ok : goal.cell_size-requires-clause-record_ok
cell_size-requires-clause-record_ok c =
    let a = c.args in
    let l = c.loop-p in
    let x = c.entry-x in
    c.requires.linked x.result (c.requires.by_index x.result (list-mem a.scratch.now a.cells.count a.shape.listed l.p x.result (omega arith) (omega arith) x.ensures))

pub put_be-to-requires-clause-k_in_bounds : goal.put_be-to-requires-clause-k_in_bounds
put_be-to-requires-clause-k_in_bounds c =
    let a = c.args in
    let l = c.loop-p in
    let x = c.entry-x in
    let N = rw (index-next a.scratch.now a.cells.count a.shape.listed l.p x.result (omega arith) (omega arith) x.ensures a.cells.table.now a.shape.size a.shape.off l.start) at l.invariant.1 in
    next-be-room l.out l.to a.shape.off _ _ N

pub loop-p-preserved : goal.loop-p-preserved
loop-p-preserved c =
    let a = c.args in
    let l = c.loop-p in
    let x = c.entry-x in
    let z = c.cell_size in
    let r = c.put_be-to in
    let N = rw (index-next a.scratch.now a.cells.count a.shape.listed l.p x.result (omega arith) (omega arith) x.ensures a.cells.table.now a.shape.size a.shape.off l.start, ← z.ensures.0) at l.invariant.1 in
    (omega (arith, z.ensures.1), next-be l.out l.to a.shape.off _ _ N r.new.out r.result r.ensures.1 r.ensures.0)

pub returns-after-loop-p : goal.returns-after-loop-p
unfolding index_of
returns-after-loop-p c =
    let a = c.args in
    let l = c.loop-p in
    let e = list-end a.scratch.now a.cells.count a.shape.listed l.p (omega arith) (omega arith) in
    let r = next-done l.out l.to (rw e at l.invariant.1) in
    rw (asked (goal.at.returns-after-loop-p c).Then-args) (r.0, r.1)

pub returns-else-args : goal.returns-else-args
returns-else-args c =
    let a = c.args in
    let e = index-no a.args.has_idx a.cells.table.now a.shape.size a.shape.off (slice a.cells.count (a.cells.count + a.shape.listed) a.scratch.now) c.if-args.false in
    rw e (sym (add-zero a.at), sym (puts-nil a.out.now a.at))
