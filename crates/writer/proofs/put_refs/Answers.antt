use native.Mathlib.Omega.{arith}
use Rattle.scheme.specs.Write.{all_be}
use Rattle.laws.specs.Records.{refs_at}
use Rattle.writer.specs.Bytes.{places_of}
use Rattle.writer.proofs.Listing.{next_start, next-be-room, next-be, next-done, refs-next, refs-done}
use Rattle.writer.proofs.put_refs.Goals as goal

pub loop-j-init : goal.loop-j-init
loop-j-init c =
    let a = c.args in next_start a.out.now a.at (all_be a.shape.size (places_of a.scratch.now a.cells.count (refs_at a.cells.table.now a.x))) (omega arith)

pub put_be-to-requires-clause-k_in_bounds : goal.put_be-to-requires-clause-k_in_bounds
put_be-to-requires-clause-k_in_bounds c =
    let a = c.args in
    let l = c.loop-j in
    let N = rw (refs-next a.cells.table.now a.scratch.now a.cells.count a.shape.size a.x l.j c.field-r.result c.requires.record_ok (omega arith) c.field-r.ensures) at l.invariant in
    next-be-room l.out l.to a.shape.size _ _ N

pub loop-j-preserved : goal.loop-j-preserved
loop-j-preserved c =
    let a = c.args in
    let l = c.loop-j in
    let r = c.put_be-to in
    let N = rw (refs-next a.cells.table.now a.scratch.now a.cells.count a.shape.size a.x l.j c.field-r.result c.requires.record_ok (omega arith) c.field-r.ensures, ← c.entry-p.ensures) at l.invariant in
    next-be l.out l.to a.shape.size c.entry-p.result _ N r.new.out r.result r.ensures.1 r.ensures.0

pub returns : goal.returns
returns c =
    let a = c.args in
    let l = c.loop-j in
    let e = refs-done a.cells.table.now a.scratch.now a.cells.count a.shape.size a.x l.j c.requires.record_ok (omega arith) in
    let r = next-done l.out l.to (rw e at l.invariant) in
    (r.0, r.1)
