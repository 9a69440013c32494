use Prim.Native.Nat.{◌+◌}
use native.Mathlib.Omega.{arith}
use lib.Seq.{slice}
use Rattle.scheme.specs.Write.{cell_bytes, all_bytes}
use Rattle.writer.specs.Bytes.{placed_cell, placed_cells}
use Rattle.writer.proofs.Listing.{next_start, next-room, next-turn, next-done, list-mem, list-start, list-end, cells-next}
use Rattle.writer.proofs.put_cells.Goals as goal

pub loop-p-init : goal.loop-p-init
loop-p-init c =
    let a = c.args in rw (list-start a.scratch.now a.cells.count a.shape.listed) (next_start a.out.now a.at (all_bytes a.shape.size (placed_cells a.cells.table.now a.cells.bytes.now a.scratch.now a.cells.count (slice a.cells.count (a.cells.count + a.shape.listed) a.scratch.now))) c.requires.out_in_bounds)

pub put_cell-to-requires : goal.put_cell-to-requires
put_cell-to-requires c =
    let a = c.args in
    let l = c.loop-p in
    let x = c.entry-x in
    let b = c.requires.by_index x.result (list-mem a.scratch.now a.cells.count a.shape.listed l.p x.result (omega arith) (omega arith) x.ensures) in
    let N = rw (cells-next a.scratch.now a.cells.count a.shape.listed l.p x.result (omega arith) (omega arith) x.ensures a.cells.table.now a.cells.bytes.now a.scratch.now a.shape.size) at l.invariant in
    record { cell_ok = c.requires.cells_ok x.result b; x_lt_cells = b; shape_in_bounds = omega arith; x_in_bounds = next-room l.out l.to (cell_bytes a.shape.size (placed_cell a.cells.table.now a.cells.bytes.now a.scratch.now a.cells.count x.result)) _ N }

pub loop-p-preserved : goal.loop-p-preserved
loop-p-preserved c =
    let a = c.args in
    let l = c.loop-p in
    let x = c.entry-x in
    let r = c.put_cell-to in
    let N = rw (cells-next a.scratch.now a.cells.count a.shape.listed l.p x.result (omega arith) (omega arith) x.ensures a.cells.table.now a.cells.bytes.now a.scratch.now a.shape.size) at l.invariant in
    next-turn l.out l.to (cell_bytes a.shape.size (placed_cell a.cells.table.now a.cells.bytes.now a.scratch.now a.cells.count x.result)) _ N r.new.out r.result r.ensures.1 r.ensures.0

pub returns : goal.returns
unfolding placed_cells
returns c =
    let a = c.args in
    let l = c.loop-p in
    let e = list-end a.scratch.now a.cells.count a.shape.listed l.p (omega arith) (omega arith) in
    let r = next-done l.out l.to (rw e at l.invariant) in
    (r.0, r.1)
