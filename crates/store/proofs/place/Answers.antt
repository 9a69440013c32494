-- `store::place` meets its contract: each way out is a law of `Placing`. Assumes nothing.
use native.Mathlib.Omega.{arith}
use mathlib.Core.Path.{◌≡◌, sym}
use lib.ListN.{take}
use lib.Seq.{length-take-le, take_all}
use Rattle.laws.specs.Records.{sound-is}
use Rattle.store.specs.Search.{cell_of}
use Rattle.store.proofs.Placing.{places-held, places-full, places-new, bytes_fit}
use Rattle.store.proofs.place.Goals as goal

pub number_of-number-requires : goal.number_of-number-requires
number_of-number-requires c = record {
  cells_value = c.requires.bytes_value;
  bits_bound = (omega arith, omega arith, omega arith);
  by_index = c.requires.by_index;
}

pub returns-then-number-n : goal.returns-then-number-n
returns-then-number-n c =
    let a = c.args in
    places-held a.count.now a.table.now a.bytes.now (cell_of a.cell.flag a.cell.bits a.cell.block.now a.cell.refs.now)
    (sound-is _ _ _ c.requires.bytes_value) _ c.number_of-number.ensures c.if-number-n.true

pub returns-then-table-n : goal.returns-then-table-n
returns-then-table-n c =
    let a = c.args in
    rw c.at.ensures (places-full a.count.now a.table.now a.bytes.now (cell_of a.cell.flag a.cell.bits a.cell.block.now a.cell.refs.now)
    (sound-is _ _ _ c.requires.bytes_value) _ c.number_of-number.ensures
    c.if-number-n.false c.if-table-n.true)

pub slice_bounds-put-end : goal.slice_bounds-put-end
slice_bounds-put-end c = sym (length-take-le 128 c.args.cell.block.now (omega arith))

pub put-requires : goal.put-requires
put-requires c =
    let so = sound-is _ _ _ c.requires.bytes_value in
    let z = so.lengths in
    let l = length-take-le 128 c.args.cell.block.now (omega arith) in omega arith

pub returns : goal.returns
returns c =
    let a = c.args in
    let w : take 128 a.cell.block.now ≡ a.cell.block.now = take_all 128 a.cell.block.now (omega arith) in
    places-new a.count.now a.table.now a.bytes.now (cell_of a.cell.flag a.cell.bits a.cell.block.now a.cell.refs.now)
    (sound-is _ _ _ c.requires.bytes_value) _ c.number_of-number.ensures c.if-number-n.false
    c.if-table-n.false (bytes_fit a.cell.bits a.cell.block.now
    c.requires.flag_bound.1) a.cell.block.now _ _ c.requires.block_value c.put_row.ensures (rw w at c.put.ensures.1)
