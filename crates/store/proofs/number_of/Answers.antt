-- `store::number_of` meets its contract: no cell below the start equals this one. Assumes nothing.
use mathlib.Core.Path.{◌≡◌, sym}
use native.Mathlib.Omega.{arith}
use Rattle.laws.specs.Records.{sound-is}
use Rattle.store.specs.Search.{cell_of}
use Rattle.store.proofs.Search.{none_below, sound-fields}
use Rattle.store.proofs.number_of.Goals as goal

pub find_cell-requires : goal.find_cell-requires
find_cell-requires c =
    let a = c.args in
    let so = sound-is _ _ _ c.requires.cells_value in
    let b = c.above-start.ensures a.cells.count c.requires.by_index in record {
      fields = sound-fields _ _ _ so;
      bits_bound = c.requires.bits_bound;
      start_le_count = (
        b,
        none_below _ _ _ so (cell_of a.cell.flag a.cell.bits a.cell.block.now a.cell.refs.now) _ b
            c.above-start.ensures,
      );
    }

pub returns : goal.returns
returns c =
    let a = c.args in
    let so = sound-is _ _ _ c.requires.cells_value in
    let b = c.above-start.ensures a.cells.count c.requires.by_index in
    let e : c.above-start.result ≡ a.cells.count = omega arith in
    let n = none_below _ _ _ so (cell_of a.cell.flag a.cell.bits a.cell.block.now a.cell.refs.now) _ b c.above-start.ensures in
    sym (rw e at n)
