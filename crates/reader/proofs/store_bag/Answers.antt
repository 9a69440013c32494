-- `reader::store_bag` meets its contract: all cells are placed, or what was placed is taken back. Assumes nothing.
use native.Mathlib.Omega.{arith}
use Rattle.reader.specs.Steps.{over-more}
use Rattle.reader.specs.Outcome.{roots-inside, out-full, count_grows, out-done}
use Rattle.reader.proofs.store_bag.Goals as goal

pub take_back-requires : goal.take_back-requires
take_back-requires c =
    let x = c.place_cells.ensures.full _ c.in-Err.is in
    record { bytes_value = x.sound-is; le_count = over-more _ _ _ _ _ c.requires.bytes_value _ _ _ x }

pub returns-in-Err : goal.returns-in-Err
returns-in-Err c =
    let x = c.place_cells.ensures in
    out-full _ _ _ _ _ _ _ c.requires.bytes_value c.requires.kept c.requires.whole _ _ _ _ (x.full _ c.in-Err.is) _ _ _ _ c.take_back.ensures x.long

pub fill_numbers-requires : goal.fill_numbers-requires
fill_numbers-requires c =
    let o = c.requires.kept in
    let l = c.place_cells.ensures.long in
    let inside = roots-inside _ _ _ _ _ c.args.roots.now _ c.requires.bytes_value o c.requires.whole in
    record { size_bound = (o.size, o.list); cells_bound = (o.few, omega (arith, o.scratch), o.roots); by_index = inside }

pub overflow_sub-result : goal.overflow_sub-result
overflow_sub-result c =
    let p = c.place_cells.ensures.all c.in_default.is in
    count_grows _ _ _ _ _ c.args.roots.now _ c.requires.bytes_value c.requires.kept c.requires.whole _ _ _ _ p

pub returns : goal.returns
returns c =
    let p = c.place_cells.ensures.all c.in_default.is in
    out-done _ _ _ _ _ _ _ c.requires.bytes_value c.requires.kept c.requires.whole _ _ _ _ p _ c.fill_numbers.ensures
