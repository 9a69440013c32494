-- `writer::write` meets its contract: each way out is a case of the definition. Assumes nothing.
use Prim.Native.Nat.{ℕ, ◌≤◌, ◌*◌}
use mathlib.Core.Path.{◌≡◌, ◌∙◌}
use native.Mathlib.Omega.{arith}
use mathlib.Core.List.{List}
use lib.ListN.{length}
use Rattle.scheme.specs.Memory.{cells_of}
use Rattle.scheme.specs.Write.{write as bag_of}
use Rattle.laws.specs.Records.{CellsOk, sound-few, sound-cells}
use Rattle.writer.specs.Bag.{body_of, sealed_of}
use Rattle.writer.proofs.Whole.{refused-cell, refused-scratch, refused-room, accepted, bag-is, needed_is}
use Rattle.writer.proofs.write.Goals as goal
use Rattle.writer.proofs.write.Goals.{Start, After-needed-long}

few : (s : Start) → s.args.cells.count ≤ 4096
few s = sound-few s.args.cells.count s.args.cells.table.now s.args.cells.bytes.now s.requires

pub returns-then-n-root : goal.returns-then-n-root
returns-then-n-root c =
    let a = c.args in
    rw c.at.ensures (refused-cell a.args.has_idx a.args.has_crc32c a.cells.count a.cells.table.now a.cells.bytes.now a.root a.scratch.now a.out.now c.requires c.if-n-root.true)

pub overflow_mul-n : goal.overflow_mul-n
overflow_mul-n c = omega (arith, few (goal.at.overflow_mul-n c).Start)

pub overflow_mul-n-then-scratch-n : goal.overflow_mul-n-then-scratch-n
overflow_mul-n-then-scratch-n c = omega (arith, few (goal.at.overflow_mul-n-then-scratch-n c).Start)

pub returns-then-scratch-n : goal.returns-then-scratch-n
returns-then-scratch-n c =
    let a = c.args in
    rw c.at-then-scratch-n.ensures (refused-scratch a.args.has_idx a.args.has_crc32c a.cells.count a.cells.table.now a.cells.bytes.now a.root a.scratch.now a.out.now c.requires c.if-n-root.false c.if-scratch-n.true)

pub order-m-requires-clause-linked : goal.order-m-requires-clause-linked
order-m-requires-clause-linked c = λ i l. (sound-cells c.args.cells.count c.args.cells.table.now c.args.cells.bytes.now c.requires i l).ok

pub order-m-requires-clause-n_bound : goal.order-m-requires-clause-n_bound
order-m-requires-clause-n_bound c = few (goal.at.order-m-requires-clause-n_bound c).Start

pub width-size-requires : goal.width-size-requires
width-size-requires c = omega (arith, few (goal.at.width-size-requires c).Start, c.order-m.ensures.within)

pub total_size-total-requires-clause-linked : goal.total_size-total-requires-clause-linked
total_size-total-requires-clause-linked c = λ i l. (sound-cells c.args.cells.count c.args.cells.table.now c.args.cells.bytes.now c.requires i l).ok

pub total_size-total-requires-clause-m_bound : goal.total_size-total-requires-clause-m_bound
total_size-total-requires-clause-m_bound c = omega (arith, few (goal.at.total_size-total-requires-clause-m_bound c).Start, c.order-m.ensures.within)

pub width-off-requires : goal.width-off-requires
width-off-requires c = omega (arith, few (goal.at.width-off-requires c).Start, c.order-m.ensures.within, c.total_size-total.ensures.1)

pub invariant_of-shape : goal.invariant_of-shape
invariant_of-shape c = record { few = omega (arith, few (goal.at.invariant_of-shape c).Start, c.order-m.ensures.within); size_bound = c.width-size.ensures.1; off_bound = c.width-off.ensures.1 }

pub needed-long-requires : goal.needed-long-requires
needed-long-requires c =
    let m = c.order-m.ensures.within in
    let t = c.total_size-total.ensures.1 in
    omega (arith, few (goal.at.needed-long-requires c).Start)

-- the bag that is to be written, and its length
module _ (c : After-needed-long) where
  abbrev bag : List ℕ
  bag =
      let a = c.args in
      sealed_of a.args.has_crc32c (body_of a.args.has_idx a.args.has_crc32c a.cells.table.now a.cells.bytes.now c.order-m.new.scratch a.cells.count c.order-m.result c.width-size.result c.width-off.result)

  cells : CellsOk c.args.cells.table.now c.args.cells.bytes.now c.args.cells.count
  cells = sound-cells c.args.cells.count c.args.cells.table.now c.args.cells.bytes.now c.requires

  room : 2 * c.args.cells.count ≤ length c.order-m.new.scratch
  room = omega (arith, c.order-m.auto.scratch, c.if-scratch-n.false)

  bag-right : bag ≡ bag_of c.args.args.has_idx c.args.args.has_crc32c (cells_of c.args.cells.count c.args.cells.table.now c.args.cells.bytes.now) c.args.root
  bag-right =
      let a = c.args in
      let o = c.order-m in
      let z = c.width-size in
      let t = c.total_size-total in
      let w = c.width-off in
      bag-is a.cells.table.now a.cells.bytes.now a.cells.count a.root cells o.new.scratch o.result o.ensures room a.args.has_idx a.args.has_crc32c z.result t.result w.result z.ensures.0 t.ensures.0 w.ensures.0

  long-right : c.needed-long.result ≡ length bag
  long-right =
      let a = c.args in
      let o = c.order-m in
      let z = c.width-size in
      let t = c.total_size-total in
      let w = c.width-off in
      c.needed-long.ensures
      ∙ needed_is a.cells.table.now a.cells.bytes.now a.cells.count a.root cells o.new.scratch o.result o.ensures room a.args.has_idx a.args.has_crc32c z.result t.result w.result z.ensures.0 t.ensures.0 w.ensures.0

pub returns-then-out-long : goal.returns-then-out-long
returns-then-out-long c =
    let a = c.args in
    let n = (goal.at.returns-then-out-long c).After-needed-long in
    rw c.at-then-out-long.ensures (refused-room a.args.has_idx a.args.has_crc32c a.cells.count a.cells.table.now a.cells.bytes.now a.root a.scratch.now a.out.now c.requires c.if-n-root.false c.if-scratch-n.false (bag n) (bag-right n) c.needed-long.result (long-right n) c.if-out-long.true)

pub put_bag-requires-clause-cells_ok : goal.put_bag-requires-clause-cells_ok
put_bag-requires-clause-cells_ok c = cells (goal.at.put_bag-requires-clause-cells_ok c).After-needed-long

pub put_bag-requires-clause-out_in_bounds : goal.put_bag-requires-clause-out_in_bounds
put_bag-requires-clause-out_in_bounds c = omega (arith, long-right (goal.at.put_bag-requires-clause-out_in_bounds c).After-needed-long, c.if-out-long.false)

pub returns : goal.returns
returns c =
    let a = c.args in
    let n = (goal.at.returns c).After-needed-long in
    accepted a.args.has_idx a.args.has_crc32c a.cells.count a.cells.table.now a.cells.bytes.now a.root a.scratch.now a.out.now c.requires c.if-n-root.false c.if-scratch-n.false (bag n) (bag-right n) c.needed-long.result (long-right n) c.if-out-long.false _ c.put_bag.ensures
