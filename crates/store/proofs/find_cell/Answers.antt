use mathlib.Core.Path.{◌≡◌, sym, ◌∙◌}
use native.Mathlib.Omega.{arith}
use Rattle.store.specs.Search.{cell_of}
use Rattle.store.proofs.Search.{find-next, find_hit, cell-head, cell-refs, refs-more, cell-last, compared}
use Rattle.scheme.specs.Bits.{bytes_for}
use Rattle.store.proofs.find_cell.Goals as goal

pub cells-preserved-then-not-same_head : goal.cells-preserved-then-not-same_head
cells-preserved-then-not-same_head c =
    let a = c.args in
    let x = cell_of a.cell.flag a.cell.bits a.cell.block.now a.cell.refs.now in
    let i = c.cells.next in (
      omega arith,
      find-next a.cells.table.now a.cells.bytes.now x i c.cells.invariant.1
          (cell-head a.cells.count a.cells.table.now a.cells.bytes.now a.cell.block.now a.cell.refs.now a.cell.flag a.cell.bits i
          c.requires.fields c.if-cells-i.false
          (sym c.same_head.ensures ∙ c.if-not-same_head.true)),
    )

pub cells-preserved-then-field-entry : goal.cells-preserved-then-field-entry
cells-preserved-then-field-entry c =
    let a = c.args in
    let x = cell_of a.cell.flag a.cell.bits a.cell.block.now a.cell.refs.now in
    let i = c.cells.next in (
      omega arith,
      find-next a.cells.table.now a.cells.bytes.now x i c.cells.invariant.1
          (cell-refs a.cells.count a.cells.table.now a.cells.bytes.now a.cell.block.now a.cell.refs.now a.cell.flag a.cell.bits i
          c.requires.fields
          c.if-cells-i.false c.loop-k.k _ _ (omega arith)
          (sym c.same_head.ensures ∙ c.if-not-same_head.false)
          c.field.ensures c.entry.ensures c.if-field-entry.true),
    )

pub loop-k-preserved : goal.loop-k-preserved
loop-k-preserved c =
    let a = c.args in
    let f = c.requires.fields in
    let i = c.cells.next in
    refs-more a.cells.count a.cells.table.now a.cells.bytes.now a.cell.block.now a.cell.refs.now a.cell.flag a.cell.bits i f
    c.if-cells-i.false c.loop-k.k _ _ (omega arith) (omega (arith, f.table))
    (omega arith) c.loop-k.invariant c.field.ensures c.entry.ensures c.if-field-entry.false

pub returns-then-cells-i : goal.returns-then-cells-i
returns-then-cells-i c =
    let e : c.cells.next ≡ c.args.cells.count = omega arith in
    sym (rw e at c.cells.invariant.1)

pub cells-preserved : goal.cells-preserved
cells-preserved c =
    let a = c.args in
    let d : c.div_ceil-n.result ≡ bytes_for a.cell.bits = omega arith in
    let x = cell_of a.cell.flag a.cell.bits a.cell.block.now a.cell.refs.now in
    let i = c.cells.next in (
      omega arith,
      find-next a.cells.table.now a.cells.bytes.now x i c.cells.invariant.1
          (cell-last a.cells.count a.cells.table.now a.cells.bytes.now a.cell.block.now a.cell.refs.now a.cell.flag a.cell.bits i
          c.requires.fields
          c.if-cells-i.false c.loop-k.k _
          (sym c.same_head.ensures ∙ c.if-not-same_head.false) (omega arith)
          c.loop-k-test.false c.loop-k.invariant
          (omega arith)
          (sym c.if-eq.false ∙ rw (d, c.«data».ensures.value, compared) at c.eq.ensures)),
    )

pub returns-then-eq : goal.returns-then-eq
returns-then-eq c =
    let a = c.args in
    let d : c.div_ceil-n.result ≡ bytes_for a.cell.bits = omega arith in
    let x = cell_of a.cell.flag a.cell.bits a.cell.block.now a.cell.refs.now in
    let i = c.cells.next in
    find_hit a.cells.table.now a.cells.bytes.now x i c.cells.invariant.1 a.cells.count
    c.if-cells-i.false
    (cell-last a.cells.count a.cells.table.now a.cells.bytes.now a.cell.block.now a.cell.refs.now a.cell.flag a.cell.bits i
    c.requires.fields
    c.if-cells-i.false c.loop-k.k _
    (sym c.same_head.ensures ∙ c.if-not-same_head.false) (omega arith)
    c.loop-k-test.false c.loop-k.invariant
    (omega arith)
    (sym c.if-eq.true ∙ rw (d, c.«data».ensures.value, compared) at c.eq.ensures))
