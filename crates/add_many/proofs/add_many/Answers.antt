-- `add_many::add_many` meets its contract. Assumes nothing.
use mathlib.Core.Path.{sym, ◌∙◌}
use Rattle.add_many.proofs.Turn.{many-none, many-store, many-as}
use Rattle.add_many.proofs.add_many.Goals as goal

pub returns-then-k-eq0 : goal.returns-then-k-eq0
returns-then-k-eq0 c =
    let a = c.args in
    many-as a.heads.now a.blocks.now _ _ a.count.now a.table.now a.bytes.now a.numbers.now _ _ _ _ _ c.cells_in-k.ensures
    (many-none a.heads.now a.blocks.now c.cells_in-k.result a.count.now a.table.now a.bytes.now a.numbers.now c.if-k-eq0.true)

pub returns-then-not-is_sound : goal.returns-then-not-is_sound
returns-then-not-is_sound c =
    let a = c.args in
    many-as a.heads.now a.blocks.now _ _ a.count.now a.table.now a.bytes.now a.numbers.now _ _ _ _ _
    c.cells_in-k.ensures
    (rw c.at.ensures (many-store a.heads.now a.blocks.now c.cells_in-k.result a.count.now a.table.now a.bytes.now
    a.numbers.now c.if-k-eq0.false (sym c.is_sound.ensures ∙ c.if-not-is_sound.true)))

pub returns : goal.returns
returns c =
    let a = c.args in
    many-as a.heads.now a.blocks.now _ _ a.count.now a.table.now a.bytes.now a.numbers.now _ _ _ _ _
    c.cells_in-k.ensures
    c.add_each.ensures
