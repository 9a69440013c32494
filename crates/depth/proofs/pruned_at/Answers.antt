-- `depth::pruned_at` meets its contract: each `return` is the way of the tests that led there. Assumes nothing.
use Prim.Native.Nat.{◌+◌, ◌*◌, ◌/◌}
use mathlib.Core.Path.{◌≡◌, refl, ap, sym, ◌∙◌}
use native.Mathlib.Nat.{add-zero}
use native.Mathlib.Omega.{arith}
use lib.ListN.{get_or}
use Rattle.depth.proofs.Prunes.{not-exotic, not-long, not_first, not-whole, is_pruned_lem}
use Rattle.depth.proofs.pruned_at.Goals as goal
use Rattle.depth.proofs.pruned_at.Goals.{After-field-exotic, After-div_ceil-len, After-field, Else-bytes-from-ne-PRUNED_TYPE}

flag : (c : After-field-exotic) → c.field-exotic.result ≡ get_or c.args.cells.table.now (c.args.i * 7) 0
flag c = c.field-exotic.ensures ∙ ap (λ k. get_or c.args.cells.table.now k 0) (add-zero (c.args.i * 7))

many : (c : After-div_ceil-len) → c.div_ceil-len.result ≡ (get_or c.args.cells.table.now (c.args.i * 7 + 1) 0 + 7) / 8
many c = omega arith

pub returns-then-exotic-ne1 : goal.returns-then-exotic-ne1
returns-then-exotic-ne1 c =
    let a = c.args in
    sym (not-exotic a.cells.table.now a.cells.bytes.now a.i _ _ c.requires (flag (goal.at.returns-then-exotic-ne1 c).After-field-exotic) refl c.if-exotic-ne1.true)

pub returns-then-len-lt-PRUNED_LEN : goal.returns-then-len-lt-PRUNED_LEN
returns-then-len-lt-PRUNED_LEN c =
    let a = c.args in
    let x = flag (goal.at.returns-then-len-lt-PRUNED_LEN c).After-field-exotic in
    let b = many (goal.at.returns-then-len-lt-PRUNED_LEN c).After-div_ceil-len in
    sym (not-long a.cells.table.now a.cells.bytes.now a.i _ _ c.requires x b c.if-exotic-ne1.false c.if-len-lt-PRUNED_LEN.true)

pub returns-then-bytes-from-ne-PRUNED_TYPE : goal.returns-then-bytes-from-ne-PRUNED_TYPE
returns-then-bytes-from-ne-PRUNED_TYPE c =
    let a = c.args in
    let x = flag (goal.at.returns-then-bytes-from-ne-PRUNED_TYPE c).After-field-exotic in
    let b = many (goal.at.returns-then-bytes-from-ne-PRUNED_TYPE c).After-div_ceil-len in
    sym (not_first a.cells.table.now a.cells.bytes.now a.i _ _ c.requires x b c.if-exotic-ne1.false c.if-len-lt-PRUNED_LEN.false c.if-bytes-from-ne-PRUNED_TYPE.true)

pub returns-then-len-levels : goal.returns-then-len-levels
returns-then-len-levels c =
    let a = c.args in
    let x = flag (goal.at.returns-then-len-levels c).After-field-exotic in
    let b = many (goal.at.returns-then-len-levels c).After-div_ceil-len in
    sym (not-whole a.cells.table.now a.cells.bytes.now a.i _ _ c.requires x b
    c.if-exotic-ne1.false c.if-len-lt-PRUNED_LEN.false c.if-bytes-from-ne-PRUNED_TYPE.false c.if-len-levels.true)

pub returns : goal.returns
returns c =
    let a = c.args in
    let x = flag (goal.at.returns c).After-field-exotic in
    let b = many (goal.at.returns c).After-div_ceil-len in
    rw (c.from.ensures, c.from-2.ensures)
    (sym (is_pruned_lem a.cells.table.now a.cells.bytes.now a.i _ _ c.requires x b
    c.if-exotic-ne1.false c.if-len-lt-PRUNED_LEN.false c.if-bytes-from-ne-PRUNED_TYPE.false c.if-len-levels.false))
