-- `text::length_alone` meets its contract. Assumes nothing.
use mathlib.Core.Path.{◌∙◌, sym}
use native.Mathlib.Nat.{pos_of_ne-zero}
use native.Mathlib.Omega.{arith}
use Rattle.text.proofs.Texts.{own-width, around-none, around-some}
use Rattle.text.proofs.length_alone.Goals as goal

pub returns-then-k-eq0 : goal.returns-then-k-eq0
returns-then-k-eq0 c = λ d h.
    let k = around-none _ (sym c.field-k.ensures ∙ c.if-k-eq0.true) in
    let f = c.field-len in
    omega (arith, own-width c.args.table.now d c.args.i f.result c.width.result h f.ensures (omega arith) c.width.ensures.0)

pub returns-else-k-eq0 : goal.returns-else-k-eq0
returns-else-k-eq0 c = λ d h.
    let k = around-some c.field-k.result (pos_of_ne-zero c.if-k-eq0.false) in
    let f = c.field-len in
    omega (arith, own-width c.args.table.now d c.args.i f.result c.width.result h f.ensures (omega arith) c.width.ensures.0, rw c.field-k.ensures at k)
