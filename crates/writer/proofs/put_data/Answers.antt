-- `writer::put_data` meets its contract. Assumes nothing.
use Prim.Native.Nat.{ℕ, ◌+◌, ◌/◌}
use mathlib.Core.Path.{refl, ap, sym, ◌∙◌}
use mathlib.Core.List.{List}
use native.Mathlib.Omega.{arith}
use lib.ListN.{length, take, length-append}
use Rattle.laws.specs.Puts.{puts, puts_then}
use Rattle.writer.proofs.Data.{front-long, put_whole, put-part, put-fits}
use Rattle.writer.proofs.put_data.Goals as goal

pub put-next-requires : goal.put-next-requires
put-next-requires c = omega (arith, front-long c.data-data.ensures.value c.field-len.ensures c.requires.cell_ok)

pub returns-then-r-eq0 : goal.returns-then-r-eq0
returns-then-r-eq0 c =
    let a = c.args in
    let r = c.put-next in
    let e = put_whole c.data-data.ensures.value c.field-len.ensures c.requires.cell_ok c.if-r-eq0.true in
    (r.ensures.0 ∙ ap (λ (l : List ℕ). a.at + length l) e, r.ensures.1 ∙ ap (puts a.out.now a.at) e)

pub overflow_add-data : goal.overflow_add-data
overflow_add-data c =
    let f = put-fits c.data-data.ensures.value c.field-len.ensures c.requires.cell_ok c.if-r-eq0.false (grind arith) in
    omega (arith, c.bit_after.ensures)

pub put_byte-requires : goal.put_byte-requires
put_byte-requires c =
    let e = put-part c.data-data.ensures.value c.field-len.ensures c.requires.cell_ok c.if-r-eq0.false in
    let l = ap length e ∙ length-append (take (c.field-len.result / 8) c.data-data.result.now) _ in
    omega (arith, c.put-next.ensures.0, c.put-next.auto.out, c.requires.x_in_bounds)

pub returns : goal.returns
returns c =
    let a = c.args in
    let r = c.put-next in
    let b = c.put_byte in
    let e = put-part c.data-data.ensures.value c.field-len.ensures c.requires.cell_ok c.if-r-eq0.false in
    let front = take (c.field-len.result / 8) c.data-data.result.now in
    let l = ap length e ∙ length-append front _ in
    (omega (arith, r.ensures.0, b.ensures.0), puts_then a.out.now r.new.out b.new.out a.at r.result front _ r.ensures.1 r.ensures.0 (b.ensures.1 ∙ rw c.bit_after.ensures refl) ∙ ap (puts a.out.now a.at) (sym e))
