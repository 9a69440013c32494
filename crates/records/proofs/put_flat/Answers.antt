-- `records::put_flat` meets its contract. Assumes nothing.
use Rattle.std.proofs.Common.{◌≡◌, ◌+◌, ◌*◌, ◌-◌, ◌∙◌, sym, arith, drop-drop, append_assoc, take, drop}
use Rattle.records.specs.Cells.{numbers, put_is}
use Rattle.records.proofs.put_flat.Goals as goal

pub returns : goal.returns
returns c =
    let a = c.args in
    let e : 7 * a.n + 7 - 7 * a.n ≡ 7 = omega arith in
    rw (c.copy_from_slice.ensures.after, e, drop-drop)
    (sym (put_is a.flat.now a.n a.r (omega arith) ∙ append_assoc (take (7 * a.n) a.flat.now) (numbers a.r) (drop (7 * a.n + 7) a.flat.now)))
