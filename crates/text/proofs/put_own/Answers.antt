-- `text::put_own` meets its contract: each call goes on where the one before it ended. Assumes nothing.
use Prim.Native.Nat.{◌+◌, ◌-◌, ◌*◌, ◌/◌, ◌≤◌}
use mathlib.Core.Path.{◌≡◌, ap}
use native.Mathlib.Omega.{arith}
use lib.ListN.{length, take, drop}
use Rattle.scheme.specs.Text.{hex}
use Rattle.text.specs.Parts.{bytes_at}
use Rattle.text.proofs.Texts.{own_room, own_put}
use Rattle.text.proofs.put_own.Goals as goal
use Rattle.text.proofs.put_own.Goals.{After-div_ceil}

-- the part of the data that is lent
part : (c : After-div_ceil)
    → take (c.args.n * 128 + c.div_ceil.result - c.args.n * 128) (drop (c.args.n * 128) c.args.cells.now.bytes.now)
    ≡ bytes_at c.args.cells.now.bytes.now c.args.n c.field-len.result
unfolding bytes_at
part c =
    let e : c.args.n * 128 + c.div_ceil.result - c.args.n * 128 ≡ (c.field-len.result + 7) / 8 = omega arith in
    rw e

pub put_decimal-a-requires : goal.put_decimal-a-requires
put_decimal-a-requires c =
    let f = c.field-len in
    omega (arith, own_room c.args.cells.now.table.now c.args.cells.now.bytes.now c.args.n f.result f.ensures (omega arith))

pub put-b-requires : goal.put-b-requires
put-b-requires c =
    let f = c.field-len in
    omega (arith, own_room c.args.cells.now.table.now c.args.cells.now.bytes.now c.args.n f.result f.ensures (omega arith))

pub put_hex-e-requires : goal.put_hex-e-requires
put_hex-e-requires c =
    let f = c.field-len in
    let q = ap (λ x. length (hex x)) (part (goal.at.put_hex-e-requires c).After-div_ceil) in
    omega (arith, own_room c.args.cells.now.table.now c.args.cells.now.bytes.now c.args.n f.result f.ensures (omega arith), q)

pub put_byte-requires : goal.put_byte-requires
put_byte-requires c =
    let f = c.field-len in
    let q = ap (λ x. length (hex x)) (part (goal.at.put_byte-requires c).After-div_ceil) in
    omega (arith, own_room c.args.cells.now.table.now c.args.cells.now.bytes.now c.args.n f.result f.ensures (omega arith), q)

pub returns : goal.returns
returns c =
    let a = c.args in
    let f = c.field-len in
    let d = c.put_decimal-a in
    let o = c.put-b in
    let h = c.put_hex-e in
    let e = c.put_byte in
    let p = part (goal.at.returns c).After-div_ceil in
    let q = ap (λ x. length (hex x)) p in
    let l : f.result ≤ 1023 = omega arith in record {
      next = omega (arith, own_room a.cells.now.table.now a.cells.now.bytes.now a.n f.result f.ensures l, d.ensures.0, o.ensures.0, h.ensures.next, e.ensures.0, q);
      put = own_put a.cells.now.table.now a.cells.now.bytes.now a.n f.result a.at d.result o.result h.result _ a.out.now d.new.out o.new.out h.new.out e.new.out
          f.ensures l p d.ensures.1 d.ensures.0 o.ensures.1 o.ensures.0 h.ensures.put h.ensures.next e.ensures.1;
    }
