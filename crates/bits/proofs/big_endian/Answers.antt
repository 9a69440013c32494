use Prim.Native.Nat.{◌<◌, ◌-◌, ◌+◌, ◌*◌}
use lib.Dec.{lit<}
use mathlib.Core.Path.{◌≡◌, ◌∙◌}
use native.Mathlib.Omega.{arith}
use native.Mathlib.Nat.{add-zero, sub-zero}
use Rattle.bits.proofs.FieldLaws.{be-more, be-bound, be-fits}
use Rattle.bits.proofs.big_endian.Goals as goal
use Rattle.bits.proofs.big_endian.Goals.{After-from}

pub loop-i-init : goal.loop-i-init
loop-i-init c = (omega arith, rw (sub-zero, add-zero))

pub overflow_mul-value : goal.overflow_mul-value
overflow_mul-value c =
    let l = c.loop-i in
    record { fits = be-fits (l.i + 1) (l.value * 256) (omega (arith, be-bound l.i l.value 0 l.invariant.0 (lit< tt))) (omega arith) }

-- the byte that was read is below 256
byte : (c : After-from) → c.from.result < 256
byte c = omega (arith, c.type_inv.bytes (c.args.at + c.loop-i.i))

pub overflow_add-value : goal.overflow_add-value
overflow_add-value c =
    let l = c.loop-i in
    record { fits = be-fits (l.i + 1) (l.value * 256 + c.from.result) (be-bound l.i l.value c.from.result l.invariant.0 (byte c)) (omega arith) }

pub loop-i-preserved : goal.loop-i-preserved
loop-i-preserved c =
    let l = c.loop-i in
    let a = c.args in (
      be-bound l.i l.value c.from.result l.invariant.0 (byte c),
      rw c.from.ensures (be-more a.bytes.now a.at a.n l.i l.value (omega arith) (omega arith) ∙ l.invariant.1),
    )

pub returns : goal.returns
returns c =
    let l = c.loop-i in
    let a = c.args in
    let e : a.n - l.i ≡ 0 = omega arith in
    rw e at l.invariant.1
