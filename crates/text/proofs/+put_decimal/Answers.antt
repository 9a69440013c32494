use Prim.Native.Nat.{◌+◌, ◌/◌, ◌%◌}
use mathlib.Core.Path.{ap}
use mathlib.Core.List.{[], ◌∷◌}
use native.Mathlib.Omega.{arith}
use lib.ListN.{length, length-append}
use Rattle.scheme.specs.Text.{digits}
use Rattle.laws.specs.Puts.{puts_then}
use Rattle.text.proofs.Digits.{digits-one, digits-two}
use Rattle.text.proofs.+put_decimal.Goals as goal

pub put_byte-requires : goal.put_byte-requires
put_byte-requires t c = omega (arith, ap length (digits-one 19 c.args.n c.if-n-lt10.true))

pub returns-then-n-lt10 : goal.returns-then-n-lt10
returns-then-n-lt10 t c =
    let e = digits-one 19 c.args.n c.if-n-lt10.true in
    (rw e c.put_byte.ensures.0, rw e c.put_byte.ensures.1)

pub put_decimal-last-requires : goal.put_decimal-last-requires
put_decimal-last-requires t c =
    let n = c.args.n in
    let e = ap length (digits-two n c.if-n-lt10.false (omega arith)) in
    let l = length-append (digits 20 (n / 10)) ((48 + n % 10) ∷ []) in
    (omega arith, omega arith)

pub put_byte-requires-2 : goal.put_byte-requires-2
put_byte-requires-2 t c =
    let n = c.args.n in
    let e = ap length (digits-two n c.if-n-lt10.false (omega arith)) in
    let l = length-append (digits 20 (n / 10)) ((48 + n % 10) ∷ []) in
    omega arith

pub returns : goal.returns
returns t c =
    let a = c.args in
    let n = a.n in
    let q = digits-two n c.if-n-lt10.false (omega arith) in
    let e = ap length q in
    let l = length-append (digits 20 (n / 10)) ((48 + n % 10) ∷ []) in
    let d = c.put_decimal-last in
    let b = c.put_byte-2 in
    (omega arith, rw q (puts_then a.out.now d.new.out b.new.out a.at d.result (digits 20 (n / 10)) ((48 + n % 10) ∷ []) d.ensures.1 d.ensures.0 b.ensures.1))
