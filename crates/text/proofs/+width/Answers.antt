use Prim.Native.Nat.{◌+◌, ◌/◌, ◌%◌}
use mathlib.Core.Path.{ap, sym}
use mathlib.Core.List.{[], ◌∷◌}
use native.Mathlib.Omega.{arith}
use lib.ListN.{length, length-append}
use Rattle.scheme.specs.Text.{digits}
use Rattle.text.proofs.Digits.{digits-one, digits-two, digits-length}
use Rattle.text.proofs.+width.Goals as goal

pub returns-then-n-lt10 : goal.returns-then-n-lt10
returns-then-n-lt10 t c =
    let e = ap length (digits-one 19 c.args.n c.if-n-lt10.true) in
    (sym e, omega arith)

pub returns : goal.returns
returns t c =
    let n = c.args.n in
    let e = ap length (digits-two n c.if-n-lt10.false (omega arith)) in
    let l = length-append (digits 20 (n / 10)) ((48 + n % 10) ∷ []) in
    (omega arith, omega (arith, digits-length 20 n))
