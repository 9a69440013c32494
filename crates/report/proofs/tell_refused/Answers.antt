-- `report::tell_refused` meets its contract. Assumes nothing.
use native.Mathlib.Omega.{arith}
use Rattle.scheme.specs.Program.{refused_line}
use Rattle.report.proofs.Lines.{told-short, told}
use Rattle.report.proofs.tell_refused.Goals as goal

pub returns-then-out-len : goal.returns-then-out-len
returns-then-out-len c =
    let r = c.args.r in
    let e = c.refused_len-len.ensures.0 in
    told-short (refused_line r) _ (omega (arith, e, c.if-out-len.true)) _ e

pub returns : goal.returns
returns c =
    let r = c.args.r in
    let e = c.refused_len-len.ensures.0 in
    let p = c.put_refused in
    told (refused_line r) _ (omega (arith, e, c.if-out-len.false)) _ _ (omega (arith, p.ensures.next)) p.ensures.put
