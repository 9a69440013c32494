-- `report::put_spaced` meets its contract. Assumes nothing.
use native.Mathlib.Omega.{arith}
use Rattle.report.proofs.Lines.{spaced-put}
use Rattle.report.proofs.put_spaced.Goals as goal

pub returns : goal.returns
returns c =
    let b = c.put_byte-a in
    let d = c.put_decimal in
    record { next = omega (arith, b.ensures.0, d.ensures.0); put = spaced-put _ _ _ _ _ _ b.ensures.1 b.ensures.0 d.ensures.1 }
