-- `report::ok_len` meets its contract. Assumes nothing.
use native.Mathlib.Omega.{arith}
use Rattle.report.proofs.Lines.{ok-length}
use Rattle.report.proofs.ok_len.Goals as goal

pub returns : goal.returns
returns c =
    let a = c.args in
    omega (arith, ok-length a.used a.cells a.roots, c.width.ensures, c.width-2.ensures, c.width-3.ensures)
