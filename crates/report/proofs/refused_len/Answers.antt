-- `report::refused_len` meets its contract. Assumes nothing.
use native.Mathlib.Omega.{arith}
use Rattle.report.proofs.Lines.{refused-length}
use Rattle.report.proofs.refused_len.Goals as goal

pub returns : goal.returns
returns c = omega (arith, refused-length c.args.r, rw c.number.ensures at c.width.ensures, c.width-2.ensures)
