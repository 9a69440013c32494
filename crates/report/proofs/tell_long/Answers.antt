-- `report::tell_long` meets its contract. Assumes nothing.
use mathlib.Core.Path.{refl}
use Rattle.scheme.specs.Program.{too_long}
use Rattle.report.proofs.Lines.{told-short, told}
use Rattle.report.proofs.tell_long.Goals as goal

pub returns-then-out-lt-TOO_LONG_LEN : goal.returns-then-out-lt-TOO_LONG_LEN
returns-then-out-lt-TOO_LONG_LEN c = told-short too_long _ c.if-out-lt-TOO_LONG_LEN.true _ refl

pub returns : goal.returns
returns c = told too_long _ c.if-out-lt-TOO_LONG_LEN.false _ _ c.put.ensures.0 c.put.ensures.1
