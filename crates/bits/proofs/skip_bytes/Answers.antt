-- `bits::skip_bytes` meets its contract. Assumes nothing.
use mathlib.Core.Path.{sym}
use native.Mathlib.Omega.{arith}
use Rattle.bits.specs.Laws.{skip-whole, skip-cut}
use Rattle.bits.proofs.skip_bytes.Goals as goal
use Rattle.bits.proofs.skip_bytes.Goals.{else-at-bytes-via-then-at-bytes+else-n-bytes, else-at-bytes-via-else-at-bytes}

pub returns-then-n-bytes : goal.returns-then-n-bytes
returns-then-n-bytes c = sym (skip-whole _ _ _ (omega arith))

pub returns-else-at-bytes : goal.returns-else-at-bytes
returns-else-at-bytes c =
    rw c.at.ensures (sym (skip-cut _ _ _
    (elim c.else-at-bytes.branch [ else-at-bytes-via-then-at-bytes+else-n-bytes w ↦ omega arith | else-at-bytes-via-else-at-bytes w ↦ omega arith ])))
