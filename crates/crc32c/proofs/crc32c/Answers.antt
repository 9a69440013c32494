-- `crc32c::crc32c` meets its contract: the run from all ones, inverted.
-- Assumes nothing.
use mathlib.Core.Path.{ap}
use Prim.Native.Nat.{ℕ, ◌-◌}
use Rattle.scheme.specs.Crc.{crc_of}
use Rattle.crc32c.proofs.crc32c.Goals as goal

pub returns : goal.returns
unfolding crc_of
returns c = ap (λ (x : ℕ). 0xFFFF_FFFF - x) c.crc_run.ensures
