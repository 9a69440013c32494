-- `crc32c::crc_run` meets its contract. The loop's invariant: the state, run over the bytes that are left, gives what the whole run
-- gives.
-- Assumes nothing.
use mathlib.Core.Path.{◌≡◌}
use lib.ListN.{drop}
use Rattle.scheme.specs.Crc.{crc_run}
use Rattle.crc32c.specs.Table.{crc_table}
use Rattle.crc32c.proofs.crc_run.Given as goal

abbrev pub invariant-loop-b : goal.invariant-loop-b
invariant-loop-b l = (l.table ≡ crc_table) × (crc_run l.state (drop l.b-index l.bytes) ≡ crc_run l.crc l.bytes)
