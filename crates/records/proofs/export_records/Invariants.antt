use Rattle.std.proofs.Common.{◌≡◌}
use Rattle.records.specs.Record.{export_recs}
use Rattle.records.proofs.export_records.Given as goal

abbrev pub invariant-loop-i : goal.invariant-loop-i
invariant-loop-i l = (l.table ≡ export_recs l.flat l.i l.fn.table)
