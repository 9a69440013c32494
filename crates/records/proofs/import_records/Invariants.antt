use Rattle.std.proofs.Common.{◌≡◌}
use Rattle.records.specs.Record.{import_recs}
use Rattle.records.proofs.import_records.Given as goal

abbrev pub invariant-loop-i : goal.invariant-loop-i
invariant-loop-i l = (l.flat ≡ import_recs l.table l.i l.fn.flat)
