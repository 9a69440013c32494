use Rattle.records.specs.Cells.{there_and_back}
use Rattle.try_records.proofs.there_and_back.Goals as goal

pub returns : goal.returns
returns c =
    there_and_back _ _ _ _ _ _ _ _ c.export-exported.ensures c.import.ensures
