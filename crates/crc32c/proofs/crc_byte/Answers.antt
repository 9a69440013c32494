-- `crc32c::crc_byte` meets its contract: the table's entry at the low digits, xor the rest of the state, is eight steps.
-- Assumes nothing.
use Rattle.crc32c.proofs.Table.{by-table}
use Rattle.crc32c.proofs.crc_byte.Goals as goal

pub returns : goal.returns
returns c =
    by-table c.args.crc c.args.b c.args.table.now
    c.from.result c.ranges.b.fits c.requires c.from.ensures
