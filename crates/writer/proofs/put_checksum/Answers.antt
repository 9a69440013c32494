-- `writer::put_checksum` meets its contract. Assumes nothing.
use mathlib.Core.Path.{ap, sym, ◌∙◌}
use Rattle.laws.specs.Puts.{puts, puts-nil}
use Rattle.writer.proofs.Numbers.{low-is}
use Rattle.writer.proofs.Seal.{checksum_yes, checksum-no}
use Rattle.writer.proofs.put_checksum.Goals as goal

pub returns-then-has_crc32c : goal.returns-then-has_crc32c
returns-then-has_crc32c c =
    let a = c.args in
    c.put.ensures.1 ∙ ap (puts a.out.now a.at) (cc (low-is 4 c.crc32c.result, checksum_yes a.has_crc32c a.out.now a.at c.if-has_crc32c.true))

pub returns-else-has_crc32c : goal.returns-else-has_crc32c
returns-else-has_crc32c c =
    let a = c.args in
    sym (puts-nil a.out.now a.at) ∙ ap (puts a.out.now a.at) (sym (checksum-no a.has_crc32c a.out.now a.at c.if-has_crc32c.false))
