-- Two answers that meet the contract of a public function are equal. Assumes nothing.
use Rattle.std.specs.Prelude.{◌≡◌, ℕ, List}
use Rattle.scheme.specs.Res.{Res}
use Rattle.laws.specs.OneAnswer.{one-content}
use Rattle.raw_cell.specs.Frame.{frame}
use Rattle.raw_cell.specs.Block.{block_at}
use Rattle.raw_cell.specs.declared.RawCell.{RawCell}

-- one answer, and one block
pub raw-cell-unique : (b : List ℕ) (size p : ℕ) (r s : Res RawCell) → r ≡ frame b size p → s ≡ frame b size p → r ≡ s
raw-cell-unique b size p r s e f = one-content e f

pub copy_data_unique : (b : List ℕ) (p len : ℕ) (o q : List ℕ) → o ≡ block_at b p len → q ≡ block_at b p len → o ≡ q
copy_data_unique b p len o q e f = one-content e f
