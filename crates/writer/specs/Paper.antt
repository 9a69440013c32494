-- The promise of `serialize`. Assumes nothing: these are definitions.
use Rattle.std.specs.Prelude.{ℕ, ◌≡◌, Bool, List}
use Rattle.scheme.specs.Res.{Res}
use Rattle.scheme.specs.Calls.{writing}
use Rattle.writer.specs.declared.BagOfCellsArgs.{BagOfCellsArgs}

-- the answer and the output
pub record Writes (has_idx has_crc : Bool) (n : ℕ) (t d : List ℕ) (root : ℕ) (s o : List ℕ) (r : Res ℕ) (o' : List ℕ) : Type 0 where
  pub answer : r ≡ (writing has_idx has_crc n t d root s o).answer
  pub out : o' ≡ (writing has_idx has_crc n t d root s o).out

-- the answer, and every lent number and byte afterwards
pub record Serialized (args : BagOfCellsArgs) (n : ℕ) (t d : List ℕ) (root : ℕ) (s o : List ℕ) (r : Res ℕ) (s' o' : List ℕ) : Type 0 where
  pub answer : r ≡ (writing args.has_idx args.has_crc32c n t d root s o).answer
  pub scratch : s' ≡ (writing args.has_idx args.has_crc32c n t d root s o).scratch
  pub out : o' ≡ (writing args.has_idx args.has_crc32c n t d root s o).out
