-- The table of 256 numbers: its rule, stated once for all entries.
-- Assumes nothing.
use Rattle.std.specs.Prelude.{List, [], ◌∷◌, ℕ, zero, suc}
use Rattle.scheme.specs.Crc.{crc_steps}

-- the numbers of a function at n places, from i on
unfoldable pub table_of : (ℕ → ℕ) → ℕ → ℕ → List ℕ
table_of f zero i = []
table_of f (suc n) i = f i ∷ table_of f n (suc i)

-- the table's rule: what eight steps make of each byte
unfoldable pub crc_table : List ℕ
crc_table = table_of (crc_steps 8) 256 0
