-- The bytes of the listed cells by the numbers of the table and the scratch. Assumes nothing: these are definitions.
use Rattle.std.specs.Prelude.{ℕ, ◌+◌, ◌*◌, List, [], ◌∷◌, ◌++◌, get_or}
use Rattle.scheme.specs.Bits.{bytes_for}
use Rattle.scheme.specs.Bytes.{be}
use Rattle.scheme.specs.Cells.{with}
use Rattle.scheme.specs.Memory.{cell_at, cells_of}
use Rattle.scheme.specs.Write.{Leveled, level_of, entry}
use Rattle.laws.specs.Records.{refs_at}

-- the length of cell x, with references of `size` bytes
unfoldable pub cell_size : List ℕ → ℕ → ℕ → ℕ
cell_size t size x = 2 + bytes_for (get_or t (x * 7 + 1) 0) + get_or t (x * 7 + 2) 0 * size

unfoldable pub sizes : List ℕ → ℕ → List ℕ → ℕ
sizes t size [] = 0
sizes t size (x ∷ xs) = cell_size t size x + sizes t size xs

-- the index of these cells, the first at `start`
unfoldable pub index_of : List ℕ → ℕ → ℕ → ℕ → List ℕ → List ℕ
index_of t size off start [] = []
index_of t size off start (x ∷ xs) = be off (entry start (start + cell_size t size x)) ++ index_of t size off (start + cell_size t size x) xs

-- the places of these cells, by the scratch
unfoldable pub places_of : List ℕ → ℕ → List ℕ → List ℕ
places_of s n [] = []
places_of s n (r ∷ rs) = get_or s (2 * n + r) 0 ∷ places_of s n rs

-- cell x with its level and the places of its references
unfoldable pub placed_cell : List ℕ → List ℕ → List ℕ → ℕ → ℕ → Leveled
placed_cell t d s n x = record { level = level_of (cells_of n t d) x; cell = with (cell_at t d x) (places_of s n (refs_at t x)) }

unfoldable pub placed_cells : List ℕ → List ℕ → List ℕ → ℕ → List ℕ → List Leveled
placed_cells t d s n [] = []
placed_cells t d s n (x ∷ xs) = placed_cell t d s n x ∷ placed_cells t d s n xs

-- the header of m cells of `total` bytes, with one root, the first cell
unfoldable pub head_bytes : ℕ → ℕ → ℕ → ℕ → ℕ → List ℕ
head_bytes flags m size off total = 0xb5 ∷ 0xee ∷ 0x9c ∷ 0x72 ∷ flags ∷ off ∷ (be size m ++ (be size 1 ++ (be size 0 ++ (be off total ++ be size 0))))
