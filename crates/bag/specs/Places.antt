-- The cells of a bag by place: what a reader that leaves each cell's place in the scratch has seen of the cells.
use Rattle.std.specs.Prelude.{ℕ, zero, suc, ◌≡◌, List, [], ◌∷◌, Ok, Err}
use Rattle.scheme.specs.Res.{Res, then}
use Rattle.scheme.specs.Cells.{Cell, blank}
use Rattle.scheme.specs.Bag.{Past, raw_cell, raw_cells}

-- a cell can be read at place p, and that cell; where none can, the empty one
abbrev pub IsCell : List ℕ → ℕ → ℕ → Type 0
IsCell b size p = (c : Past Cell) × (raw_cell b size p ≡ Ok c)

abbrev pub cell_of : Res (Past Cell) → Cell
cell_of (Err r) = blank
cell_of (Ok c) = c.it

unfoldable pub cell_at : List ℕ → ℕ → ℕ → Cell
cell_at b size p = cell_of (raw_cell b size p)

-- the cells at these places
unfoldable pub cells_at : List ℕ → ℕ → List ℕ → List Cell
cells_at b size [] = []
cells_at b size (p ∷ ps) = cell_at b size p ∷ cells_at b size ps

-- the places of n cells from p on; the first one that is refused is the last
abbrev pub behind : Res (Past Cell) → (ℕ → List ℕ) → List ℕ
behind (Err r) f = []
behind (Ok c) f = f c.next

unfoldable pub places : List ℕ → ℕ → ℕ → ℕ → List ℕ
places b size zero p = []
places b size (suc n) p = p ∷ behind (raw_cell b size p) λ q. places b size n q

-- the place behind n cells
unfoldable pub scanned : List ℕ → ℕ → ℕ → ℕ → Res ℕ
scanned b size n p = then (raw_cells b size n p) λ cs. Ok cs.next
