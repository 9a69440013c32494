-- The fields of a bag, in the order of its bytes: each by its width, so that a field begins where the one before it ends.
-- A field is one number, byte 4, one cell's hashes or one cell's data.
use Rattle.std.specs.Prelude.{◌≡◌, ℕ, zero, suc, ◌+◌, ◌/◌, ◌%◌, ◌≤◌, ◌<◌, Bool, cond, List, [], ◌∷◌, ◌++◌, take, drop, replicate, eqb, leb}
use Rattle.scheme.specs.Bytes.{unbe}
use Rattle.scheme.specs.Bag.{hashes}

abbrev pub total : List ℕ → ℕ
total [] = 0
total (w ∷ ws) = w + total ws

-- of fields with these widths, the first one at place p: the place of the first one that ends past k
abbrev pub cut_place : ℕ → ℕ → List ℕ → ℕ
cut_place p k [] = p
cut_place p k (w ∷ ws) = cond (leb (p + w) k) (cut_place (p + w) k ws) p

-- p is the place of a field among fields of these widths, and of k bytes it is not whole
pub record NotWhole (ws : List ℕ) (k p : ℕ) : Type 0 where
  pub before : List ℕ
  pub width : ℕ
  pub behind : List ℕ
  pub fields : ws ≡ before ++ width ∷ behind
  pub place : p ≡ total before
  pub begins : p ≤ k
  pub ends : k < p + width

-- the number of w bytes at place p
abbrev pub number_at : List ℕ → ℕ → ℕ → ℕ
number_at b p w = unbe 0 (take w (drop p b))

-- size, off_bytes, cells, roots, has_idx and has_crc32c of a bag
abbrev pub size_in : List ℕ → ℕ
size_in b = number_at b 4 1 % 8

abbrev pub off_in : List ℕ → ℕ
off_in b = number_at b 5 1

abbrev pub count_in : List ℕ → ℕ
count_in b = number_at b 6 (size_in b)

abbrev pub roots_in : List ℕ → ℕ
roots_in b = number_at b (6 + size_in b) (size_in b)

abbrev pub idx_in : List ℕ → Bool
idx_in b = eqb (number_at b 4 1 / 128 % 2) 1

abbrev pub crc_in : List ℕ → Bool
crc_in b = eqb (number_at b 4 1 / 64 % 2) 1

-- the cell at place p: d1, d2, hashes, data, references
unfoldable pub cell_fields : List ℕ → ℕ → ℕ → List ℕ
cell_fields b size p = 1 ∷ 1 ∷ hashes (number_at b p 1) ∷ (number_at b (p + 1) 1 + 1) / 2 ∷ replicate (number_at b p 1 % 8) size

-- n cells from place p on
abbrev pub cells_fields : List ℕ → ℕ → ℕ → ℕ → List ℕ
cells_fields b size zero p = []
cells_fields b size (suc n) p = cell_fields b size p ++ cells_fields b size n (p + total (cell_fields b size p))

-- tag, byte 4, off_bytes, cells, roots, absent, total; the root list; the index; the cells; the checksum
unfoldable pub front_fields : List ℕ → List ℕ
front_fields b =
    (4 ∷ 1 ∷ 1 ∷ size_in b ∷ size_in b ∷ size_in b ∷ off_in b ∷ [])
    ++ (replicate (roots_in b) (size_in b) ++ replicate (cond (idx_in b) (count_in b) 0) (off_in b))

unfoldable pub bag_fields : List ℕ → List ℕ
bag_fields b = front_fields b ++ (cells_fields b (size_in b) (count_in b) (total (front_fields b)) ++ cond (crc_in b) (4 ∷ []) [])
