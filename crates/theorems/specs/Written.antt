-- What a writer writes, in the grammar: the header and the cells that the bag of a stored cell has.
use Rattle.std.specs.Prelude.{ℕ, ◌+◌, ◌%◌, Bool, false, not, cond, List, [], ◌∷◌, map, length, eqb}
use Rattle.scheme.specs.Bytes.{width}
use Rattle.scheme.specs.Cells.{Cell}
use Rattle.scheme.specs.Write.{padded, bag_cell}
use Rattle.theorems.specs.Grammar.{RawCell, cell_text, cells_text, Head}

-- level 0 and no hashes; the last data byte is completed if the bits do not fill it
unfoldable pub raw_of : Cell → RawCell
raw_of c = record {
  exotic = c.exotic;
  level = 0;
  has-hashes = false;
  hashes = [];
  completed = not (eqb (c.len % 8) 0);
  content = padded c;
  refs = c.refs;
}

-- the cells of s in the order `out`, with places in it for references
abbrev pub listed : List Cell → List ℕ → List RawCell
listed s out = map (λ (n : ℕ). raw_of (bag_cell s out n)) out

-- the places of the cells' first bytes, counted from the first cell, which stands at p
abbrev pub starts : ℕ → ℕ → List RawCell → List ℕ
starts size p [] = []
starts size p (c ∷ cs) = p ∷ starts size (p + length (cell_text size c)) cs

-- one root, the first cell; the fewest bytes that hold the count of cells, and that hold the length of their text
unfoldable pub head_for : Bool → Bool → List RawCell → Head
head_for has_idx has_crc cs =
    let size = width 8 (length cs) in
    let total = length (cells_text size cs) in
    record {
      size = size;
      off = width 8 total;
      has_idx = has_idx;
      has_crc = has_crc;
      has_cache = false;
      flags = 0;
      absent = 0;
      total = total;
      roots = 0 ∷ [];
      index = cond has_idx (starts size 0 cs) [];
    }
