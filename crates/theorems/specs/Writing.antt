-- Writing: the listing, and the bytes as the grammar's text of that listing. The theorems are in proofs/Writing.
-- Assumes nothing.
use Rattle.std.specs.Prelude.{◌≡◌, ℕ, ◌^◌, ◌≤◌, ◌<◌, Bool, get_or, drop}
use mathlib.Core.List.{List, ◌++◌, map}
use Rattle.std.proofs.Math.ListN.{length}
use Rattle.scheme.specs.Limits.{max_cells}
use Rattle.scheme.specs.Bytes.{width}
use Rattle.scheme.specs.Cells.{Cell, at, tree}
use Rattle.scheme.specs.Bag.{read_scratch}
use Rattle.scheme.specs.Order.{order_of}
use Rattle.scheme.specs.Memory.{cells_of}
use Rattle.scheme.specs.Calls.{WriteOut}
use Rattle.scheme.specs.Write.{write, bag_cell}
use Rattle.laws.specs.Fields.{width-holds, width-le}
use Rattle.laws.specs.CellRound.{Fit}
use Rattle.laws.specs.Unique.{Low}
use Rattle.laws.specs.Reach.{Listing}
use Rattle.theorems.specs.Grammar.{cell_of, serialized, Admissible}
use Rattle.theorems.specs.Written.{listed, head_for}

-- Writing: the fewest bytes that hold a number hold it, and no fewer do.
pub fewest : (n k : ℕ) → n < 256 ^ 8 → (n < 256 ^ width 8 n) × (n < 256 ^ k → width 8 n ≤ k)
fewest n k h = (width-holds 8 n h, width-le 8 k n)

-- the bytes b are the bag of the cells that the root reaches in s
pub record Writes (has_idx has_crc : Bool) (s : List Cell) (root : ℕ) (b : List ℕ) : Type 0 where
  -- the listing, in the order of the queue: each cell that the root reaches and no other, once, the root first, references later
  pub out : List ℕ
  pub order : out ≡ order_of s root
  pub lists : Listing s root out
  -- the bytes are the grammar's text of it, with sound links, for every reading whose limits allow so many cells and one root
  pub text : b ≡ serialized (head_for has_idx has_crc (listed s out)) (listed s out)
  pub admissible : (scratch room : ℕ) → read_scratch (length out) ≤ scratch → 1 ≤ room → Admissible scratch room (head_for has_idx has_crc (listed s out)) (listed s out)
  -- the cells say what is listed, with places in the listing for references, and unfold to the structures of the cells that are listed
  pub cells : map cell_of (listed s out) ≡ map (bag_cell s out) out
  pub structure : (k : ℕ) → k < length out → tree (map cell_of (listed s out)) k ≡ tree s (get_or out k 0)

-- Writing: what is written of a held cell, in every store of cells that are fit to be stored, with references to lower numbers.
abbrev pub WritesHeld : Type 0
WritesHeld =
    (has_idx has_crc : Bool) (s : List Cell) (root : ℕ)
    → Low s → ((x : ℕ) → x < length s → Fit (at s x)) → length s ≤ max_cells → root < length s
    → Writes has_idx has_crc s root (write has_idx has_crc s root)

-- what an accepted call of serialize made of lent memory
pub record CallWrites (has_idx has_crc : Bool) (n : ℕ) (t d : List ℕ) (root : ℕ) (out : List ℕ) (len : ℕ) (o : WriteOut ℕ) : Type 0 where
  pub bytes : List ℕ
  pub are : Writes has_idx has_crc (cells_of n t d) root bytes
  pub written : len ≡ length bytes
  pub room : length bytes ≤ length out
  pub front : o.out ≡ bytes ++ drop (length bytes) out
