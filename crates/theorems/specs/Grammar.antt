-- The bytes of a bag as the TL-B scheme has them, apart from any reading: what a header and cells are written as, and when they may be.
-- In three places, marked 'looser', `Admissible` asks less than the scheme, as the Rust does: the flag bits, a bag with no root, the total.
use Rattle.std.specs.Prelude.{◌≡◌, ℕ, ◌+◌, ◌-◌, ◌*◌, ◌/◌, ◌%◌, ◌^◌, ◌≤◌, ◌<◌, Bool, true, cond, length}
use mathlib.Core.List.{List, [], ◌∷◌, ◌++◌, map, Memᴰ as Mem}
use Rattle.scheme.specs.Limits.{max_cells, max_refs}
use Rattle.scheme.specs.Bytes.{be, le}
use Rattle.scheme.specs.Bits.{bit_of, last_of, zeros, unmark}
use Rattle.scheme.specs.Crc.{crc_of}
use Rattle.scheme.specs.Cells.{Cell, at}
use Rattle.scheme.specs.Layout.{generic_tag}
use Rattle.scheme.specs.Bag.{Bag, read_scratch}
use Rattle.scheme.specs.Write.{all_be}
use Rattle.laws.specs.Accept.{Small}

-- ---- a cell

-- `completed`: its last data byte ends in a 1 bit and zeros that are no data. References are bag places
pub record RawCell : Type 0 where
  pub exotic : ℕ
  pub level : ℕ
  pub has-hashes : Bool
  pub hashes : List ℕ
  pub completed : Bool
  pub content : List ℕ
  pub refs : List ℕ

-- the ones of a number of three bits
abbrev pub ones_in : ℕ → ℕ
ones_in level = level % 2 + level / 2 % 2 + level / 4 % 2

unfoldable pub refs_descriptor : RawCell → ℕ
refs_descriptor c = length c.refs + 8 * c.exotic + 16 * bit_of c.has-hashes + 32 * c.level

unfoldable pub bits_descriptor : RawCell → ℕ
bits_descriptor c = 2 * length c.content - bit_of c.completed

-- d1, d2, hashes, data, references
unfoldable pub cell_text : ℕ → RawCell → List ℕ
cell_text size c = refs_descriptor c ∷ bits_descriptor c ∷ (c.hashes ++ (c.content ++ all_be size c.refs))

abbrev pub cells_text : ℕ → List RawCell → List ℕ
cells_text size [] = []
cells_text size (c ∷ cs) = cell_text size c ++ cells_text size cs

-- the cell that it stands for: level and hashes are dropped, and so is what completes the last byte
unfoldable pub cell_of : RawCell → Cell
cell_of c =
    let t = zeros 8 (last_of c.content) in
    record {
      exotic = c.exotic;
      len = cond c.completed (8 * length c.content - 1 - t) (8 * length c.content);
      bytes = cond c.completed (unmark t c.content) c.content;
      refs = c.refs;
    }

-- d2 is one byte; a completed last byte has a 1 bit; 34 bytes of hashes for each 1 of the level, and 34 more
pub record RawCellOk (c : RawCell) : Type 0 where
  pub exotic : c.exotic ≤ 1
  pub level : c.level ≤ 7
  pub hashes : length c.hashes ≡ cond c.has-hashes (34 * (ones_in c.level + 1)) 0
  pub hash_bytes : Small c.hashes
  pub data_bytes : Small c.content
  pub short : bits_descriptor c ≤ 255
  pub some : c.completed ≡ true → last_of c.content ≡ 0 → ⊥
  pub refs : length c.refs ≤ max_refs

-- ---- a bag

pub record Head : Type 0 where
  pub size : ℕ
  pub off : ℕ
  pub has_idx : Bool
  pub has_crc : Bool
  pub has_cache : Bool
  pub flags : ℕ
  pub absent : ℕ
  pub total : ℕ
  pub roots : List ℕ
  pub index : List ℕ

unfoldable pub byte4 : Head → ℕ
byte4 h = 128 * bit_of h.has_idx + 64 * bit_of h.has_crc + 32 * bit_of h.has_cache + 8 * h.flags + h.size

-- all but the checksum
unfoldable pub unsigned : Head → List RawCell → List ℕ
unsigned h cs =
    be 4 generic_tag ++ (byte4 h ∷ h.off ∷ (be h.size (length cs) ++ (be h.size (length h.roots) ++ (be h.size h.absent ++ (be h.off h.total
    ++ (all_be h.size h.roots ++ (all_be h.off h.index ++ cells_text h.size cs)))))))

unfoldable pub serialized : Head → List RawCell → List ℕ
serialized h cs = unsigned h cs ++ cond h.has_crc (le 4 (crc_of (unsigned h cs))) []

-- what the bag says: references and roots are bag places
unfoldable pub bag_of : Head → List RawCell → Bag
bag_of h cs = record { used = length (serialized h cs); cells = map cell_of cs; roots = h.roots }

-- the scheme's bounds, the limits, and sound links and roots
pub record Admissible (scratch room : ℕ) (h : Head) (cs : List RawCell) : Type 0 where
  pub size : h.size ≤ 4
  pub off : h.off ≤ 8
  -- looser: the scheme has flags = 0
  pub flags : h.flags ≤ 3
  pub count : length cs < 256 ^ h.size
  -- looser: in the scheme the total is the length of the cells
  pub total : h.total < 256 ^ h.off
  pub index : length h.index ≡ cond h.has_idx (length cs) 0
  pub entries : (x : ℕ) → Mem x h.index → x < 256 ^ h.off
  -- looser: the scheme has roots >= 1
  pub counts : length h.roots + h.absent ≤ length cs
  pub cells : length cs ≤ max_cells
  pub scratch-lent : read_scratch (length cs) ≤ scratch
  pub roots-lent : length h.roots ≤ room
  pub each : (c : RawCell) → Mem c cs → RawCellOk c
  pub links : (i : ℕ) → i < length cs → (r : ℕ) → Mem r (at (map cell_of cs) i).refs → (i < r) × (r < length cs)
  pub inside : (r : ℕ) → Mem r h.roots → r < length cs

-- the bytes b are the text of some header and cells within the limits, which say g, followed by anything or, if `whole`, by nothing
pub record Says (whole : Bool) (scratch room : ℕ) (b : List ℕ) (g : Bag) : Type 0 where
  pub head : Head
  pub cells : List RawCell
  pub rest : List ℕ
  pub admissible : Admissible scratch room head cells
  pub text : b ≡ serialized head cells ++ rest
  pub nothing : whole ≡ true → rest ≡ []
  pub is : g ≡ bag_of head cells
