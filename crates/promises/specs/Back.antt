-- Demand 3 (docs/DEMANDS.md), of what is written and read back, as a statement on what `serialize` and the readers promise, and `tapunerow_write` and
-- `tapunerow_read`. It is proved in proofs/Back.
use Rattle.std.specs.Prelude.{◌≡◌, ℕ, ◌*◌, ◌≤◌, Bool, not, List, [], ◌∷◌, length, take, eqb, Ok}
use Rattle.scheme.specs.Res.{Res}
use Rattle.scheme.specs.Order.{order_of}
use Rattle.scheme.specs.Calls.{onto, zeroed}
use Rattle.writer.specs.Paper.{Serialized}
use Rattle.writer.specs.declared.BagOfCellsArgs.{BagOfCellsArgs}
use Rattle.reader.specs.Paper.{Reads}
use Rattle.reader.specs.declared.Counts.{Counts}
use Rattle.tapunerow.specs.Promises.{WireWrites, WireReads}
use Rattle.theorems.specs.Writing.{Writes}
use Rattle.theorems.specs.Histories.{Memory, cells}

-- how many cells the bag of cell `root` lists
abbrev pub listed : Memory → ℕ → ℕ
listed m root = length (order_of (cells m) root)

-- what a read of len bytes counts that finds all cells of that bag in the store
abbrev pub all_found : Memory → ℕ → ℕ → Counts
all_found m root len = record { used = len; cells = listed m root; roots = 1; added = 0 }

-- what a read leaves that finds all cells: the store m as it was, the scratch 0, `root` in the first root place
pub record Leaves (m m' : Memory) (root : ℕ) (s rs s' rs' : List ℕ) : Type 0 where
  pub store : m' ≡ m
  pub scratch : s' ≡ zeroed s
  pub roots : rs' ≡ onto (root ∷ []) rs

-- what holds of the memory m that the calls left, for each cell `root` whose bag is written without a refusal. For the write s is the scratch and o the
-- output afterwards; for the read u is the scratch and rs the root places
pub record WrittenBack (m : Memory) (root : ℕ) : Type 0 where
  -- `serialize` wrote the bag that lists each cell that root reaches, once, root first, references later
  pub bag : (args : BagOfCellsArgs) (s out : List ℕ) (len : ℕ) (s' o : List ℕ) → Serialized args m.count m.table m.bytes root s out (Ok len) s' o
      → Writes args.has_idx args.has_crc32c (cells m) root (take len o)
  -- a reader that reads it into the same store, with room, answers root as the only root and adds no cell
  pub back : (args : BagOfCellsArgs) (s out : List ℕ) (len : ℕ) (s' o : List ℕ) → Serialized args m.count m.table m.bytes root s out (Ok len) s' o
      → (whole : Bool) (u rs : List ℕ) → 2 * listed m root ≤ length u → 1 ≤ length rs
      → (a : Res Counts) (m' : Memory) (u' rs' : List ℕ)
      → Reads whole m.count m.table m.bytes u rs (take len o) a m'.count m'.table m'.bytes u' rs'
      → (a ≡ Ok (all_found m root len)) × Leaves m m' root u rs u' rs'
  -- the same of `tapunerow_write` and `tapunerow_read`
  pub wire_bag : (idx crc : ℕ) (s out : List ℕ) (len : ℕ) (s' o : List ℕ) → WireWrites idx crc m.count m.table m.bytes root s out 0 s' o (len ∷ [])
      → Writes (not (eqb idx 0)) (not (eqb crc 0)) (cells m) root (take len o)
  pub wire_back : (idx crc : ℕ) (s out : List ℕ) (len : ℕ) (s' o : List ℕ) → WireWrites idx crc m.count m.table m.bytes root s out 0 s' o (len ∷ [])
      → (whole : ℕ) (u rs : List ℕ) → 2 * listed m root ≤ length u → 1 ≤ length rs
      → (number : ℕ) (a : List ℕ) (m' : Memory) (u' rs' : List ℕ)
      → WireReads whole m.count m.table m.bytes u rs (take len o) number m'.count m'.table m'.bytes u' rs' a
      → (number ≡ 0) × (a ≡ len ∷ listed m root ∷ 1 ∷ 0 ∷ []) × Leaves m m' root u rs u' rs'
