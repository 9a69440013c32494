-- Demand 3 (docs/DEMANDS.md), over a store's memory: whatever clears, adds and reads follow one another after a clearing, refused ones among them.
-- The theorem is in proofs/Histories.
-- Assumes nothing.
use Rattle.std.proofs.Math.Path.{◌≡◌}
use Rattle.std.specs.Prelude.{◌↔◌, ℕ, ◌*◌, ◌≤◌, ◌<◌, Bool, true, take, Ok}
use mathlib.Core.List.{List, [], ◌∷◌, Memᴰ as Mem}
use Rattle.std.proofs.Math.ListN.{length}
use Rattle.scheme.specs.Cells.{Cell, at, tree}
use Rattle.scheme.specs.Memory.{cells_of, sound}
use Rattle.scheme.specs.Builder.{Builder}
use Rattle.scheme.specs.Order.{order_of}
use Rattle.scheme.specs.Calls.{StoreOut, ReadOut, onto, zeroed, clearing, adding, reading, writing}
use Rattle.laws.specs.Accept.{Small}
use Rattle.laws.specs.Add.{Typed}
use Rattle.laws.specs.Reach.{Listing}
use Rattle.theorems.specs.Writing.{Writes}

-- a store's memory
pub record Memory : Type 0 where
  pub count : ℕ
  pub table : List ℕ
  pub bytes : List ℕ

-- the cells that it holds
abbrev pub cells : Memory → List Cell
cells m = cells_of m.count m.table m.bytes

-- a call that may change a store, with all that it is given beside the store
pub data Call : Type 0 where
  clear : Call
  add-cell : Builder → Call
  -- whole or not, the scratch, the root places, the reply
  read-bag : Bool → List ℕ → List ℕ → List ℕ → Call

-- the memory after a call: what the call's outcome says
abbrev pub left : {A : Type 0} → StoreOut A → Memory
left o = record { count = o.count; table = o.table; bytes = o.bytes }

abbrev pub left_read : ReadOut → Memory
left_read o = record { count = o.count; table = o.table; bytes = o.bytes }

abbrev pub after : Memory → Call → Memory
after m clear = left (clearing m.count m.table m.bytes)
after m (add-cell b) = left (adding m.count m.table m.bytes b)
after m (read-bag whole scratch roots reply) = left_read (reading whole m.count m.table m.bytes scratch roots reply)

-- what the types of a call's arguments say: bytes are below 256, and a cell that is handed over has 128 of them
abbrev pub TypedCall : Call → Type 0
TypedCall clear = Unit {0}
TypedCall (add-cell b) = Typed b
TypedCall (read-bag whole scratch roots reply) = Small reply

-- memory that calls made, from a clearing that was accepted on; `leaves` says what a call leaves
pub data Reached (leaves : Memory → Call → Memory) : Memory → Type 0 where
  cleared : (m : Memory) → (clearing m.count m.table m.bytes).answer ≡ Ok tt → Reached leaves (leaves m clear)
  called : (m : Memory) (c : Call) → Reached leaves m → TypedCall c → Reached leaves (leaves m c)

-- what a read answers that finds root, and the k cells that it reaches, in the store already
abbrev pub found : Memory → ℕ → ℕ → ℕ → List ℕ → List ℕ → ReadOut
found m used k root scratch roots = record {
  answer = Ok (record { used = used; cells = k; roots = 1; added = 0 });
  count = m.count;
  table = m.table;
  bytes = m.bytes;
  scratch = zeroed scratch;
  roots = onto (root ∷ []) roots;
}

-- what holds of such memory
pub record Demand3 (m : Memory) : Type 0 where
  -- it is a sound store
  pub sound-store : sound m.count m.table m.bytes ≡ true
  -- every reference names a lower-numbered cell of the store
  pub lower : (i r : ℕ) → i < m.count → Mem r (at (cells m) i).refs → r < i
  -- two numbers are equal exactly when the two cells unfold to the same structure
  pub same : (i j : ℕ) → i < m.count → j < m.count → (i ≡ j) ↔ (tree (cells m) i ≡ tree (cells m) j)
  -- a held cell's bag lists each cell reached from it once, that cell first, each reference to a later place
  pub lists : (root : ℕ) → root < m.count → Listing (cells m) root (order_of (cells m) root)
  -- if the writer does not refuse, what it wrote is the bag of that listing (Writing)
  pub bag : (root : ℕ) (has_idx has_crc : Bool) (scratch out : List ℕ) (len : ℕ)
      → (writing has_idx has_crc m.count m.table m.bytes root scratch out).answer ≡ Ok len
      → Writes has_idx has_crc (cells m) root (take len (writing has_idx has_crc m.count m.table m.bytes root scratch out).out)
  -- and reading it back into the same store answers that number as the only root and adds no cell
  pub back : (root : ℕ) (has_idx has_crc : Bool) (scratch out : List ℕ) (len : ℕ)
      → (writing has_idx has_crc m.count m.table m.bytes root scratch out).answer ≡ Ok len
      → (whole : Bool) (scratch' roots : List ℕ) → 2 * length (order_of (cells m) root) ≤ length scratch' → 1 ≤ length roots
      → reading whole m.count m.table m.bytes scratch' roots (take len (writing has_idx has_crc m.count m.table m.bytes root scratch out).out)
      ≡ found m len (length (order_of (cells m) root)) root scratch' roots
