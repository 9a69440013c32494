-- Demand 2 (docs/DEMANDS.md), the meaning of a read: an accepted read only appends, and each root place names a cell of the structure that the bag's root has.
-- The theorems are in proofs/Meaning.
-- Assumes nothing.
use Rattle.std.specs.Prelude.{◌≡◌, ℕ, ◌+◌, ◌-◌, ◌≤◌, ◌<◌, List, ◌++◌, length, get_or, drop, Ok}
use Rattle.scheme.specs.Cells.{Cell, tree}
use Rattle.scheme.specs.Bag.{Bag, Got, Counts}
use Rattle.scheme.specs.Memory.{cells_of, held}
use Rattle.scheme.specs.Calls.{ReadOut}
use Rattle.theorems.specs.Places.{total, bag_fields}

-- what an accepted read of the bag a, whose bytes are b, made of the store s
pub record Means (s : List Cell) (b : List ℕ) (a : Bag) (g : Got) : Type 0 where
  -- the store only grows: the cells before keep their numbers, and so their structures
  pub new : List Cell
  pub appends : g.store ≡ s ++ new
  pub keeps : (i : ℕ) → i < length s → tree g.store i ≡ tree s i
  -- there is a name for each root, in root order, of a cell of the store that unfolds to what the root unfolds to in the bag
  pub names : length g.names ≡ length a.roots
  pub held : (i : ℕ) → i < length a.roots → get_or g.names i 0 < length g.store
  pub root : (i : ℕ) → i < length a.roots → tree g.store (get_or g.names i 0) ≡ tree a.cells (get_or a.roots i 0)
  -- every bag cell is stored, also one that no root reaches, and nothing else is
  pub cell : (i : ℕ) → i < length a.cells → (n : ℕ) × (n < length g.store) × (tree g.store n ≡ tree a.cells i)
  pub only : (n : ℕ) → length s ≤ n → n < length g.store → (i : ℕ) × (i < length a.cells) × (tree g.store n ≡ tree a.cells i)
  -- used is the place behind the last field, added the difference of the counts
  pub used : g.counts.used ≡ total (bag_fields b)
  pub cells : g.counts.cells ≡ length a.cells
  pub roots : g.counts.roots ≡ length a.roots
  pub added : g.counts.added ≡ length g.store - length s

-- what an accepted call made of lent memory: a store of count n, table t and bytes d, and root places
pub record CallMeans (n : ℕ) (t d roots b : List ℕ) (a : Bag) (c : Counts) (out : ReadOut) : Type 0 where
  -- the memory was a sound store's; afterwards it is one that holds the cells before, and new ones behind them
  pub new : List Cell
  pub before : held n t d ≡ Ok (cells_of n t d)
  pub after : held out.count out.table out.bytes ≡ Ok (cells_of n t d ++ new)
  pub keeps : (i : ℕ) → i < n → tree (cells_of n t d ++ new) i ≡ tree (cells_of n t d) i
  -- root place i names a cell that unfolds to what root i unfolds to in the bag; the root places behind are as they were
  pub names : (i : ℕ) → i < c.roots → get_or out.roots i 0 < out.count
  pub root : (i : ℕ) → i < c.roots → tree (cells_of n t d ++ new) (get_or out.roots i 0) ≡ tree a.cells (get_or a.roots i 0)
  pub behind : drop c.roots out.roots ≡ drop c.roots roots
  -- every bag cell is stored, also one that no root reaches, and nothing else is
  pub cell : (i : ℕ) → i < c.cells → (k : ℕ) × (k < out.count) × (tree (cells_of n t d ++ new) k ≡ tree a.cells i)
  pub only : (k : ℕ) → n ≤ k → k < out.count → (i : ℕ) × (i < c.cells) × (tree (cells_of n t d ++ new) k ≡ tree a.cells i)
  -- used is the place behind the last field, added the difference of the counts
  pub used : c.used ≡ total (bag_fields b)
  pub bag-cells : c.cells ≡ length a.cells
  pub bag-roots : c.roots ≡ length a.roots
  pub added : out.count ≡ n + c.added
