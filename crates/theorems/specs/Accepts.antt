-- Demand 2 (docs/DEMANDS.md), the grammar, of a store: what a read of a bag answers, and when it fits. The theorems are in proofs/Accepts.
-- Assumes nothing.
use Rattle.std.specs.Prelude.{ℕ, ◌-◌, ◌≤◌, Bool, List, map, length, get_or}
use Rattle.scheme.specs.Cells.{Cell}
use Rattle.scheme.specs.Bag.{Bag, Got, load}
use Rattle.theorems.specs.Grammar.{Says}

-- what a read of the bag a into the store s answers and leaves
abbrev pub got_of : List Cell → Bag → Got
got_of s a =
    let l = load s 0 a.cells in
    record {
      counts = record { used = a.used; cells = length a.cells; roots = length a.roots; added = length l.store - length s };
      names = map (λ (r : ℕ). get_or l.nums r 0) a.roots;
      store = l.store;
    }

-- what a read of the bag a into the store s of cap records is accepted for: the bytes say a, and its new cells have room
pub record Fits (whole : Bool) (scratch room cap : ℕ) (s : List Cell) (b : List ℕ) : Type 0 where
  pub bag-read : Bag
  pub says : Says whole scratch room b bag-read
  pub free : length (load s 0 bag-read.cells).store ≤ cap
