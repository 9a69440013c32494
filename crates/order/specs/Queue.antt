-- What the functions that make the order do to the scratch. Assumes nothing: these are definitions.
-- The scratch of a store of n cells: from 0 the number of parents that a cell waits for, from n the cells listed and behind them those that wait in the
-- queue, from 2 * n the place of each listed cell.
use Rattle.std.specs.Prelude.{ℕ, zero, suc, ◌+◌, ◌-◌, ◌*◌, ◌≤◌, ◌<◌, ◌≡◌, Bool, cond, length, take, get_or, set, eqb, ltb}
use mathlib.Core.List.{List, [], ◌∷◌, Memᴰ as Mem}
use Rattle.std.proofs.Math.Seq.{slice}
use Rattle.scheme.specs.Memory.{cells_of}
use Rattle.scheme.specs.Order.{order_of}
use Rattle.scheme.specs.Write.{place_of}
use Rattle.laws.specs.Counts.{settle, run_counts, end_counts}
use Rattle.laws.specs.Records.{refs_at}

-- the references of cell i of the first n
unfoldable pub kids_at : List ℕ → ℕ → ℕ → List ℕ
kids_at t n i = cond (ltb i n) (refs_at t i) []

-- the first j references of record i, the last one first
unfoldable pub seen_at : List ℕ → ℕ → ℕ → List ℕ
seen_at t i zero = []
seen_at t i (suc j) = get_or t (i * 7 + (3 + j)) 0 ∷ seen_at t i j

-- no number is above k
abbrev pub Small : ℕ → List ℕ → Type 0
Small k s = (d : ℕ) → get_or s d 0 ≤ k

-- one parent less for cell c
abbrev pub less : List ℕ → ℕ → List ℕ
less s c = set s c (get_or s c 0 - 1)

-- c waits for no other parent
abbrev pub last : List ℕ → ℕ → Bool
last s c = eqb (get_or s c 0 - 1) 0

-- the scratch and the queue's end after cell c has one parent less
unfoldable pub wait_mem : List ℕ → ℕ → ℕ → List ℕ
wait_mem s c end = cond (last s c) (set (less s c) end c) (less s c)

unfoldable pub wait_end : List ℕ → ℕ → ℕ → ℕ
wait_end s c end = cond (last s c) (end + 1) end

-- cell i's references are settled: those from `tail` to `end` joined the queue, and what stands between n and `tail` and behind `end` is kept
pub record Joined (t : List ℕ) (i n tail : ℕ) (s s' : List ℕ) (end : ℕ) : Type 0 where
  pub from : tail ≤ end
  pub within : end ≤ length s
  pub settled : settle [] (take n s) [] (refs_at t i) ≡ record { counts = take n s'; queue = slice tail end s' }
  pub kept : (d : ℕ) → n ≤ d → d < tail → get_or s' d 0 ≡ get_or s d 0
  pub behind : (d : ℕ) → end ≤ d → get_or s' d 0 ≡ get_or s d 0

-- at each step of the queue's process the front cell is below n, and there is room for n cells listed or queued
unfoldable pub Roomy : (ℕ → List ℕ) → ℕ → ℕ → List ℕ → List ℕ → ℕ → Type 0
Roomy kids n zero counts q l = length q + l ≤ n
Roomy kids n (suc k) counts [] l = l ≤ n
Roomy kids n (suc k) counts (x ∷ q) l = (x < n) × (suc (length q) + l ≤ n) × Roomy kids n k (settle [] counts q (kids x)).counts (settle [] counts q (kids x)).queue (suc l)

-- m cells are listed, by the process from the root, and what stands behind them is kept
pub record Listed (t : List ℕ) (n root : ℕ) (s s' : List ℕ) (m : ℕ) : Type 0 where
  pub within : m ≤ n
  pub listed : slice n (n + m) s' ≡ run_counts (kids_at t n) n (take n s) (root ∷ [])
  pub counts : take n s' ≡ end_counts (kids_at t n) n (take n s) (root ∷ [])
  pub behind : (d : ℕ) → n + m ≤ d → get_or s' d 0 ≡ get_or s d 0

-- entry d is the place of none of the cells listed
abbrev pub NoPlace : ℕ → List ℕ → ℕ → Type 0
NoPlace n listing d = (x : ℕ) → Mem x listing → d ≡ 2 * n + x → ⊥

-- the places of the m cells listed are written from 2 * n on, and nothing else is changed
pub record Placed (n m : ℕ) (s s' : List ℕ) : Type 0 where
  pub kept : (d : ℕ) → NoPlace n (slice n (n + m) s) d → get_or s' d 0 ≡ get_or s d 0
  pub places : (x : ℕ) → Mem x (slice n (n + m) s) → get_or s' (2 * n + x) 0 ≡ place_of x (slice n (n + m) s)

-- the m cells that the root reaches are listed: each is below n, and the place of each, and so of each of its references, is written; every other entry is 0
pub record Ordered (t : List ℕ) (n root : ℕ) (s : List ℕ) (m : ℕ) : Type 0 where
  pub within : m ≤ n
  pub listed : (d : List ℕ) → slice n (n + m) s ≡ order_of (cells_of n t d) root
  pub below : (x : ℕ) → Mem x (slice n (n + m) s) → x < n
  pub place : (x : ℕ) → Mem x (slice n (n + m) s) → get_or s (2 * n + x) 0 ≡ place_of x (slice n (n + m) s)
  pub places : (x r : ℕ) → Mem x (slice n (n + m) s) → Mem r (refs_at t x) → get_or s (2 * n + r) 0 ≡ place_of r (slice n (n + m) s)
  pub before : (d : ℕ) → d < n → get_or s d 0 ≡ 0
  pub behind : (d : ℕ) → n + m ≤ d → d < length s → NoPlace n (slice n (n + m) s) d → get_or s d 0 ≡ 0
