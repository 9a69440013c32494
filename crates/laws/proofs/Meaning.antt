-- What reading a bag into a store means: the theorems over specs/Meaning.
-- Assumes nothing.
use Rattle.std.specs.Prelude.{◌≡◌, refl, ◌⊎◌, ℕ, zero, suc, ◌+◌, ◌-◌, ◌≤◌, ◌<◌, length, get_or}
use Rattle.std.proofs.Common.{sym, ◌∙◌, inl, inr, not-suc-le-zero, le_of_suc-le-suc, arith, length-append}
use mathlib.Core.List.{List, [], ◌∷◌, ◌++◌, Memᴰ as Mem}
use Rattle.std.proofs.Math.ListN.{get_or-append}
use Rattle.scheme.specs.Cells.{Cell, blank, at, unfolded, tree, find, insert}
use Rattle.laws.specs.CellLaws.{cell_path}
use Rattle.laws.specs.Lists.{map_on}
use Rattle.laws.specs.Unique.{Below, Low, Sound, find_cases, insert-old, insert-new, place-cases, at_new, at_old}
use Rattle.laws.proofs.Unique.{sound-insert}
use Rattle.scheme.specs.Bag.{link, put, load, Loaded}
use Rattle.laws.specs.Meaning.{extends-refl, extends-insert, insert-at, insert-held, insert-keep, insert-longer, Linked, renamed, Placed, linked-at, link-below, forest-map, forest-on, low-levels, linked-levels}

shift : (i x : ℕ) (nums : List ℕ) (r : ℕ) → i < r → get_or nums (r - suc i) 0 ≡ get_or (x ∷ nums) (r - i) 0
shift i x nums r h = let e : r - i ≡ suc (r - suc i) = omega arith in rw e

renamed-shift : (i x : ℕ) (nums : List ℕ) (b : Cell) → ((r : ℕ) → Mem r b.refs → i < r) → renamed (suc i) nums b ≡ renamed i (x ∷ nums) b
renamed-shift i x nums b h = cell_path (renamed (suc i) nums b) (renamed i (x ∷ nums) b) refl refl refl (map_on _ _ b.refs (λ r m. shift i x nums r (h r m)))

low-insert : (s : List Cell) (c : Cell) → Low s → Below (length s) c.refs → Low (insert s c)
low-insert s c S B = go (find_cases s c)
  where
    last : (i : ℕ) → (i < length s) ⊎ (i ≡ length s) → Below i (at (s ++ c ∷ []) i).refs
    last i (inl h) = rw (at_old s c i h) (S i h)
    last i (inr e) = rw (e, at_new s c) B

    go : (find s c < length s) ⊎ (find s c ≡ length s) → Low (insert s c)
    go (inl h) = rw (insert-old s c h) S
    go (inr e) = rw (insert-new s c e) (λ i h. last i (place-cases s c i h))

pub placed : (s : List Cell) → Low s → (i : ℕ) (bag : List Cell) → Linked i bag → Placed s i bag (load s i bag)
placed s S i [] L = record { low = S; extends = extends-refl s; many = refl; held = λ k h. absurd (not-suc-le-zero h); cells = λ k h. absurd (not-suc-le-zero h); only = λ n h g. absurd (omega arith) }
placed s S i (b ∷ bs) L = step (load s (suc i) bs) (placed s S (suc i) bs L.1)
  where
    step : (l : Loaded) → Placed s (suc i) bs l → Placed s i (b ∷ bs) (put i b l)
    step l W = record { low = low-insert l.store c W.low (link-below i b bs L.0 l W.held); extends = extends-insert s l.store c W.extends; many = rw W.many; held = held; cells = cells; only = λ n h g. only n h g (find_cases l.store c) }
      where
        c : Cell
        c = link i b l.nums

        held : (k : ℕ) → k < suc (length bs) → get_or (find l.store c ∷ l.nums) k 0 < length (insert l.store c)
        held zero h = insert-held l.store c
        held (suc k) h = omega (arith, W.held k (le_of_suc-le-suc h), insert-longer l.store c)

        only : (n : ℕ) → length s ≤ n → n < length (insert l.store c) → (find l.store c < length l.store) ⊎ (find l.store c ≡ length l.store)
            → (k : ℕ) × (k < suc (length bs)) × (n ≡ get_or (find l.store c ∷ l.nums) k 0)
        only n h g (inl f) = let r = W.only n h (rw (insert-old l.store c f) at g) in let j = r.1 in (suc r.0, omega arith, r.2)
        only n h g (inr f) = last (place-cases l.store c n (rw (insert-new l.store c f) at g))
          where
            last : (n < length l.store) ⊎ (n ≡ length l.store) → (k : ℕ) × (k < suc (length bs)) × (n ≡ get_or (find l.store c ∷ l.nums) k 0)
            last (inl j) = let r = W.only n h j in let m = r.1 in (suc r.0, omega arith, r.2)
            last (inr j) = (0, omega arith, j ∙ sym f)

        cells : (k : ℕ) → k < suc (length bs) → at (insert l.store c) (get_or (find l.store c ∷ l.nums) k 0) ≡ renamed i (find l.store c ∷ l.nums) (at (b ∷ bs) k)
        cells zero h = insert-at l.store c ∙ renamed-shift i (find l.store c) l.nums b (λ r m. (L.0 r m).0)
        cells (suc k) h =
            let g = le_of_suc-le-suc h in
            let later : (r : ℕ) → Mem r (at bs k).refs → i < r = λ r m. let j = linked-at (suc i) bs L.1 k g r m in omega arith in
            insert-keep l.store c (get_or l.nums k 0) (W.held k g) ∙ W.cells k g ∙ renamed-shift i (find l.store c) l.nums (at bs k) later

-- the number given to the bag cell at place k names a cell of its structure, to any number of levels
same-levels : (s : List Cell) (bag : List Cell) (l : Loaded) → Linked 0 bag → Placed s 0 bag l → (m k : ℕ) → k < length bag → unfolded m l.store (get_or l.nums k 0) ≡ unfolded m bag k
same-levels s bag l L W zero k h = refl
same-levels s bag l L W (suc m) k h =
    let below : (r : ℕ) → Mem r (at bag k).refs → unfolded m l.store (get_or l.nums (r - 0) 0) ≡ unfolded m bag r =
    λ r n. let g = linked-at 0 bag L k h r n in let e : r - 0 ≡ r = omega arith in rw e (same-levels s bag l L W m r (omega arith)) in
    let kids = forest-map (λ (r : ℕ). unfolded m l.store r) (λ (r : ℕ). unfolded m bag r) (λ (r : ℕ). get_or l.nums (r - 0) 0) (at bag k).refs below in
    rw (W.cells k h, kids)

pub same-tree : (s : List Cell) (bag : List Cell) (l : Loaded) → Linked 0 bag → Placed s 0 bag l → (k : ℕ) → k < length bag → tree l.store (get_or l.nums k 0) ≡ tree bag k
same-tree s bag l L W k h =
    let n = get_or l.nums k 0 in
    let g = W.held k h in
    let m = length l.store + length bag in
    low-levels l.store W.low (length l.store) m n g (omega arith) g
    ∙ same-levels s bag l L W m k h
    ∙ linked-levels bag L m (length bag) k (omega arith) (omega arith) h

-- cells appended change no structure
pub tree-append : (s new : List Cell) → Low s → (i : ℕ) → i < length s → tree (s ++ new) i ≡ tree s i
tree-append s new S i h =
    levels (length (s ++ new)) i h ∙ low-levels s S (length (s ++ new)) (length s) i (omega (arith, length-append s new)) h h
  where
    levels : (m i : ℕ) → i < length s → unfolded m (s ++ new) i ≡ unfolded m s i
    levels zero i h = refl
    levels (suc m) i h =
        let e : at (s ++ new) i ≡ at s i = get_or-append s new blank i h in
        let kids = forest-on (λ (r : ℕ). unfolded m (s ++ new) r) (λ (r : ℕ). unfolded m s r) (at s i).refs (λ r k. let g = S i h r k in levels m r (omega arith)) in
        rw (e, kids)

-- what is loaded into a sound store is one
pub sound-load : (s : List Cell) → Sound s → (i : ℕ) (bag : List Cell) → Linked i bag → Sound (load s i bag).store
sound-load s S i [] L = S
sound-load s S i (b ∷ bs) L =
    let l = load s (suc i) bs in
    sound-insert l.store (link i b l.nums) (sound-load s S (suc i) bs L.1) (link-below i b bs L.0 l (placed s S.low (suc i) bs L.1).held)
