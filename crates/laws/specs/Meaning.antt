-- What reading a bag's cells into a store means, also for a store that holds a cell twice. That it grows, and each bag cell gets a number of its
-- structure, is in proofs/Meaning.
-- Assumes nothing.
use Rattle.std.specs.Prelude.{◌≡◌, refl, ◌⊎◌, ℕ, zero, suc, ◌+◌, ◌-◌, ◌≤◌, ◌<◌, length, get_or}
use Rattle.std.proofs.Common.{sym, ◌∙◌, inl, inr, not-suc-le-zero, le_of_suc-le-suc, arith, length-append}
use mathlib.Core.List.Memᴰ.{head as here}
use mathlib.Core.List.Memᴰ.{tail as there}
use mathlib.Core.List.{List, [], ◌∷◌, ◌++◌, map, append_assoc, append-nil, Memᴰ as Mem}
use Rattle.scheme.specs.Cells.{Cell, Tree, at, forest, unfolded, find, insert, with}
use Rattle.laws.specs.Lists.{mem-map}
use Rattle.laws.specs.Unique.{Below, Low, find_cases, at-find, insert-old, insert-new, at_new, at_old}
use Rattle.scheme.specs.Bag.{link, Loaded}

-- t is s with cells behind it
pub record Extends (s t : List Cell) : Type 0 where
  pub more-cells : List Cell
  pub is : t ≡ s ++ more-cells

pub extends-refl : (s : List Cell) → Extends s s
extends-refl s = record { more-cells = []; is = sym (append-nil s) }

pub extends-insert : (s t : List Cell) (c : Cell) → Extends s t → Extends s (insert t c)
extends-insert s t c E = go (find_cases t c)
  where
    go : (find t c < length t) ⊎ (find t c ≡ length t) → Extends s (insert t c)
    go (inl h) = rw (insert-old t c h) E
    go (inr e) = record { more-cells = E.more-cells ++ c ∷ []; is = insert-new t c e ∙ rw E.is (append_assoc s E.more-cells (c ∷ [])) }

-- an added cell has its number, and the others keep theirs
pub insert-at : (s : List Cell) (c : Cell) → at (insert s c) (find s c) ≡ c
insert-at s c = go (find_cases s c)
  where
    go : (find s c < length s) ⊎ (find s c ≡ length s) → at (insert s c) (find s c) ≡ c
    go (inl h) = rw (insert-old s c h) (at-find s c h)
    go (inr e) = rw (insert-new s c e, e) (at_new s c)

pub insert-held : (s : List Cell) (c : Cell) → find s c < length (insert s c)
insert-held s c = go (find_cases s c)
  where
    go : (find s c < length s) ⊎ (find s c ≡ length s) → find s c < length (insert s c)
    go (inl h) = rw (insert-old s c h) h
    go (inr e) = rw (insert-new s c e) (omega (arith, length-append s (c ∷ [])))

pub insert-keep : (s : List Cell) (c : Cell) (i : ℕ) → i < length s → at (insert s c) i ≡ at s i
insert-keep s c i h = go (find_cases s c)
  where
    go : (find s c < length s) ⊎ (find s c ≡ length s) → at (insert s c) i ≡ at s i
    go (inl g) = rw (insert-old s c g)
    go (inr e) = rw (insert-new s c e) (at_old s c i h)

pub insert-longer : (s : List Cell) (c : Cell) → length s ≤ length (insert s c)
insert-longer s c = go (find_cases s c)
  where
    go : (find s c < length s) ⊎ (find s c ≡ length s) → length s ≤ length (insert s c)
    go (inl g) = rw (insert-old s c g) (omega arith)
    go (inr e) = rw (insert-new s c e) (omega (arith, length-append s (c ∷ [])))

-- the references of the bag cells from place i on go to later places of the bag
abbrev pub Linked : ℕ → List Cell → Type 0
Linked i [] = Unit {0}
Linked i (b ∷ bs) = ((r : ℕ) → Mem r b.refs → (i < r) × (r < suc i + length bs)) × Linked (suc i) bs

-- cell b with its references taken to numbers, those of the cells from place i on
abbrev pub renamed : ℕ → List ℕ → Cell → Cell
renamed i nums b = with b (map (λ (r : ℕ). get_or nums (r - i) 0) b.refs)

pub record Placed (s : List Cell) (i : ℕ) (bag : List Cell) (l : Loaded) : Type 0 where
  pub low : Low l.store
  pub extends : Extends s l.store
  pub many : length l.nums ≡ length bag
  pub held : (k : ℕ) → k < length bag → get_or l.nums k 0 < length l.store
  pub cells : (k : ℕ) → k < length bag → at l.store (get_or l.nums k 0) ≡ renamed i l.nums (at bag k)
  pub only : (n : ℕ) → length s ≤ n → n < length l.store → (k : ℕ) × (k < length bag) × (n ≡ get_or l.nums k 0)

pub linked-at : (i : ℕ) (bag : List Cell) → Linked i bag → (k : ℕ) → k < length bag → (r : ℕ) → Mem r (at bag k).refs → (i + k < r) × (r < i + length bag)
linked-at i [] L k h r m = absurd (not-suc-le-zero h)
linked-at i (b ∷ bs) L zero h r m = let g = L.0 r m in omega arith
linked-at i (b ∷ bs) L (suc k) h r m = let g = linked-at (suc i) bs L.1 k (le_of_suc-le-suc h) r m in omega arith

-- a bag cell's references name cells of the store that the cells behind it are in
pub link-below : (i : ℕ) (b : Cell) (bs : List Cell) → ((r : ℕ) → Mem r b.refs → (i < r) × (r < suc i + length bs)) → (l : Loaded)
    → ((k : ℕ) → k < length bs → get_or l.nums k 0 < length l.store) → Below (length l.store) (link i b l.nums).refs
link-below i b bs L l held x m =
    let t = mem-map (λ (r : ℕ). get_or l.nums (r - suc i) 0) b.refs x m in
    let g = L t.0 t.1 in
    rw t.2 (held (t.0 - suc i) (omega arith))

pub forest-map : (f g : ℕ → Tree) (n : ℕ → ℕ) (l : List ℕ) → ((r : ℕ) → Mem r l → f (n r) ≡ g r) → forest f (map n l) ≡ forest g l
forest-map f g n [] h = refl
forest-map f g n (x ∷ xs) h = let p = h x (here refl) in let q = forest-map f g n xs (λ y m. h y (there m)) in cc

pub forest-on : (f g : ℕ → Tree) (l : List ℕ) → ((r : ℕ) → Mem r l → f r ≡ g r) → forest f l ≡ forest g l
forest-on f g [] h = refl
forest-on f g (x ∷ xs) h = let p = h x (here refl) in let q = forest-on f g xs (λ y m. h y (there m)) in cc

-- levels past a cell's number, or past the cells behind it in a bag, add nothing
pub low-levels : (s : List Cell) → Low s → (m n i : ℕ) → i < m → i < n → i < length s → unfolded m s i ≡ unfolded n s i
low-levels s S zero n i hm hn h = absurd (not-suc-le-zero hm)
low-levels s S (suc m) zero i hm hn h = absurd (not-suc-le-zero hn)
low-levels s S (suc m) (suc n) i hm hn h =
    let kids = forest-on (λ (r : ℕ). unfolded m s r) (λ (r : ℕ). unfolded n s r) (at s i).refs (λ r k. let g = S i h r k in low-levels s S m n r (omega arith) (omega arith) (omega arith)) in
    rw kids

pub linked-levels : (bag : List Cell) → Linked 0 bag → (m n i : ℕ) → length bag ≤ i + m → length bag ≤ i + n → i < length bag → unfolded m bag i ≡ unfolded n bag i
linked-levels bag L zero n i hm hn h = absurd (omega arith)
linked-levels bag L (suc m) zero i hm hn h = absurd (omega arith)
linked-levels bag L (suc m) (suc n) i hm hn h =
    let kids = forest-on (λ (r : ℕ). unfolded m bag r) (λ (r : ℕ). unfolded n bag r) (at bag i).refs
    (λ r k. let g = linked-at 0 bag L i h r k in linked-levels bag L m n r (omega arith) (omega arith) (omega arith)) in
    rw kids
