-- Stores that are built by adding cells, and the structures of their cells. That equal structures have equal numbers is in proofs/Unique.
-- Assumes nothing.
use Rattle.std.specs.Prelude.{◌≡◌, refl, ◌⊎◌, ℕ, zero, suc, ◌≤◌, ◌<◌, Bool, true, false, cond, length, ltb}
use Rattle.std.proofs.Common.{sym, ◌∙◌, subst, inl, inr, le_of_suc-le-suc, not-suc-le-zero, arith, length-append, ltb-true, ltb-false}
use mathlib.Core.List.Memᴰ.{head as here}
use mathlib.Core.List.Memᴰ.{tail as there}
use mathlib.Core.List.{List, [], ◌∷◌, ◌++◌, Memᴰ as Mem}
use Rattle.std.proofs.Math.ListN.{get_or-append}
use Rattle.std.proofs.Math.Seq.{get_or-append_seam}
use Rattle.laws.specs.Tests.{bool_cases, true-false}
use Rattle.scheme.specs.Cells.{Cell, Tree, blank, at, forest, unfolded, same, find, insert}
use Rattle.laws.specs.CellLaws.{cell_path, same_true, same_refl}

pub find-le : (s : List Cell) (c : Cell) → find s c ≤ length s
find-le [] c = omega arith
find-le (x ∷ xs) c = go (same x c) (find-le xs c)
  where
    go : (b : Bool) → find xs c ≤ length xs → cond b 0 (suc (find xs c)) ≤ suc (length xs)
    go true h = omega arith
    go false h = omega arith

pub at-find : (s : List Cell) (c : Cell) → find s c < length s → at s (find s c) ≡ c
at-find [] c h = absurd (not-suc-le-zero h)
at-find (x ∷ xs) c h = go (same x c) refl h (at-find xs c)
  where
    go : (b : Bool) → same x c ≡ b → cond b 0 (suc (find xs c)) < suc (length xs) → (find xs c < length xs → at xs (find xs c) ≡ c) → at (x ∷ xs) (cond b 0 (suc (find xs c))) ≡ c
    go true e h ih = same_true x c e
    go false e h ih = ih (le_of_suc-le-suc h)

-- the number is the lowest: no cell before it is c
pub find_lowest : (s : List Cell) (c : Cell) (i : ℕ) → i < find s c → at s i ≡ c → ⊥
find_lowest [] c i h e = not-suc-le-zero h
find_lowest (x ∷ xs) c i h e = go (same x c) refl i h e (find_lowest xs c)
  where
    go : (b : Bool) → same x c ≡ b → (i : ℕ) → i < cond b 0 (suc (find xs c)) → at (x ∷ xs) i ≡ c → ((i : ℕ) → i < find xs c → at xs i ≡ c → ⊥) → ⊥
    go true q i h e ih = not-suc-le-zero h
    go false q zero h e ih = true-false (same x c) (subst (λ (y : Cell). same x y ≡ true) e (same_refl x)) q
    go false q (suc i) h e ih = ih i (le_of_suc-le-suc h) e

pub insert-old : (s : List Cell) (c : Cell) → find s c < length s → insert s c ≡ s
insert-old [] c h = absurd (not-suc-le-zero h)
insert-old (x ∷ xs) c h = go (same x c) h (insert-old xs c)
  where
    go : (b : Bool) → cond b 0 (suc (find xs c)) < suc (length xs) → (find xs c < length xs → insert xs c ≡ xs) → cond b (x ∷ xs) (x ∷ insert xs c) ≡ x ∷ xs
    go true h ih = refl
    go false h ih = rw (ih (le_of_suc-le-suc h))

pub insert-new : (s : List Cell) (c : Cell) → find s c ≡ length s → insert s c ≡ s ++ c ∷ []
insert-new [] c h = refl
insert-new (x ∷ xs) c h = go (same x c) h (insert-new xs c)
  where
    go : (b : Bool) → cond b 0 (suc (find xs c)) ≡ suc (length xs) → (find xs c ≡ length xs → insert xs c ≡ xs ++ c ∷ []) → cond b (x ∷ xs) (x ∷ insert xs c) ≡ x ∷ (xs ++ c ∷ [])
    go true h ih = absurd (omega arith)
    go false h ih = rw (ih (omega arith))

pub find_cases : (s : List Cell) (c : Cell) → (find s c < length s) ⊎ (find s c ≡ length s)
find_cases s c = go (bool_cases (ltb (find s c) (length s)))
  where
    go : (ltb (find s c) (length s) ≡ true) ⊎ (ltb (find s c) (length s) ≡ false) → (find s c < length s) ⊎ (find s c ≡ length s)
    go (inl e) = inl (ltb-true (find s c) (length s) e)
    go (inr e) = let h = ltb-false (find s c) (length s) e in inr (omega (arith, find-le s c))

abbrev pub Below : ℕ → List ℕ → Type 0
Below n l = (x : ℕ) → Mem x l → x < n

-- references go to lower numbers
abbrev pub Low : List Cell → Type 0
Low s = (i : ℕ) → i < length s → Below i (at s i).refs

-- and no two places hold the same cell
pub record Sound (s : List Cell) : Type 0 where
  pub low : Low s
  pub distinct : (i j : ℕ) → i < length s → j < length s → at s i ≡ at s j → i ≡ j

pub sound-nil : Sound []
sound-nil = record { low = λ i h. absurd (not-suc-le-zero h); distinct = λ i j h g e. absurd (not-suc-le-zero h) }

pub at_old : (s : List Cell) (c : Cell) (i : ℕ) → i < length s → at (s ++ c ∷ []) i ≡ at s i
at_old s c i h = get_or-append s (c ∷ []) blank i h

pub at_new : (s : List Cell) (c : Cell) → at (s ++ c ∷ []) (length s) ≡ c
at_new s c = get_or-append_seam s c [] blank

pub place-cases : (s : List Cell) (c : Cell) (i : ℕ) → i < length (s ++ c ∷ []) → (i < length s) ⊎ (i ≡ length s)
place-cases s c i h = go (bool_cases (ltb i (length s)))
  where
    go : (ltb i (length s) ≡ true) ⊎ (ltb i (length s) ≡ false) → (i < length s) ⊎ (i ≡ length s)
    go (inl e) = inl (ltb-true i (length s) e)
    go (inr e) = let g = ltb-false i (length s) e in inr (omega (arith, length-append s (c ∷ [])))

pub sound-append : (s : List Cell) (c : Cell) → Sound s → find s c ≡ length s → Below (length s) c.refs → Sound (s ++ c ∷ [])
sound-append s c S f B = record { low = λ i h. low i (place-cases s c i h); distinct = λ i j h g e. distinct i j (place-cases s c i h) (place-cases s c j g) e }
  where
    low : (i : ℕ) → (i < length s) ⊎ (i ≡ length s) → Below i (at (s ++ c ∷ []) i).refs
    low i (inl h) = rw (at_old s c i h) (S.low i h)
    low i (inr e) = rw (e, at_new s c) B

    fresh : (i : ℕ) → i < length s → at s i ≡ c → ⊥
    fresh i h e = find_lowest s c i (rw f h) e

    distinct : (i j : ℕ) → (i < length s) ⊎ (i ≡ length s) → (j < length s) ⊎ (j ≡ length s) → at (s ++ c ∷ []) i ≡ at (s ++ c ∷ []) j → i ≡ j
    distinct i j (inl h) (inl g) e = S.distinct i j h g (sym (at_old s c i h) ∙ e ∙ at_old s c j g)
    distinct i j (inl h) (inr q) e = absurd (fresh i h (sym (at_old s c i h) ∙ e ∙ rw q (at_new s c)))
    distinct i j (inr p) (inl g) e = absurd (fresh j g (sym (at_old s c j g) ∙ sym e ∙ rw p (at_new s c)))
    distinct i j (inr p) (inr q) e = p ∙ sym q

forest_inj : (f : ℕ → Tree) (l m : List ℕ) → ((x y : ℕ) → Mem x l → Mem y m → f x ≡ f y → x ≡ y) → forest f l ≡ forest f m → l ≡ m
forest_inj f [] [] inj e = refl
forest_inj f [] (y ∷ ys) inj e = cc
forest_inj f (x ∷ xs) [] inj e = cc
forest_inj f (x ∷ xs) (y ∷ ys) inj e =
    let p : f x ≡ f y = cc in
    let q : forest f xs ≡ forest f ys = cc in
    let a = inj x y (here refl) (here refl) p in
    let b = forest_inj f xs ys (λ u v h g. inj u v (there h) (there g)) q in
    cc

pub unfolded_inj : (s : List Cell) → Sound s → (k i j : ℕ) → i < k → j < k → i < length s → j < length s → unfolded k s i ≡ unfolded k s j → i ≡ j
unfolded_inj s S zero i j hi hj gi gj e = absurd (not-suc-le-zero hi)
unfolded_inj s S (suc k) i j hi hj gi gj e =
    let kids : forest (λ (r : ℕ). unfolded k s r) (at s i).refs ≡ forest (λ (r : ℕ). unfolded k s r) (at s j).refs = cc in
    let inj : (x y : ℕ) → Mem x (at s i).refs → Mem y (at s j).refs → unfolded k s x ≡ unfolded k s y → x ≡ y = λ x y m n q.
    unfolded_inj s S k x y (omega (arith, S.low i gi x m)) (omega (arith, S.low j gj y n)) (omega (arith, S.low i gi x m)) (omega (arith, S.low j gj y n)) q in
    let p = forest_inj (λ (r : ℕ). unfolded k s r) (at s i).refs (at s j).refs inj kids in
    S.distinct i j gi gj (cell_path (at s i) (at s j) (cc) (cc) (cc) p)
