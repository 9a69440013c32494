-- Laws of the values by number: a value for each cell, from the cell and the values of its references. Assumes nothing.
use Rattle.std.specs.Prelude.{◌≡◌, List, [], ◌∷◌, ◌++◌, map, length}
use Rattle.std.proofs.Math.Path.{refl, ap}
use Rattle.std.proofs.Common.{ap₂, ◌∙◌, ⊎_elim, not-suc-le-zero, le_of_suc-le-suc, eq-or-lt_of_le, add-one, arith}
use Prim.Native.Nat.{ℕ, zero, suc, ◌+◌, ◌*◌, ◌<◌, ◌≤◌}
use Rattle.std.proofs.Math.ListN.{get_or, length-append, get_or-append}
use Rattle.std.proofs.lemmas.List.{length-map, get_or_at}
use Rattle.scheme.specs.Cells.{Cell, at}
use Rattle.scheme.specs.Memory.{cell_at, cells_of}
use Rattle.scheme.specs.Fold.{pick, below, value}
use Rattle.laws.specs.Records.{refs_at, RecordOk, refs-length, refs-get, cells_at_lem}

-- every number of the list is below n
unfoldable pub Under : ℕ → List ℕ → Type 0
Under n [] = Unit {0}
Under n (r ∷ rs) = (r < n) × Under n rs

under-by : (n : ℕ) (rs : List ℕ) → ((j : ℕ) → j < length rs → get_or rs j 0 < n) → Under n rs
unfolding Under
under-by n [] h = tt
under-by n (r ∷ rs) h = (h 0 (omega arith), under-by n rs (λ j lt. h (suc j) (omega arith)))

-- a record's references are below it
pub refs-under : (t : List ℕ) (i : ℕ) → RecordOk t i → Under i (refs_at t i)
refs-under t i ok =
    under-by i (refs_at t i) (λ j lt.
    let h : j < get_or t (i * 7 + 2) 0 = rw (refs-length t i ok) at lt in
    rw (refs-get t i j h) (ok.back j h))

-- values picked from the front of a list
pub pick-front : {A : Type 0} (z : A) (a b : List A) (n : ℕ) (rs : List ℕ) → length a ≡ n → Under n rs → pick z (a ++ b) rs ≡ pick z a rs
unfolding Under
pick-front z a b n [] e u = refl
pick-front z a b n (r ∷ rs) e u = ap₂ (λ x xs. x ∷ xs) (get_or-append a b z r (rw e u.0)) (pick-front z a b n rs e u.1)

-- values picked by two lists that agree below n
pub pick_same : {A : Type 0} (z : A) (a : List A) (g : ℕ → A) (n : ℕ) (rs : List ℕ) → ((r : ℕ) → r < n → get_or a r z ≡ g r) → Under n rs → pick z a rs ≡ map g rs
unfolding Under
pick_same z a g n [] e u = refl
pick_same z a g n (r ∷ rs) e u = ap₂ (λ x xs. x ∷ xs) (e r u.0) (pick_same z a g n rs e u.1)

module _ {A : Type 0} (f : Cell → List A → A) (z : A) (cs : ℕ → Cell) where
  pub below_suc : (n : ℕ) → below f z cs (suc n) ≡ below f z cs n ++ (value f z cs n ∷ [])
  unfolding below value
  below_suc n = refl

  pub below_length : (n : ℕ) → length (below f z cs n) ≡ n
  unfolding below
  below_length zero = refl
  below_length (suc n) = simp length-append (rw (below_length n) (add-one n))

  pub below_at : (n k : ℕ) → k < n → get_or (below f z cs n) k z ≡ value f z cs k
  below_at zero k h = absurd (not-suc-le-zero h)
  below_at (suc n) k h =
      rw (below_suc n)
      (⊎_elim
      (λ e. rw e (get_or_at (below f z cs n) (value f z cs n) [] z n (below_length n)))
      (λ lt. get_or-append (below f z cs n) (value f z cs n ∷ []) z k (rw (below_length n) lt) ∙ below_at n k lt)
      (eq-or-lt_of_le (le_of_suc-le-suc h)))

  -- the fold's equation: a cell's value is made of the cell and its references' values
  pub value-eq : (k : ℕ) → Under k (cs k).refs → value f z cs k ≡ f (cs k) (map (value f z cs) (cs k).refs)
  unfolding value
  value-eq k u = ap (f (cs k)) (pick_same z (below f z cs k) (value f z cs) k (cs k).refs (λ r lt. below_at k r lt) u)

-- the same at the cells that a table and data hold
pub value-at : {A : Type 0} (f : Cell → List A → A) (z : A) (t d : List ℕ) (k : ℕ) → RecordOk t k → value f z (cell_at t d) k ≡ f (cell_at t d k) (map (value f z (cell_at t d)) (refs_at t k))
unfolding cell_at refs_at
value-at f z t d k ok = value-eq f z (cell_at t d) k (refs-under t k ok)

-- only the cells up to n count
pub below_cong : {A : Type 0} (f : Cell → List A → A) (z : A) (g h : ℕ → Cell) (n : ℕ) → ((i : ℕ) → i < n → g i ≡ h i) → below f z g n ≡ below f z h n
unfolding below
below_cong f z g h zero e = refl
below_cong f z g h (suc n) e =
    let q = below_cong f z g h n (λ i lt. e i (omega arith)) in
    rw (e n (omega arith), q)

pub value_cong : {A : Type 0} (f : Cell → List A → A) (z : A) (g h : ℕ → Cell) (n : ℕ) → ((i : ℕ) → i ≤ n → g i ≡ h i) → value f z g n ≡ value f z h n
unfolding value
value_cong f z g h n e = rw (e n (omega arith), below_cong f z g h n (λ i lt. e i (omega arith)))

-- the cells of the store's list are those in memory
pub value-cells : {A : Type 0} (f : Cell → List A → A) (z : A) (t d : List ℕ) (n k : ℕ) → k < n → value f z (at (cells_of n t d)) k ≡ value f z (cell_at t d) k
value-cells f z t d n k h = value_cong f z (at (cells_of n t d)) (cell_at t d) k (λ i le. cells_at_lem n t d i (omega arith))

-- ---- two folds side by side

-- the lists are equally long, and R holds of each pair
abbrev pub Both : {A B : Type 0} → (A → B → Type 0) → List A → List B → Type 0
Both R [] [] = Unit {0}
Both R [] (b ∷ ys) = ⊥
Both R (a ∷ xs) [] = ⊥
Both R (a ∷ xs) (b ∷ ys) = R a b × Both R xs ys

module _ {A B : Type 0} (R : A → B → Type 0) where
  both-snoc : (xs : List A) (ys : List B) (a : A) (b : B) → Both R xs ys → R a b → Both R (xs ++ (a ∷ [])) (ys ++ (b ∷ []))
  both-snoc [] [] a b h r = (r, tt)
  both-snoc [] (y ∷ ys) a b h r = absurd h
  both-snoc (x ∷ xs) [] a b h r = absurd h
  both-snoc (x ∷ xs) (y ∷ ys) a b h r = (h.0, both-snoc xs ys a b h.1 r)

  both_at : (xs : List A) (ys : List B) (z : A) (w : B) (n : ℕ) → Both R xs ys → R z w → R (get_or xs n z) (get_or ys n w)
  both_at [] [] z w n h r = r
  both_at [] (y ∷ ys) z w n h r = absurd h
  both_at (x ∷ xs) [] z w n h r = absurd h
  both_at (x ∷ xs) (y ∷ ys) z w zero h r = h.0
  both_at (x ∷ xs) (y ∷ ys) z w (suc n) h r = both_at xs ys z w n h.1 r

  both-pick : (xs : List A) (ys : List B) (z : A) (w : B) (rs : List ℕ) → Both R xs ys → R z w → Both R (pick z xs rs) (pick w ys rs)
  both-pick xs ys z w [] h r = tt
  both-pick xs ys z w (n ∷ rs) h r = (both_at xs ys z w n h r, both-pick xs ys z w rs h r)

  -- the steps keep R at each cell up to m: so do the values
  module _ (f : Cell → List A → A) (g : Cell → List B → B) (z : A) (w : B) (cs : ℕ → Cell) (m : ℕ) (r : R z w)
      (step : (i : ℕ) → i ≤ m → (xs : List A) (ys : List B) → length xs ≡ length (cs i).refs → Both R xs ys → R (f (cs i) xs) (g (cs i) ys)) where
    step-at : (n : ℕ) → n ≤ m → Both R (below f z cs n) (below g w cs n) → R (value f z cs n) (value g w cs n)
    unfolding value
    step-at n h b =
        step n h (pick z (below f z cs n) (cs n).refs) (pick w (below g w cs n) (cs n).refs)
        (length-map (cs n).refs (λ k. get_or (below f z cs n) k z)) (both-pick (below f z cs n) (below g w cs n) z w (cs n).refs b r)

    below_both : (n : ℕ) → n ≤ m + 1 → Both R (below f z cs n) (below g w cs n)
    unfolding below
    below_both zero h = tt
    below_both (suc n) h =
        let b = below_both n (omega arith) in
        rw (below_suc f z cs n, below_suc g w cs n)
        (both-snoc (below f z cs n) (below g w cs n) (value f z cs n) (value g w cs n) b (step-at n (omega arith) b))

    pub value-both : (n : ℕ) → n ≤ m → R (value f z cs n) (value g w cs n)
    value-both n h = step-at n h (below_both n (omega arith))
