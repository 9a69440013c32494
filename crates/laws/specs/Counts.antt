-- The writer's order as a program makes it: with the number of parents that each cell waits for, in one list.
-- A parent that names a child more than once counts once, at the first of these references: else the child would join the queue too late.
-- Assumes nothing.
use Rattle.std.specs.Prelude.{◌≡◌, refl, ◌≢◌, ℕ, zero, suc, ◌+◌, ◌-◌, ◌≤◌, ◌<◌, Bool, true, false, ◌&&◌, ◌||◌, not, cond, length, get_or, set, eqb}
use Rattle.std.proofs.Common.{sym, ap, ◌∙◌, arith, length-set, get_or-set_same, get_or-set_other, eqb-true, eq-eqb, ne_eqb}
use mathlib.Core.List.Memᴰ.{head as here}
use mathlib.Core.List.Memᴰ.{tail as there}
use mathlib.Core.List.{List, [], ◌∷◌, ◌++◌, Memᴰ as Mem}
use Rattle.std.proofs.lemmas.Bool.{eqb-false}
use Rattle.laws.specs.Tests.{memb-true, memb-of}
use Rattle.scheme.specs.Order.{memb, is_child, reach_down, reached, ready}
use Rattle.laws.specs.Distinct.{Nodup}

pub memb-not : (x : ℕ) (l : List ℕ) → (Mem x l → ⊥) → memb x l ≡ false
memb-not x l h = go (memb x l) refl
  where
    go : (b : Bool) → memb x l ≡ b → b ≡ false
    go true e = absurd (h (memb-true x l e))
    go false e = refl

module _ (kids : ℕ → List ℕ) where
  -- how many cells of ps refer to c and are not in L
  abbrev pub parents : List ℕ → List ℕ → ℕ → ℕ
  parents [] L c = 0
  parents (p ∷ ps) L c = cond (memb c (kids p) && not (memb p L)) (suc (parents ps L c)) (parents ps L c)

  pub ready-parents : (R L : List ℕ) (c : ℕ) → ready kids R L c ≡ eqb (parents R L c) 0
  ready-parents [] L c = refl
  ready-parents (p ∷ ps) L c = go (memb c (kids p)) (memb p L) (ready-parents ps L c)
    where
      go : (a b : Bool) → ready kids ps L c ≡ eqb (parents ps L c) 0 → ((not a || b) && ready kids ps L c) ≡ eqb (cond (a && not b) (suc (parents ps L c)) (parents ps L c)) 0
      go true true ih = ih
      go true false ih = sym (ne_eqb (suc (parents ps L c)) 0 (λ e. omega arith))
      go false true ih = ih
      go false false ih = ih

  -- listing a cell that is not in R changes nothing
  parents-other : (R L : List ℕ) (x c : ℕ) → (Mem x R → ⊥) → parents R (x ∷ L) c ≡ parents R L c
  parents-other [] L x c h = refl
  parents-other (p ∷ ps) L x c h = rw (ne_eqb p x (λ e. h (here (sym e))), parents-other ps L x c (λ m. h (there m)))

  -- listing x takes one from each of its references
  pub parents-listed : (R L : List ℕ) (x c : ℕ) → Nodup R → Mem x R → (Mem x L → ⊥) → Mem c (kids x) → parents R L c ≡ suc (parents R (x ∷ L) c)
  parents-listed [] L x c n x6 h k = elim x6 [ ]
  parents-listed (p ∷ ps) L x c n (here e) h k =
      let a : memb c (kids p) ≡ true = memb-of c (kids p) (rw e at k) in
      let b : memb p L ≡ false = memb-not p L (λ m. h (rw e m)) in
      let d : eqb p x ≡ true = eq-eqb p x (sym e) in
      rw (a, b, d) (ap suc (sym (parents-other ps L x c (λ m. n.0 (rw e at m)))))
  parents-listed (p ∷ ps) L x c n (there m) h k =
      let d : eqb p x ≡ false = ne_eqb p x (λ e. n.0 (rw (← e) at m)) in
      rw d (go (memb c (kids p) && not (memb p L)) (parents-listed ps L x c n.1 m h k))
    where
      go : (b : Bool) → parents ps L c ≡ suc (parents ps (x ∷ L) c) → cond b (suc (parents ps L c)) (parents ps L c) ≡ suc (cond b (suc (parents ps (x ∷ L) c)) (parents ps (x ∷ L) c))
      go true ih = ap suc ih
      go false ih = ih

  pub parents-kept : (R L : List ℕ) (x c : ℕ) → (Mem c (kids x) → ⊥) → parents R (x ∷ L) c ≡ parents R L c
  parents-kept [] L x c h = refl
  parents-kept (p ∷ ps) L x c h = go (eqb p x) refl (parents-kept ps L x c h)
    where
      go : (b : Bool) → eqb p x ≡ b → parents ps (x ∷ L) c ≡ parents ps L c
          → cond (memb c (kids p) && not (b || memb p L)) (suc (parents ps (x ∷ L) c)) (parents ps (x ∷ L) c) ≡ cond (memb c (kids p) && not (memb p L)) (suc (parents ps L c)) (parents ps L c)
      go true e ih = rw (memb-not c (kids p) (λ m. h (rw (eqb-true p x e) at m))) ih
      go false e ih = rw ih

pub record Settled : Type 0 where
  pub counts : List ℕ
  pub queue : List ℕ

-- one off the count of each of these references that is not in `seen`; those that come to 0 join the queue
abbrev pub settle : List ℕ → List ℕ → List ℕ → List ℕ → Settled
settle seen counts q [] = record { counts = counts; queue = q }
settle seen counts q (c ∷ cs) =
    settle (c ∷ seen) (cond (memb c seen) counts (set counts c (get_or counts c 0 - 1))) (cond (memb c seen) q (cond (eqb (get_or counts c 0 - 1) 0) (q ++ c ∷ []) q)) cs

abbrev pub run_counts : (ℕ → List ℕ) → ℕ → List ℕ → List ℕ → List ℕ
run_counts kids zero counts q = []
run_counts kids (suc k) counts [] = []
run_counts kids (suc k) counts (x ∷ q) = x ∷ run_counts kids k (settle [] counts q (kids x)).counts (settle [] counts q (kids x)).queue

-- the counts that the same process leaves
abbrev pub end_counts : (ℕ → List ℕ) → ℕ → List ℕ → List ℕ → List ℕ
end_counts kids zero counts q = counts
end_counts kids (suc k) counts [] = counts
end_counts kids (suc k) counts (x ∷ q) = end_counts kids k (settle [] counts q (kids x)).counts (settle [] counts q (kids x)).queue

-- a count for each cell of R: how many of its parents are not in L
pub record Right (kids : ℕ → List ℕ) (R L counts : List ℕ) : Type 0 where
  pub waits : (d : ℕ) → d < length counts → get_or counts d 0 ≡ parents kids R L d
  pub inside : (c : ℕ) → Mem c R → c < length counts

-- one on the count of each of these references that is not in `seen`
abbrev pub bump : List ℕ → List ℕ → List ℕ → List ℕ
bump seen counts [] = counts
bump seen counts (c ∷ cs) = bump (c ∷ seen) (cond (memb c seen) counts (set counts c (get_or counts c 0 + 1))) cs

-- from the root down: a cell with a parent counts as a parent of its references
abbrev pub count_down : (ℕ → List ℕ) → ℕ → List ℕ → List ℕ
count_down kids zero counts = counts
count_down kids (suc n) counts = count_down kids n (cond (eqb (get_or counts n 0) 0) counts (bump [] counts (kids n)))

pub length-bump : (cs seen counts : List ℕ) → length (bump seen counts cs) ≡ length counts
length-bump [] seen counts = refl
length-bump (c ∷ cs) seen counts = length-bump cs (c ∷ seen) (cond (memb c seen) counts (set counts c (get_or counts c 0 + 1))) ∙ len (memb c seen)
  where
    len : (b : Bool) → length (cond b counts (set counts c (get_or counts c 0 + 1))) ≡ length counts
    len true = refl
    len false = length-set counts c (get_or counts c 0 + 1)

-- a number that is not in `seen` gets one more if it is among cs
pub bump_at : (cs seen counts : List ℕ) (d : ℕ) → d < length counts → get_or (bump seen counts cs) d 0 ≡ get_or counts d 0 + cond (memb d seen) 0 (cond (memb d cs) 1 0)
bump_at [] seen counts d h = go (memb d seen)
  where
    go : (b : Bool) → get_or counts d 0 ≡ get_or counts d 0 + cond b 0 0
    go true = omega arith
    go false = omega arith
bump_at (c ∷ cs) seen counts d h = bump_at cs (c ∷ seen) counts₁ d (omega (arith, len (memb c seen))) ∙ go (eqb d c) refl (memb d seen) refl
  where
    counts₁ : List ℕ
    counts₁ = cond (memb c seen) counts (set counts c (get_or counts c 0 + 1))

    len : (b : Bool) → length (cond b counts (set counts c (get_or counts c 0 + 1))) ≡ length counts
    len true = refl
    len false = length-set counts c (get_or counts c 0 + 1)

    same : (b : Bool) → d ≡ c → memb c seen ≡ b → get_or (cond b counts (set counts c (get_or counts c 0 + 1))) d 0 ≡ get_or counts d 0 + cond b 0 1
    same true e m = omega arith
    same false e m = rw (e, get_or-set_same counts c (get_or counts c 0 + 1) 0 (rw e at h))

    other : (b : Bool) → d ≢ c → get_or (cond b counts (set counts c (get_or counts c 0 + 1))) d 0 ≡ get_or counts d 0
    other true ne = refl
    other false ne = get_or-set_other counts c d (get_or counts c 0 + 1) 0 ne

    go : (b : Bool) → eqb d c ≡ b → (a : Bool) → memb d seen ≡ a → get_or counts₁ d 0 + cond (b || a) 0 (cond (memb d cs) 1 0) ≡ get_or counts d 0 + cond a 0 (cond (b || memb d cs) 1 0)
    go true e true m = let q = eqb-true d c e in let r : memb c seen ≡ true = rw q at m in rw r (omega arith)
    go true e false m = let q = eqb-true d c e in let r : memb c seen ≡ false = rw q at m in rw r (omega (arith, same false q r))
    go false e a m = rw (other (memb c seen) (eqb-false d c e))

module _ (kids : ℕ → List ℕ) where
  is_child-parents : (ps : List ℕ) (n : ℕ) → is_child kids ps n ≡ not (eqb (parents kids ps [] n) 0)
  is_child-parents [] n = refl
  is_child-parents (p ∷ ps) n = go (memb n (kids p)) (is_child-parents ps n)
    where
      go : (b : Bool) → is_child kids ps n ≡ not (eqb (parents kids ps [] n) 0) → (b || is_child kids ps n) ≡ not (eqb (cond (b && true) (suc (parents kids ps [] n)) (parents kids ps [] n)) 0)
      go true ih = rw (ne_eqb (suc (parents kids ps [] n)) 0 (λ e. omega arith))
      go false ih = ih

  -- the counts of the cells of acc are those of its parents
  abbrev Counted : List ℕ → List ℕ → Type 0
  Counted acc counts = (d : ℕ) → d < length counts → get_or counts d 0 ≡ parents kids acc [] d

  counted-bump : (n : ℕ) (acc counts : List ℕ) → Counted acc counts → Counted (n ∷ acc) (bump [] counts (kids n))
  counted-bump n acc counts P d h = bump_at (kids n) [] counts d g ∙ go (memb d (kids n)) (P d g)
    where
      g : d < length counts
      g = omega (arith, length-bump (kids n) [] counts)

      go : (b : Bool) → get_or counts d 0 ≡ parents kids acc [] d → get_or counts d 0 + cond b 1 0 ≡ cond (b && true) (suc (parents kids acc [] d)) (parents kids acc [] d)
      go true e = omega arith
      go false e = omega arith

  pub counted-down : (n : ℕ) (acc counts : List ℕ) → n ≤ length counts → Counted acc counts → (length (count_down kids n counts) ≡ length counts) × Counted (reach_down kids n acc) (count_down kids n counts)
  counted-down zero acc counts h P = (refl, P)
  counted-down (suc n) acc counts h P =
      let e : is_child kids acc n ≡ not (eqb (get_or counts n 0) 0) = rw (P n h) (is_child-parents acc n) in
      rw e (go (eqb (get_or counts n 0) 0) (counted-down n acc counts (omega arith) P)
      (counted-down n (n ∷ acc) (bump [] counts (kids n)) (omega (arith, length-bump (kids n) [] counts)) (counted-bump n acc counts P)))
    where
      go : (b : Bool) → (length (count_down kids n counts) ≡ length counts) × Counted (reach_down kids n acc) (count_down kids n counts)
          → (length (count_down kids n (bump [] counts (kids n))) ≡ length (bump [] counts (kids n))) × Counted (reach_down kids n (n ∷ acc)) (count_down kids n (bump [] counts (kids n)))
          → (length (count_down kids n (cond b counts (bump [] counts (kids n)))) ≡ length counts) × Counted (reach_down kids n (cond (not b) (n ∷ acc) acc)) (count_down kids n (cond b counts (bump [] counts (kids n))))
      go true x y = x
      go false x y = (y.0 ∙ length-bump (kids n) [] counts, y.1)

  nodup-down : (n : ℕ) (acc : List ℕ) → Nodup acc → ((x : ℕ) → Mem x acc → n ≤ x) → Nodup (reach_down kids n acc)
  nodup-down zero acc N h = N
  nodup-down (suc n) acc N h = go (is_child kids acc n) (nodup-down n acc N (λ x m. omega (arith, h x m))) (nodup-down n (n ∷ acc) (λ m. omega (arith, h n m), N) low)
    where
      low : (x : ℕ) → Mem x (n ∷ acc) → n ≤ x
      low x (here e) = omega arith
      low x (there m) = omega (arith, h x m)

      go : (b : Bool) → Nodup (reach_down kids n acc) → Nodup (reach_down kids n (n ∷ acc)) → Nodup (reach_down kids n (cond b (n ∷ acc) acc))
      go true x y = y
      go false x y = x

  pub nodup-reached : (root : ℕ) → Nodup (reached kids root)
  nodup-reached root = nodup-down root (root ∷ []) (λ m. elim m [ ], tt) low
    where
      low : (x : ℕ) → Mem x (root ∷ []) → root ≤ x
      low x (here e) = omega arith
      low x (there m) = elim m [ ]
