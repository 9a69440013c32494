-- The cells that a root reaches, as the computed list has them, and the writer's order over a sound store.
-- Assumes nothing.
use Rattle.std.specs.Prelude.{◌≡◌, refl, ◌⊎◌, ℕ, zero, suc, ◌≤◌, ◌<◌, Bool, true, false, ◌||◌, cond, length, ltb}
use Rattle.std.proofs.Common.{inl, inr, not-suc-le-zero, arith, ltb-true, ltb-false}
use mathlib.Core.List.Memᴰ
use mathlib.Core.List.Memᴰ.{head as here}
use mathlib.Core.List.Memᴰ.{tail as there}
use mathlib.Core.List.{List, [], ◌∷◌, Memᴰ as Mem}
use Rattle.laws.specs.Tests.{bool_cases, true-false, memb-true, memb-of}
use Rattle.scheme.specs.Order.{memb, is_child, reach_down, reached, order, kids_of, order_of}
use Rattle.laws.specs.Distinct.{Nodup}
use Rattle.scheme.specs.Cells.{Cell}
use Rattle.laws.specs.Unique.{Low}
use Rattle.laws.specs.Kahn.{Graph, Good, Later, kahn}

-- what the root reaches: itself, and the references of what it reaches
pub data Reach (kids : ℕ → List ℕ) (root : ℕ) : ℕ → Type 0 where
  itself : {c : ℕ} → c ≡ root → Reach kids root c
  via : {p c : ℕ} → Reach kids root p → Mem c (kids p) → Reach kids root c

module _ (kids : ℕ → List ℕ) where
  is_child-true : (ps : List ℕ) (n : ℕ) → is_child kids ps n ≡ true → (p : ℕ) × Mem p ps × Mem n (kids p)
  is_child-true [] n e = absurd (true-false false e refl)
  is_child-true (y ∷ ys) n e = go (memb n (kids y)) refl e (is_child-true ys n)
    where
      go : (b : Bool) → memb n (kids y) ≡ b → (b || is_child kids ys n) ≡ true → (is_child kids ys n ≡ true → (p : ℕ) × Mem p ys × Mem n (kids p)) → (p : ℕ) × Mem p (y ∷ ys) × Mem n (kids p)
      go true q e ih = (y, here refl, memb-true n (kids y) q)
      go false q e ih = let r = ih e in (r.0, there r.1, r.2)

  is_child-of : (ps : List ℕ) (n p : ℕ) → Mem p ps → Mem n (kids p) → is_child kids ps n ≡ true
  is_child-of [] n p x'' k = elim x'' [ ]
  is_child-of (y ∷ ys) n p (here e) k = rw (memb-of n (kids y) (rw e at k))
  is_child-of (y ∷ ys) n p (there m) k = go (memb n (kids y)) (is_child-of ys n p m k)
    where
      go : (b : Bool) → is_child kids ys n ≡ true → (b || is_child kids ys n) ≡ true
      go true e = refl
      go false e = e

  module _ (root : ℕ) (low : (p c : ℕ) → Reach kids root p → Mem c (kids p) → c < p) where
    pub reach-top : {c : ℕ} → Reach kids root c → c ≤ root
    reach-top (itself e) = omega arith
    reach-top (via {p} {c} r k) = omega (arith, low p c r k, reach-top r)

    down-sound : (n : ℕ) (acc : List ℕ) → ((x : ℕ) → Mem x acc → Reach kids root x) → (x : ℕ) → Mem x (reach_down kids n acc) → Reach kids root x
    down-sound zero acc h x m = h x m
    down-sound (suc n) acc h x m = down-sound n (cond (is_child kids acc n) (n ∷ acc) acc) (λ y k. go (is_child kids acc n) refl y k) x m
      where
        go : (b : Bool) → is_child kids acc n ≡ b → (y : ℕ) → Mem y (cond b (n ∷ acc) acc) → Reach kids root y
        go true e y (here q) = let r = is_child-true acc n e in rw q (via (h r.0 r.1) r.2)
        go true e y (there k) = h y k
        go false e y k = h y k

    down-all : (n : ℕ) (acc : List ℕ) → n ≤ root → ((x : ℕ) → Reach kids root x → n ≤ x → Mem x acc) → (x : ℕ) → Reach kids root x → Mem x (reach_down kids n acc)
    down-all zero acc hn h x r = h x r (omega arith)
    down-all (suc n) acc hn h x r = down-all n (cond (is_child kids acc n) (n ∷ acc) acc) (omega arith) (λ y s g. go (is_child kids acc n) refl y s (bool_cases (ltb n y)) g) x r
      where
        child : {y : ℕ} → Reach kids root y → y ≡ n → is_child kids acc n ≡ true
        child (itself e) q = absurd (omega arith)
        child (via {p} {c} s k) q = is_child-of acc n p (h p s (omega (arith, low p c s k))) (rw q at k)

        go : (b : Bool) → is_child kids acc n ≡ b → (y : ℕ) → Reach kids root y → (ltb n y ≡ true) ⊎ (ltb n y ≡ false) → n ≤ y → Mem y (cond b (n ∷ acc) acc)
        go true e y s (inl g) j = there (h y s (ltb-true n y g))
        go true e y s (inr g) j = let g' = ltb-false n y g in let q : y ≡ n = omega arith in here q
        go false e y s (inl g) j = h y s (ltb-true n y g)
        go false e y s (inr g) j = let g' = ltb-false n y g in absurd (true-false (is_child kids acc n) (child s (omega arith)) e)

    pub reached-sound : (x : ℕ) → Mem x (reached kids root) → Reach kids root x
    reached-sound = down-sound root (root ∷ []) (λ x m. itself (Memᴰ.eq_of_singleton m))

    pub reached-all : (x : ℕ) → Reach kids root x → Mem x (reached kids root)
    reached-all = down-all root (root ∷ []) (omega arith) (λ x r h. let q : x ≡ root = omega (arith, reach-top r) in here q)

    pub graph : Graph kids (reached kids root) root
    graph = record {
      start = reached-all root (itself refl);
      closed = λ p c m k. reached-all c (via (reached-sound p m) k);
      low = λ p c m k. low p c (reached-sound p m) k;
      parent = λ c m. parent (reached-sound c m);
      top = λ c m. reach-top (reached-sound c m);
    }
      where
        parent : {c : ℕ} → Reach kids root c → (c ≡ root) ⊎ ((p : ℕ) × Mem p (reached kids root) × Mem c (kids p))
        parent (itself e) = inl e
        parent (via {p} r k) = inr (p, reached-all p r, k)

-- the order lists each cell that the root reaches, and no other, once, the root first, each reference to a later place
pub record Listing (s : List Cell) (root : ℕ) (out : List ℕ) : Type 0 where
  pub first : (rest : List ℕ) × (out ≡ root ∷ rest)
  pub once : Nodup out
  pub sound : (x : ℕ) → Mem x out → Reach (kids_of s) root x
  pub complete : (x : ℕ) → Reach (kids_of s) root x → Mem x out
  pub later : Later (kids_of s) out

pub reach-held : (s : List Cell) → Low s → (root : ℕ) → root < length s → {c : ℕ} → Reach (kids_of s) root c → c < length s
reach-held s S root h (itself e) = omega arith
reach-held s S root h (via {p} {c} r k) = let g = reach-held s S root h r in omega (arith, S p g c k)

pub listing : (s : List Cell) → Low s → (root : ℕ) → root < length s → Listing s root (order_of s root)
unfolding order_of
listing s S root h = record {
  first = first s h;
  once = W.once;
  sound = λ x m. reached-sound (kids_of s) root low x (W.inside x m);
  complete = λ x r. complete x (W.complete x (reached-all (kids_of s) root low x r));
  later = W.later;
}
  where
    low : (p c : ℕ) → Reach (kids_of s) root p → Mem c (kids_of s p) → c < p
    low p c r k = S p (reach-held s S root h r) c k

    W : Good (kids_of s) (reached (kids_of s) root) [] (order_of s root)
    W = kahn (kids_of s) (reached (kids_of s) root) root (graph (kids_of s) root low) (length s) h

    complete : (x : ℕ) → Mem x [] ⊎ Mem x (order_of s root) → Mem x (order_of s root)
    complete x (inl m) = absurd (Memᴰ.not-nil m)
    complete x (inr m) = m

    first : (t : List Cell) → root < length t → (rest : List ℕ) × (order (kids_of t) (length t) root ≡ root ∷ rest)
    first [] h = absurd (not-suc-le-zero h)
    first (c ∷ cs) h = (_, refl)
