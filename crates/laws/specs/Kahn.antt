-- The writer's order lists each cell that the root reaches once, the root first, each reference to a later place.
-- Assumes nothing.
use Rattle.std.specs.Prelude.{◌≡◌, refl, ◌⊎◌, ℕ, zero, suc, ◌+◌, ◌≤◌, ◌<◌, Bool, true, false, ◌&&◌, ◌||◌, not, cond, length}
use Rattle.std.proofs.Common.{subst, inl, inr, arith, length-append}
use mathlib.Core.List.Memᴰ
use mathlib.Core.List.Memᴰ.{head as here}
use mathlib.Core.List.Memᴰ.{tail as there}
use mathlib.Core.List.{List, [], ◌∷◌, ◌++◌, Memᴰ as Mem}
use Rattle.std.proofs.lemmas.Bool.{not-true}
use Rattle.laws.specs.Tests.{bool_cases, and_left, and_right, and_both, memb-true, memb-of, memb-false, mem_dec}
use Rattle.scheme.specs.Order.{memb, ready, join, run}
use Rattle.laws.specs.Distinct.{Nodup, nodup_append, nodup-snoc, nodup-bound}

-- each cell of R that refers to c is in L
abbrev pub Ready : (ℕ → List ℕ) → List ℕ → List ℕ → ℕ → Type 0
Ready kids R L c = (p : ℕ) → Mem p R → Mem c (kids p) → Mem p L

module _ (kids : ℕ → List ℕ) where
  pub ready-true : (R L : List ℕ) (c : ℕ) → ready kids R L c ≡ true → Ready kids R L c
  ready-true [] L c e p x3 m = elim x3 [ ]
  ready-true (y ∷ ys) L c e p (here q) m = memb-true p L (go (bool_cases (memb y L)))
    where
      a : (not (memb c (kids y)) || memb y L) ≡ true
      a = and_left (not (memb c (kids y)) || memb y L) (ready kids ys L c) e

      m' : memb c (kids y) ≡ true
      m' = memb-of c (kids y) (subst (λ (z : ℕ). Mem c (kids z)) q m)

      pick : (b d : Bool) → b ≡ true → (not b || d) ≡ true → d ≡ true
      pick true d h g = g
      pick false d h g = cc

      go : (memb y L ≡ true) ⊎ (memb y L ≡ false) → memb p L ≡ true
      go _ = rw q (pick (memb c (kids y)) (memb y L) m' a)
  ready-true (y ∷ ys) L c e p (there n) m = ready-true ys L c (and_right (not (memb c (kids y)) || memb y L) (ready kids ys L c) e) p n m

  pub ready_of : (R L : List ℕ) (c : ℕ) → Ready kids R L c → ready kids R L c ≡ true
  ready_of [] L c h = refl
  ready_of (y ∷ ys) L c h = and_both (not (memb c (kids y)) || memb y L) (ready kids ys L c) (go (memb c (kids y)) refl) (ready_of ys L c (λ p n. h p (there n)))
    where
      go : (b : Bool) → memb c (kids y) ≡ b → (not b || memb y L) ≡ true
      go true e = memb-of y L (h y (here refl) (memb-true c (kids y) e))
      go false e = refl

  module _ (R L : List ℕ) where
    -- the queue after one reference
    abbrev pub grown : List ℕ → ℕ → List ℕ
    grown q c = cond (ready kids R L c && not (memb c q)) (q ++ c ∷ []) q

    pub grown-keep : (q : List ℕ) (c x : ℕ) → Mem x q → Mem x (grown q c)
    grown-keep q c x m = go (ready kids R L c && not (memb c q))
      where
        go : (b : Bool) → Mem x (cond b (q ++ c ∷ []) q)
        go true = Memᴰ.append_left (c ∷ []) m
        go false = m

    pub grown-from : (q : List ℕ) (c x : ℕ) → Mem x (grown q c) → Mem x q ⊎ ((x ≡ c) × Ready kids R L x)
    grown-from q c x m = go (ready kids R L c && not (memb c q)) refl m
      where
        new : ready kids R L c ≡ true → x ≡ c → Ready kids R L x
        new e q = rw q (ready-true R L c e)

        split : ready kids R L c ≡ true → Mem x q ⊎ Mem x (c ∷ []) → Mem x q ⊎ ((x ≡ c) × Ready kids R L x)
        split e (inl m) = inl m
        split e (inr m) = inr (Memᴰ.eq_of_singleton m, new e (Memᴰ.eq_of_singleton m))

        go : (b : Bool) → (ready kids R L c && not (memb c q)) ≡ b → Mem x (cond b (q ++ c ∷ []) q) → Mem x q ⊎ ((x ≡ c) × Ready kids R L x)
        go true e m = split (and_left (ready kids R L c) (not (memb c q)) e) (Memᴰ.append_cases q m)
        go false e m = inl m

    pub grown-new : (q : List ℕ) (c : ℕ) → Ready kids R L c → Mem c (grown q c)
    grown-new q c h = go (memb c q) refl
      where
        go : (b : Bool) → memb c q ≡ b → Mem c (cond (ready kids R L c && not b) (q ++ c ∷ []) q)
        go true e = grown-either (ready kids R L c && false) (memb-true c q e)
          where
            grown-either : (b : Bool) → Mem c q → Mem c (cond b (q ++ c ∷ []) q)
            grown-either true m = Memᴰ.append_left (c ∷ []) m
            grown-either false m = m
        go false e = rw (ready_of R L c h) (Memᴰ.append_right q (here refl))

    grown-nodup : (q : List ℕ) (c : ℕ) → Nodup q → Nodup (grown q c)
    grown-nodup q c nq = go (ready kids R L c && not (memb c q)) refl
      where
        go : (b : Bool) → (ready kids R L c && not (memb c q)) ≡ b → Nodup (cond b (q ++ c ∷ []) q)
        go true e = nodup-snoc q c nq (memb-false c q (not-true (memb c q) (and_right (ready kids R L c) (not (memb c q)) e)))
        go false e = nq

    pub join-keep : (cs q : List ℕ) (x : ℕ) → Mem x q → Mem x (join kids R L q cs)
    join-keep [] q x m = m
    join-keep (c ∷ cs) q x m = join-keep cs (grown q c) x (grown-keep q c x m)

    pub join-from : (cs q : List ℕ) (x : ℕ) → Mem x (join kids R L q cs) → Mem x q ⊎ (Mem x cs × Ready kids R L x)
    join-from [] q x m = inl m
    join-from (c ∷ cs) q x m = go (join-from cs (grown q c) x m)
      where
        old : Mem x q ⊎ ((x ≡ c) × Ready kids R L x) → Mem x q ⊎ (Mem x (c ∷ cs) × Ready kids R L x)
        old (inl m) = inl m
        old (inr r) = inr (here r.0, r.1)

        go : Mem x (grown q c) ⊎ (Mem x cs × Ready kids R L x) → Mem x q ⊎ (Mem x (c ∷ cs) × Ready kids R L x)
        go (inl m) = old (grown-from q c x m)
        go (inr r) = inr (there r.0, r.1)

    pub join-all : (cs q : List ℕ) (x : ℕ) → Mem x cs → Ready kids R L x → Mem x (join kids R L q cs)
    join-all [] q x x4 h = elim x4 [ ]
    join-all (c ∷ cs) q x (here e) h = join-keep cs (grown q c) x (rw e (grown-new q c (rw e at h)))
    join-all (c ∷ cs) q x (there m) h = join-all cs (grown q c) x m h

    pub join-nodup : (cs q : List ℕ) → Nodup q → Nodup (join kids R L q cs)
    join-nodup [] q nq = nq
    join-nodup (c ∷ cs) q nq = join-nodup cs (grown q c) (grown-nodup q c nq)

-- what the queue's process needs of the cells: R holds the root and, with a cell, its references, which have lower numbers; nothing else but what these
-- give is in R
pub record Graph (kids : ℕ → List ℕ) (R : List ℕ) (root : ℕ) : Type 0 where
  pub start : Mem root R
  pub closed : (p c : ℕ) → Mem p R → Mem c (kids p) → Mem c R
  pub low : (p c : ℕ) → Mem p R → Mem c (kids p) → c < p
  pub parent : (c : ℕ) → Mem c R → (c ≡ root) ⊎ ((p : ℕ) × Mem p R × Mem c (kids p))
  pub top : (c : ℕ) → Mem c R → c ≤ root

-- each reference of a listed cell is listed behind it
abbrev pub Later : (ℕ → List ℕ) → List ℕ → Type 0
Later kids [] = Unit {0}
Later kids (x ∷ xs) = ((c : ℕ) → Mem c (kids x) → Mem c xs) × Later kids xs

pub record Inv (kids : ℕ → List ℕ) (R L q : List ℕ) : Type 0 where
  pub once_l : Nodup L
  pub once_q : Nodup q
  pub apart : (x : ℕ) → Mem x q → Mem x L → ⊥
  pub in_l : (x : ℕ) → Mem x L → Mem x R
  pub in_q : (x : ℕ) → Mem x q → Mem x R
  pub ready_q : (x : ℕ) → Mem x q → Ready kids R L x
  pub ready_l : (x : ℕ) → Mem x L → Ready kids R L x
  pub all : (x : ℕ) → Mem x R → Ready kids R L x → Mem x q ⊎ Mem x L

-- what is listed from here on
pub record Good (kids : ℕ → List ℕ) (R L out : List ℕ) : Type 0 where
  pub inside : (x : ℕ) → Mem x out → Mem x R
  pub fresh : (x : ℕ) → Mem x out → Mem x L → ⊥
  pub once : Nodup out
  pub complete : (x : ℕ) → Mem x R → Mem x L ⊎ Mem x out
  pub later : Later kids out

module _ (kids : ℕ → List ℕ) (R : List ℕ) (root : ℕ) (G : Graph kids R root) where
  -- a reference of a cell that is not listed is not listed
  kid_new : (L q : List ℕ) → Inv kids R L q → (x c : ℕ) → Mem x R → (Mem x L → ⊥) → Mem c (kids x) → Mem c L → ⊥
  kid_new L q I x c hx nx k m = nx (I.ready_l c m x hx k)

  pub start-inv : Inv kids R [] (root ∷ [])
  start-inv = record {
    once_l = tt;
    once_q = (Memᴰ.not-nil, tt);
    apart = λ x m n. Memᴰ.not-nil n;
    in_l = λ x m. absurd (Memᴰ.not-nil m);
    in_q = λ x m. rw (Memᴰ.eq_of_singleton m) G.start;
    ready_q = λ x m p hp k. absurd (above x p (Memᴰ.eq_of_singleton m) hp k);
    ready_l = λ x m. absurd (Memᴰ.not-nil m);
    all = λ x hx r. inl (first x r (G.parent x hx));
  }
    where
      above : (x p : ℕ) → x ≡ root → Mem p R → Mem x (kids p) → ⊥
      above x p e hp k = omega (arith, G.top p hp, G.low p x hp k)

      first : (x : ℕ) → Ready kids R [] x → (x ≡ root) ⊎ ((p : ℕ) × Mem p R × Mem x (kids p)) → Mem x (root ∷ [])
      first x r (inl e) = here e
      first x r (inr t) = absurd (Memᴰ.not-nil (r t.0 t.1 t.2))

  pub step-inv : (L : List ℕ) (x : ℕ) (q : List ℕ) → Inv kids R L (x ∷ q) → Inv kids R (x ∷ L) (join kids R (x ∷ L) q (kids x))
  step-inv L x q I = record {
    once_l = (I.apart x (here refl), I.once_l);
    once_q = join-nodup kids R (x ∷ L) (kids x) q I.once_q.1;
    apart = λ y m n. apart y (join-from kids R (x ∷ L) (kids x) q y m) n;
    in_l = in_l;
    in_q = λ y m. in_q y (join-from kids R (x ∷ L) (kids x) q y m);
    ready_q = λ y m. ready_q y (join-from kids R (x ∷ L) (kids x) q y m);
    ready_l = ready_l;
    all = λ y hy r. all y hy r (mem_dec y (kids x));
  }
    where
      hx : Mem x R
      hx = I.in_q x (here refl)

      nx : Mem x L → ⊥
      nx = I.apart x (here refl)

      apart : (y : ℕ) → Mem y q ⊎ (Mem y (kids x) × Ready kids R (x ∷ L) y) → Mem y (x ∷ L) → ⊥
      apart y (inl m) (here e) = I.once_q.0 (rw e at m)
      apart y (inl m) (there n) = I.apart y (there m) n
      apart y (inr r) (here e) = omega (arith, G.low x y hx r.0)
      apart y (inr r) (there n) = kid_new L (x ∷ q) I x y hx nx r.0 n

      in_l : (y : ℕ) → Mem y (x ∷ L) → Mem y R
      in_l y (here e) = rw e hx
      in_l y (there m) = I.in_l y m

      in_q : (y : ℕ) → Mem y q ⊎ (Mem y (kids x) × Ready kids R (x ∷ L) y) → Mem y R
      in_q y (inl m) = I.in_q y (there m)
      in_q y (inr r) = G.closed x y hx r.0

      ready_q : (y : ℕ) → Mem y q ⊎ (Mem y (kids x) × Ready kids R (x ∷ L) y) → Ready kids R (x ∷ L) y
      ready_q y (inl m) = λ p hp k. there (I.ready_q y (there m) p hp k)
      ready_q y (inr r) = r.1

      ready_l : (y : ℕ) → Mem y (x ∷ L) → Ready kids R (x ∷ L) y
      ready_l y (here e) = λ p hp k. there (I.ready_q y (here e) p hp k)
      ready_l y (there m) = λ p hp k. there (I.ready_l y m p hp k)

      -- y does not wait for x
      before : (y : ℕ) → Ready kids R (x ∷ L) y → (Mem y (kids x) → ⊥) → Ready kids R L y
      before y r no-kid p hp k = go (r p hp k)
        where
          go : Mem p (x ∷ L) → Mem p L
          go (here e) = absurd (no-kid (rw e at k))
          go (there m) = m

      sort : (y : ℕ) → Mem y (x ∷ q) ⊎ Mem y L → Mem y (join kids R (x ∷ L) q (kids x)) ⊎ Mem y (x ∷ L)
      sort y (inl (here e)) = inr (here e)
      sort y (inl (there m)) = inl (join-keep kids R (x ∷ L) (kids x) q y m)
      sort y (inr m) = inr (there m)

      all : (y : ℕ) → Mem y R → Ready kids R (x ∷ L) y → Mem y (kids x) ⊎ (Mem y (kids x) → ⊥) → Mem y (join kids R (x ∷ L) q (kids x)) ⊎ Mem y (x ∷ L)
      all y hy r (inl k) = inl (join-all kids R (x ∷ L) (kids x) q y k r)
      all y hy r (inr no-kid) = sort y (I.all y hy (before y r no-kid))

  -- with an empty queue all is listed: by the number, from the root down
  pub all_listed : (L : List ℕ) → Inv kids R L [] → (m c : ℕ) → Mem c R → root < c + m → Mem c L
  all_listed L I zero c hc h = absurd (omega (arith, G.top c hc))
  all_listed L I (suc m) c hc h = go (I.all c hc (λ p hp k. all_listed L I m p hp (omega (arith, G.low p c hp k))))
    where
      go : Mem c [] ⊎ Mem c L → Mem c L
      go (inl n) = absurd (Memᴰ.not-nil n)
      go (inr n) = n

  end-good : (L : List ℕ) → Inv kids R L [] → Good kids R L []
  end-good L I = record {
    inside = λ x m. absurd (Memᴰ.not-nil m);
    fresh = λ x m. absurd (Memᴰ.not-nil m);
    once = tt;
    complete = λ x hx. inl (all_listed L I (suc root) x hx (omega arith));
    later = tt;
  }

  step-good : (L : List ℕ) (x : ℕ) (q out : List ℕ) → Inv kids R L (x ∷ q) → Good kids R (x ∷ L) out → Good kids R L (x ∷ out)
  step-good L x q out I W = record {
    inside = inside;
    fresh = fresh;
    once = (λ m. W.fresh x m (here refl), W.once);
    complete = λ y hy. complete y (W.complete y hy);
    later = (λ c k. later c k (W.complete c (G.closed x c hx k)), W.later);
  }
    where
      hx : Mem x R
      hx = I.in_q x (here refl)

      nx : Mem x L → ⊥
      nx = I.apart x (here refl)

      inside : (y : ℕ) → Mem y (x ∷ out) → Mem y R
      inside y (here e) = rw e hx
      inside y (there m) = W.inside y m

      fresh : (y : ℕ) → Mem y (x ∷ out) → Mem y L → ⊥
      fresh y (here e) n = nx (rw e at n)
      fresh y (there m) n = W.fresh y m (there n)

      complete : (y : ℕ) → Mem y (x ∷ L) ⊎ Mem y out → Mem y L ⊎ Mem y (x ∷ out)
      complete y (inl (here e)) = inr (here e)
      complete y (inl (there m)) = inl m
      complete y (inr m) = inr (there m)

      later : (c : ℕ) → Mem c (kids x) → Mem c (x ∷ L) ⊎ Mem c out → Mem c out
      later c k (inl (here e)) = absurd (omega (arith, G.low x c hx k))
      later c k (inl (there m)) = absurd (kid_new L (x ∷ q) I x c hx nx k m)
      later c k (inr m) = m

  -- the listed and the queued cells are different, and below n
  pub room : (n : ℕ) (L q : List ℕ) → root < n → Inv kids R L q → length q + length L ≤ n
  room n L q h I = omega (arith, length-append q L, nodup-bound n (q ++ L) (nodup_append q L I.once_q I.once_l I.apart) (λ x m. below x (Memᴰ.append_cases q m)))
    where
      below : (x : ℕ) → Mem x q ⊎ Mem x L → x < n
      below x (inl m) = omega (arith, G.top x (I.in_q x m))
      below x (inr m) = omega (arith, G.top x (I.in_l x m))

  run-good : (n k : ℕ) (L q : List ℕ) → root < n → n ≤ k + length L → Inv kids R L q → Good kids R L (run kids R k L q)
  run-good n zero L [] h f I = end-good L I
  run-good n zero L (x ∷ q) h f I = absurd (omega (arith, room n L (x ∷ q) h I))
  run-good n (suc k) L [] h f I = end-good L I
  run-good n (suc k) L (x ∷ q) h f I = step-good L x q (run kids R k (x ∷ L) (join kids R (x ∷ L) q (kids x))) I (run-good n k (x ∷ L) (join kids R (x ∷ L) q (kids x)) h (omega arith) (step-inv L x q I))

  pub kahn : (n : ℕ) → root < n → Good kids R [] (run kids R n [] (root ∷ []))
  kahn n h = run-good n n [] (root ∷ []) h (omega arith) start-inv
