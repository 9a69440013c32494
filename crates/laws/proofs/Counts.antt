-- The process by counts lists what the order's definition lists, and leaves all counts at 0: the theorems over specs/Counts.
-- Assumes nothing.
use Rattle.std.specs.Prelude.{◌≡◌, refl, ◌⊎◌, ℕ, zero, suc, ◌+◌, ◌-◌, ◌≤◌, ◌<◌, Bool, true, false, ◌&&◌, not, cond, length, get_or, set, eqb}
use Rattle.std.proofs.Common.{sym, ◌∙◌, inl, inr, arith, length-set, get_or-set_same, get_or-set_other, eqb-true}
use mathlib.Core.List.Memᴰ.{head as here}
use mathlib.Core.List.Memᴰ.{tail as there}
use mathlib.Core.List.{List, [], ◌∷◌, ◌++◌, Memᴰ as Mem}
use Rattle.laws.specs.Tests.{memb-true, memb-of, memb-false, mem_dec}
use Rattle.scheme.specs.Order.{memb, ready, join, run}
use Rattle.laws.specs.Distinct.{Nodup}
use Rattle.laws.specs.Kahn.{Ready, ready-true, ready_of, grown, grown-keep, grown-from, grown-new, Graph, Inv, step-inv, room, all_listed}
use Rattle.laws.specs.Counts.{memb-not, parents, ready-parents, parents-listed, parents-kept, Settled, settle, run_counts, end_counts, Right}

-- while x's references are settled: those seen have their new counts, and have joined if they are ready
record Half (kids : ℕ → List ℕ) (R L : List ℕ) (x : ℕ) (seen counts q : List ℕ) : Type 0 where
  old : (c : ℕ) → c < length counts → (Mem c seen → ⊥) → get_or counts c 0 ≡ parents kids R L c
  new : (c : ℕ) → c < length counts → Mem c seen → get_or counts c 0 ≡ parents kids R (x ∷ L) c
  joined : (c : ℕ) → Mem c seen → Ready kids R (x ∷ L) c → Mem c q
  fresh : (c : ℕ) → Mem c (kids x) → (Mem c seen → ⊥) → Mem c q → ⊥

module _ (kids : ℕ → List ℕ) (R L : List ℕ) (x : ℕ) (n : Nodup R) (hx : Mem x R) (nx : Mem x L → ⊥) where
  -- the queue after one reference is the queue of the order's definition
  grown-is : (seen counts q : List ℕ) (c : ℕ) → Half kids R L x seen counts q → Mem c (kids x) → c < length counts
      → cond (memb c seen) q (cond (eqb (get_or counts c 0 - 1) 0) (q ++ c ∷ []) q) ≡ grown kids R (x ∷ L) q c
  grown-is seen counts q c H k h = go (memb c seen) refl
    where
      again : (b : Bool) → ready kids R (x ∷ L) c ≡ b → Mem c seen → q ≡ cond (b && not (memb c q)) (q ++ c ∷ []) q
      again true r m = rw (memb-of c q (H.joined c m (ready-true kids R (x ∷ L) c r)))
      again false r m = refl

      go : (b : Bool) → memb c seen ≡ b → cond b q (cond (eqb (get_or counts c 0 - 1) 0) (q ++ c ∷ []) q) ≡ grown kids R (x ∷ L) q c
      go true e = again (ready kids R (x ∷ L) c) refl (memb-true c seen e)
      go false e =
          let ns = memb-false c seen e in
          let v : get_or counts c 0 - 1 ≡ parents kids R (x ∷ L) c = omega (arith, H.old c h ns, parents-listed kids R L x c n hx nx k) in
          let f : memb c q ≡ false = memb-not c q (H.fresh c k ns) in
          rw (v, ready-parents kids R (x ∷ L) c, f) (same (eqb (parents kids R (x ∷ L) c) 0))
        where
          same : (b : Bool) → cond b (q ++ c ∷ []) q ≡ cond (b && true) (q ++ c ∷ []) q
          same true = refl
          same false = refl

  step-half : (seen counts q : List ℕ) (c : ℕ) → Half kids R L x seen counts q → Mem c (kids x) → c < length counts
      → Half kids R L x (c ∷ seen) (cond (memb c seen) counts (set counts c (get_or counts c 0 - 1))) (grown kids R (x ∷ L) q c)
  step-half seen counts q c H k h = go (memb c seen) refl
    where
      joined : (d : ℕ) → Mem d (c ∷ seen) → Ready kids R (x ∷ L) d → Mem d (grown kids R (x ∷ L) q c)
      joined d (here e) r = rw e (grown-new kids R (x ∷ L) q c (rw e at r))
      joined d (there m) r = grown-keep kids R (x ∷ L) q c d (H.joined d m r)

      fresh : (d : ℕ) → Mem d (kids x) → (Mem d (c ∷ seen) → ⊥) → Mem d (grown kids R (x ∷ L) q c) → ⊥
      fresh d kd ns m = out (grown-from kids R (x ∷ L) q c d m)
        where
          out : Mem d q ⊎ ((d ≡ c) × Ready kids R (x ∷ L) d) → ⊥
          out (inl m) = H.fresh d kd (λ s. ns (there s)) m
          out (inr r) = ns (here r.0)

      go : (b : Bool) → memb c seen ≡ b → Half kids R L x (c ∷ seen) (cond b counts (set counts c (get_or counts c 0 - 1))) (grown kids R (x ∷ L) q c)
      go true e = record { old = λ d hd ns. H.old d hd (λ m. ns (there m)); new = new; joined = joined; fresh = fresh }
        where
          new : (d : ℕ) → d < length counts → Mem d (c ∷ seen) → get_or counts d 0 ≡ parents kids R (x ∷ L) d
          new d hd (here q) = H.new d hd (rw (← q) at (memb-true c seen e))
          new d hd (there m) = H.new d hd m
      go false e = record { old = old; new = new; joined = joined; fresh = fresh }
        where
          v : ℕ
          v = get_or counts c 0 - 1

          len : (d : ℕ) → d < length (set counts c v) → d < length counts
          len d hd = omega (arith, length-set counts c v)

          old : (d : ℕ) → d < length (set counts c v) → (Mem d (c ∷ seen) → ⊥) → get_or (set counts c v) d 0 ≡ parents kids R L d
          old d hd ns = get_or-set_other counts c d v 0 (λ e. ns (here e)) ∙ H.old d (len d hd) (λ m. ns (there m))

          new : (d : ℕ) → d < length (set counts c v) → Mem d (c ∷ seen) → get_or (set counts c v) d 0 ≡ parents kids R (x ∷ L) d
          new d hd (here q) =
              let a = H.old c h (memb-false c seen e) in
              let b = parents-listed kids R L x c n hx nx k in
              rw (q, get_or-set_same counts c v 0 h) (omega arith)
          new d hd (there m) = get_or-set_other counts c d v 0 (λ q. memb-false c seen e (rw q at m)) ∙ H.new d (len d hd) m

  -- all of these references settled
  record Whole (counts q cs : List ℕ) (t : Settled) (seen : List ℕ) : Type 0 where
    queue-is : t.queue ≡ join kids R (x ∷ L) q cs
    long : length t.counts ≡ length counts
    left : (d : ℕ) → d < length counts → (Mem d seen → ⊥) → (Mem d cs → ⊥) → get_or t.counts d 0 ≡ parents kids R L d
    less : (d : ℕ) → d < length counts → Mem d seen ⊎ Mem d cs → get_or t.counts d 0 ≡ parents kids R (x ∷ L) d

  settle-whole : (cs seen counts q : List ℕ) → Half kids R L x seen counts q → ((c : ℕ) → Mem c cs → Mem c (kids x)) → ((c : ℕ) → Mem c cs → c < length counts) → Whole counts q cs (settle seen counts q cs) seen
  settle-whole [] seen counts q H K B = record { queue-is = refl; long = refl; left = λ d h ns nc. H.old d h ns; less = less }
    where
      less : (d : ℕ) → d < length counts → Mem d seen ⊎ Mem d [] → get_or counts d 0 ≡ parents kids R (x ∷ L) d
      less d h (inl m) = H.new d h m
      less d h (inr m) = elim m [ ]
  settle-whole (c ∷ cs) seen counts q H K B =
      let h = B c (here refl) in
      let k = K c (here refl) in
      rw (grown-is seen counts q c H k h) (step (cond (memb c seen) counts (set counts c (get_or counts c 0 - 1))) (len (memb c seen))
      (settle-whole cs (c ∷ seen) (cond (memb c seen) counts (set counts c (get_or counts c 0 - 1))) (grown kids R (x ∷ L) q c) (step-half seen counts q c H k h) (λ d m. K d (there m)) (λ d m. rw (len (memb c seen)) (B d (there m)))))
    where
      len : (b : Bool) → length (cond b counts (set counts c (get_or counts c 0 - 1))) ≡ length counts
      len true = refl
      len false = length-set counts c (get_or counts c 0 - 1)

      step : (counts₁ : List ℕ) → length counts₁ ≡ length counts → Whole counts₁ (grown kids R (x ∷ L) q c) cs (settle (c ∷ seen) counts₁ (grown kids R (x ∷ L) q c) cs) (c ∷ seen)
          → Whole counts q (c ∷ cs) (settle (c ∷ seen) counts₁ (grown kids R (x ∷ L) q c) cs) seen
      step counts₁ e W = record { queue-is = W.queue-is; long = W.long ∙ e; left = left; less = less }
        where
          left : (d : ℕ) → d < length counts → (Mem d seen → ⊥) → (Mem d (c ∷ cs) → ⊥) → get_or (settle (c ∷ seen) counts₁ (grown kids R (x ∷ L) q c) cs).counts d 0 ≡ parents kids R L d
          left d h ns nc = W.left d (rw e h) out (λ m. nc (there m))
            where
              out : Mem d (c ∷ seen) → ⊥
              out (here q) = nc (here q)
              out (there m) = ns m

          less : (d : ℕ) → d < length counts → Mem d seen ⊎ Mem d (c ∷ cs) → get_or (settle (c ∷ seen) counts₁ (grown kids R (x ∷ L) q c) cs).counts d 0 ≡ parents kids R (x ∷ L) d
          less d h (inl m) = W.less d (rw e h) (inl (there m))
          less d h (inr (here q)) = W.less d (rw e h) (inl (here q))
          less d h (inr (there m)) = W.less d (rw e h) (inr m)

-- the front cell x is listed: the queue is that of the order's definition, and the counts stay right
record Turn (kids : ℕ → List ℕ) (R L : List ℕ) (x : ℕ) (counts q : List ℕ) (t : Settled) : Type 0 where
  queue-is : t.queue ≡ join kids R (x ∷ L) q (kids x)
  long : length t.counts ≡ length counts
  right : Right kids R (x ∷ L) t.counts

module _ (kids : ℕ → List ℕ) (R : List ℕ) (root : ℕ) (G : Graph kids R root) (n : Nodup R) where
  turn : (L : List ℕ) (x : ℕ) (counts q : List ℕ) → Inv kids R L (x ∷ q) → Right kids R L counts → Turn kids R L x counts q (settle [] counts q (kids x))
  turn L x counts q I P =
      let W = settle-whole kids R L x n hx nx (kids x) [] counts q half (λ c m. m) (λ c m. P.inside c (G.closed x c hx m)) in
      record {
        queue-is = W.queue-is;
        long = W.long;
        right = record { waits = λ d h. new W d (rw (← W.long) h) (mem_dec d (kids x)); inside = λ c m. rw W.long (P.inside c m) };
      }
    where
      hx : Mem x R
      hx = I.in_q x (here refl)

      nx : Mem x L → ⊥
      nx = I.apart x (here refl)

      half : Half kids R L x [] counts q
      half = record {
        old = λ c h ns. P.waits c h;
        new = λ c h m. elim m [ ];
        joined = λ c m. elim m [ ];
        fresh = λ c kc ns m. nx (I.ready_q c (there m) x hx kc);
      }

      new : Whole kids R L x n hx nx counts q (kids x) (settle [] counts q (kids x)) [] → (d : ℕ) → d < length counts → Mem d (kids x) ⊎ (Mem d (kids x) → ⊥)
          → get_or (settle [] counts q (kids x)).counts d 0 ≡ parents kids R (x ∷ L) d
      new W d h (inl m) = W.less d h (inr m)
      new W d h (inr nm) = W.left d h (λ m. elim m [ ]) nm ∙ sym (parents-kept kids R L x d nm)

  -- the process by counts lists what the order's definition lists
  pub run-counts : (k : ℕ) (L q counts : List ℕ) → Inv kids R L q → Right kids R L counts → run_counts kids k counts q ≡ run kids R k L q
  run-counts zero L q counts I P = refl
  run-counts (suc k) L [] counts I P = refl
  run-counts (suc k) L (x ∷ q) counts I P =
      let T = turn L x counts q I P in
      let J = step-inv kids R root G L x q I in
      rw (T.queue-is, run-counts k (x ∷ L) (join kids R (x ∷ L) q (kids x)) (settle [] counts q (kids x)).counts J T.right)

  -- with an empty queue no cell waits
  none-waits : (L counts : List ℕ) → Inv kids R L [] → Right kids R L counts → (d : ℕ) → d < length counts → get_or counts d 0 ≡ 0
  none-waits L counts I P d h =
      let r = ready_of kids R L d (λ p hp k. all_listed kids R root G L I (suc root) p hp (omega arith)) in
      P.waits d h ∙ eqb-true (parents kids R L d) 0 (sym (ready-parents kids R L d) ∙ r)

  -- so the process leaves all counts at 0; it lists at most m cells
  pub end-counts : (m k : ℕ) (L q counts : List ℕ) → root < m → m ≤ k + length L → Inv kids R L q → Right kids R L counts
      → (d : ℕ) → d < length counts → get_or (end_counts kids k counts q) d 0 ≡ 0
  end-counts m zero L [] counts h f I P d g = none-waits L counts I P d g
  end-counts m zero L (x ∷ q) counts h f I P d g = absurd (omega (arith, room kids R root G m L (x ∷ q) h I))
  end-counts m (suc k) L [] counts h f I P d g = none-waits L counts I P d g
  end-counts m (suc k) L (x ∷ q) counts h f I P d g =
      let T = turn L x counts q I P in
      let J = step-inv kids R root G L x q I in
      let c = (settle [] counts q (kids x)).counts in
      rw T.queue-is (end-counts m k (x ∷ L) (join kids R (x ∷ L) q (kids x)) c h (omega arith) J T.right d (rw T.long g))
