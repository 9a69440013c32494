-- The queue in the scratch is the queue of the order, and there is room for it. Assumes nothing.
use mathlib.Core.Path.{◌≡◌, refl, sym, ap, ◌∙◌}
use mathlib.Core.Bool.{Bool, true, false, cond, ◌&&◌}
use mathlib.Core.List.Memᴰ
use mathlib.Core.List.Memᴰ.{head as here}
use mathlib.Core.List.Memᴰ.{tail as there}
use mathlib.Core.List.{List, [], ◌∷◌, ◌++◌, append-nil, append_assoc, Memᴰ as Mem}
use mathlib.Core.Logic.{◌⊎◌, inl, inr}
use Prim.Native.Nat.{ℕ, zero, suc, ◌+◌, ◌-◌, ◌*◌, ◌<◌, ◌≤◌}
use native.Mathlib.Omega.{arith}
use lib.ListN.{length, take, get_or, set, length-set, replicate, length-append, length-replicate, get_or-replicate, get_or-eq_default}
use lib.Seq.{slice, slice_empty, length-slice, length-take-le, get_or-take, get_or-set_same, take-set-le}
use lib.Dec.{ltb}
use borrow.Author.Tests.{ltb-true, ltb-false, eqb-true}
use Rattle.laws.specs.Distinct.{Nodup}
use Rattle.scheme.specs.Order.{memb, join, reached, run, order}
use Rattle.laws.specs.Kahn.{Graph, Inv, Good, ready_of, room, start-inv, step-inv, kahn}
use Rattle.laws.specs.Reach.{graph}
use Rattle.laws.specs.Counts.{Settled, settle, run_counts, end_counts, count_down, bump, bump_at, parents, ready-parents}
use Rattle.laws.specs.Counts.{Right, counted-down, length-bump, nodup-reached}
use Rattle.laws.proofs.Counts.{run-counts, end-counts}
use Rattle.laws.specs.Records.{refs_at, Linked}
use Rattle.order.specs.Queue.{kids_at, Small, Joined, Roomy, Listed, Placed, Ordered}
use Rattle.order.proofs.Kids.{kids_refs, kids_below, order_is}
use Rattle.order.proofs.Steps.{settle-front}
use Rattle.laws.specs.Slices.{slice-same, slice-join, slice_snoc, slice_front}

-- ---- room

-- what waits in the queue is listed first
queue-listed : (kids : ℕ → List ℕ) (q p counts : List ℕ) → length q ≤ length (run_counts kids (length q) counts (q ++ p))
queue-listed kids [] p counts = omega arith
queue-listed kids (x ∷ q) p counts =
    let S = settle [] counts [] (kids x) in
    -- the references that join stand behind q ++ p
    let w : settle [] counts (q ++ p) (kids x) ≡ record { counts = S.counts; queue = q ++ (p ++ S.queue) } = sym (rw (append-nil (q ++ p)) refl) ∙ settle-front (kids x) [] counts (q ++ p) [] ∙ rw (append_assoc q p S.queue) refl in
    let ih = queue-listed kids q (p ++ S.queue) S.counts in
    rw w (omega arith)

-- if whatever is listed from here on is below n and fits into n places with the l cells listed before, there is room at each step
roomy : (kids : ℕ → List ℕ) (n k : ℕ) (counts q : List ℕ) (l : ℕ) → ((j : ℕ) → length (run_counts kids j counts q) + l ≤ n) → ((j x : ℕ) → Mem x (run_counts kids j counts q) → x < n) → Roomy kids n k counts q l
unfolding Roomy
roomy kids n zero counts q l F B = omega (arith, F (length q), rw (append-nil q) at (queue-listed kids q [] counts))
roomy kids n (suc k) counts [] l F B = let f : 0 + l ≤ n = F 0 in let z : l ≤ n = omega arith in z
roomy kids n (suc k) counts (x ∷ q) l F B =
    (B 1 x (here refl), omega (arith, F (length (x ∷ q)), rw (append-nil q) at (queue-listed kids (x ∷ q) [] counts)), roomy kids n k _ _ (suc l) (λ j. omega (arith, F (suc j))) (λ j y m. B (suc j) y (there m)))

-- what the order's definition lists from here on fits, and is reached
run_fits : (kids : ℕ → List ℕ) (R : List ℕ) (root n : ℕ) → Graph kids R root → root < n → (k : ℕ) (L q : List ℕ) → Inv kids R L q → length (run kids R k L q) + length L ≤ n
run_fits kids R root n G h zero L q I = omega (arith, room kids R root G n L q h I)
run_fits kids R root n G h (suc k) L [] I = omega (arith, room kids R root G n L [] h I)
run_fits kids R root n G h (suc k) L (x ∷ q) I = omega (arith, run_fits kids R root n G h k (x ∷ L) (join kids R (x ∷ L) q (kids x)) (step-inv kids R root G L x q I))

run_inside : (kids : ℕ → List ℕ) (R : List ℕ) (root : ℕ) → Graph kids R root → (k : ℕ) (L q : List ℕ) → Inv kids R L q → (x : ℕ) → Mem x (run kids R k L q) → Mem x R
run_inside kids R root G zero L q I x m = absurd (Memᴰ.not-nil m)
run_inside kids R root G (suc k) L [] I x m = absurd (Memᴰ.not-nil m)
run_inside kids R root G (suc k) L (y ∷ q) I x (here e) = rw e (I.in_q y (here refl))
run_inside kids R root G (suc k) L (y ∷ q) I x (there m) = run_inside kids R root G k (y ∷ L) (join kids R (y ∷ L) q (kids y)) (step-inv kids R root G L y q I) x m

roomy-bound : (kids : ℕ → List ℕ) (n k : ℕ) (counts q : List ℕ) (l : ℕ) → Roomy kids n k counts q l → length q + l ≤ n
unfolding Roomy
roomy-bound kids n zero counts q l r = r
roomy-bound kids n (suc k) counts [] l r = omega arith
roomy-bound kids n (suc k) counts (x ∷ q) l r = r.1

-- ---- a turn of the queue

module _ (kids : ℕ → List ℕ) (n head tail : ℕ) (s : List ℕ) (hn : n ≤ head) (ht : head < tail) (hl : tail ≤ 2 * n) (hs : 2 * n ≤ length s) where
  -- the front cell and what waits behind it
  front : slice head tail s ≡ get_or s head 0 ∷ slice (head + 1) tail s
  front = slice_front head tail s ht (omega arith)

  fuel : 2 * n - head ≡ suc (2 * n - (head + 1))
  fuel = omega arith

  module _ (r : Roomy kids n (2 * n - head) (take n s) (slice head tail s) (head - n)) where
    opened : Roomy kids n (suc (2 * n - (head + 1))) (take n s) (get_or s head 0 ∷ slice (head + 1) tail s) (head - n)
    opened = rw (fuel, front) at r

    pub front_below : get_or s head 0 < n
    unfolding Roomy
    front_below = opened.0

    rest : Roomy kids n (2 * n - (head + 1)) (settle [] (take n s) (slice (head + 1) tail s) (kids (get_or s head 0))).counts (settle [] (take n s) (slice (head + 1) tail s) (kids (get_or s head 0))).queue (suc (head - n))
    unfolding Roomy
    rest = opened.2

    whole : (cs : List ℕ) → settle [] (take n s) (slice (head + 1) tail s) cs ≡ record { counts = (settle [] (take n s) [] cs).counts; queue = slice (head + 1) tail s ++ (settle [] (take n s) [] cs).queue }
    whole cs = sym (rw (append-nil (slice (head + 1) tail s)) refl) ∙ settle-front cs [] (take n s) (slice (head + 1) tail s) []

    pub front-room : (cs : List ℕ) → kids (get_or s head 0) ≡ cs → tail + length (settle [] (take n s) [] cs).queue ≤ length s
    front-room cs e =
        let b = roomy-bound kids n (2 * n - (head + 1)) _ _ (suc (head - n)) (rw (e, whole cs) at rest) in
        omega (arith, length-append (slice (head + 1) tail s) (settle [] (take n s) [] cs).queue, length-slice (head + 1) tail s (omega arith))

    module _ (t : List ℕ) (x : ℕ) (s' : List ℕ) (end : ℕ) (q : x ≡ get_or s head 0) (e : kids x ≡ refs_at t x) (J : Joined t x n tail s s' end) (len : length s' ≡ length s) where
      -- the settled queue stands behind the listed cells
      settled : settle [] (take n s) (slice (head + 1) tail s) (kids x) ≡ record { counts = take n s'; queue = slice (head + 1) end s' }
      settled =
          let k : slice (head + 1) tail s' ≡ slice (head + 1) tail s = slice-same (head + 1) tail s s' (omega arith) (omega arith) (λ d a b. J.kept d (omega arith) b) in
          rw e (whole (refs_at t x) ∙ rw (J.settled, ← k, slice-join (head + 1) tail end s' (omega arith) J.from (omega arith)) refl)

      pub turn-room : Roomy kids n (2 * n - (head + 1)) (take n s') (slice (head + 1) end s') (head + 1 - n)
      turn-room =
          let z : head + 1 - n ≡ suc (head - n) = omega arith in
          let p : settle [] (take n s) (slice (head + 1) tail s) (kids (get_or s head 0)) ≡ record { counts = take n s'; queue = slice (head + 1) end s' } = rw q at settled in
          rw z (rw p at rest)

      pub turn_end : end ≤ 2 * n
      turn_end =
          let b = roomy-bound kids n (2 * n - (head + 1)) (take n s') (slice (head + 1) end s') (head + 1 - n) turn-room in
          let f = J.from in
          let w : end ≤ length s' = rw len J.within in
          omega (arith, length-slice (head + 1) end s' w)

      pub turn-list : (X : List ℕ) → slice n head s ++ run_counts kids (2 * n - head) (take n s) (slice head tail s) ≡ X
          → slice n (head + 1) s' ++ run_counts kids (2 * n - (head + 1)) (take n s') (slice (head + 1) end s') ≡ X
      turn-list X p =
          let k : slice n (head + 1) s' ≡ slice n (head + 1) s = slice-same n (head + 1) s s' (omega arith) (omega arith) (λ d a b. J.kept d a (omega arith)) in
          let w : slice n (head + 1) s ≡ slice n head s ++ x ∷ [] = rw q (slice_snoc n head s hn (omega arith)) in
          let p' : slice n head s ++ run_counts kids (suc (2 * n - (head + 1))) (take n s) (x ∷ slice (head + 1) tail s) ≡ X = rw q (rw (fuel, front) at p) in
          rw (k, w, append_assoc (slice n head s) (x ∷ []) (run_counts kids (2 * n - (head + 1)) (take n s') (slice (head + 1) end s'))) (sym (rw settled refl) ∙ p')

      -- the counts that the process leaves
      pub turn-ends : (X : List ℕ) → end_counts kids (2 * n - head) (take n s) (slice head tail s) ≡ X
          → end_counts kids (2 * n - (head + 1)) (take n s') (slice (head + 1) end s') ≡ X
      turn-ends X p =
          let p' : end_counts kids (suc (2 * n - (head + 1))) (take n s) (x ∷ slice (head + 1) tail s) ≡ X = rw q (rw (fuel, front) at p) in
          ap (λ (T : Settled). end_counts kids (2 * n - (head + 1)) T.counts T.queue) (sym settled) ∙ p'

-- the start: the root alone
module _ (kids : ℕ → List ℕ) (n root : ℕ) (s : List ℕ) (h : n < length s) where
  pub start-counts : take n (set s n root) ≡ take n s
  start-counts = take-set-le n s n root (omega arith)

  start-queue : slice n (n + 1) (set s n root) ≡ root ∷ []
  start-queue =
      let l : length (set s n root) ≡ length s = length-set s n root in
      slice_snoc n n (set s n root) (omega arith) (omega arith) ∙ rw (slice_empty n (set s n root), get_or-set_same s n root 0 h) refl

  start-fuel : 2 * n - n ≡ n
  start-fuel = omega arith

  pub start-list : slice n n (set s n root) ++ run_counts kids (2 * n - n) (take n (set s n root)) (slice n (n + 1) (set s n root)) ≡ run_counts kids n (take n (set s n root)) (root ∷ [])
  start-list = rw (start-queue, start-fuel, slice_empty n (set s n root)) refl

  pub start-ends : end_counts kids (2 * n - n) (take n (set s n root)) (slice n (n + 1) (set s n root)) ≡ end_counts kids n (take n (set s n root)) (root ∷ [])
  start-ends = rw (start-queue, start-fuel) refl

  pub start-room : Roomy kids n n (take n s) (root ∷ []) 0 → Roomy kids n (2 * n - n) (take n (set s n root)) (slice n (n + 1) (set s n root)) (n - n)
  start-room r = let z : n - n ≡ 0 = omega arith in rw (start-counts, start-queue, start-fuel, z) r

-- the end: nothing waits
pub end_list : (kids : ℕ → List ℕ) (n head tail k : ℕ) (s X : List ℕ) → tail ≤ head → head ≤ tail → slice n head s ++ run_counts kids k (take n s) (slice head tail s) ≡ X → slice n tail s ≡ X
end_list kids n head tail k s X h g p =
    let e : head ≡ tail = omega arith in
    let q : slice n tail s ++ run_counts kids k (take n s) (slice tail tail s) ≡ X = rw e at p in
    let w : slice n tail s ++ run_counts kids k (take n s) [] ≡ X = rw (slice_empty tail s) at q in
    sym (append-nil (slice n tail s)) ∙ go k w
  where
    go : (k : ℕ) → slice n tail s ++ run_counts kids k (take n s) [] ≡ X → slice n tail s ++ [] ≡ X
    go zero w = w
    go (suc k) w = w

pub end-ends : (kids : ℕ → List ℕ) (n head tail k : ℕ) (s X : List ℕ) → tail ≤ head → head ≤ tail
    → end_counts kids k (take n s) (slice head tail s) ≡ X → take n s ≡ X
end-ends kids n head tail k s X h g p =
    let e : head ≡ tail = omega arith in
    let q : end_counts kids k (take n s) (slice tail tail s) ≡ X = rw e at p in
    go k (rw (slice_empty tail s) at q)
  where
    go : (k : ℕ) → end_counts kids k (take n s) [] ≡ X → take n s ≡ X
    go zero w = w
    go (suc k) w = w

-- ---- the order

-- the counts after the pass from the root down
abbrev pub counted : List ℕ → ℕ → ℕ → List ℕ → List ℕ
counted t n root s = count_down (kids_at t n) root (bump [] s (kids_at t n root))

pub small-zeros : (m : ℕ) → Small 0 (replicate m 0)
small-zeros m d = go (ltb d m) refl
  where
    go : (b : Bool) → ltb d m ≡ b → get_or (replicate m 0) d 0 ≤ 0
    go true e = rw (get_or-replicate {A = ℕ} m d 0 0 (ltb-true d m e)) (omega arith)
    go false e = let h : length (replicate {A = ℕ} m 0) ≤ d = rw (length-replicate {A = ℕ} m 0) (ltb-false d m e) in rw (get_or-eq_default (replicate m 0) 0 h) (omega arith)

-- the references of one parent, counted from zeros
first-parent : (kids : ℕ → List ℕ) (root m d : ℕ) → d < length (bump [] (replicate m 0) (kids root)) → get_or (bump [] (replicate m 0) (kids root)) d 0 ≡ parents kids (root ∷ []) [] d
first-parent kids root m d h =
    let l : length (replicate {A = ℕ} m 0) ≡ m = length-replicate m 0 in
    let k : d < m = omega (arith, length-bump (kids root) [] (replicate m 0)) in
    bump_at (kids root) [] (replicate m 0) d (rw l k) ∙ rw (get_or-replicate {A = ℕ} m d 0 0 k) (go (memb d (kids root)))
  where
    go : (b : Bool) → 0 + cond b 1 0 ≡ cond (b && true) 1 0
    go true = refl
    go false = refl

module _ (t : List ℕ) (n root m : ℕ) (L : Linked t n) (h : root < n) (g : n ≤ m) where
  G : Graph (kids_at t n) (reached (kids_at t n) root) root
  G = graph (kids_at t n) root (λ p c r k. kids_below t n L p c k)

  counts-right : (length (counted t n root (replicate m 0)) ≡ m) × ((d : ℕ) → d < length (counted t n root (replicate m 0)) → get_or (counted t n root (replicate m 0)) d 0 ≡ parents (kids_at t n) (reached (kids_at t n) root) [] d)
  counts-right =
      let c₀ = bump [] (replicate m 0) (kids_at t n root) in
      let l₀ : length c₀ ≡ m = length-bump (kids_at t n root) [] (replicate m 0) ∙ length-replicate m 0 in
      let W = counted-down (kids_at t n) root (root ∷ []) c₀ (omega arith) (first-parent (kids_at t n) root m) in
      (W.0 ∙ l₀, W.1)

  pub counted-length : length (counted t n root (replicate m 0)) ≡ m
  counted-length = counts-right.0

  cut-length : length (take n (counted t n root (replicate m 0))) ≡ n
  cut-length = length-take-le n (counted t n root (replicate m 0)) (rw counted-length g)

  cut_right : (d : ℕ) → d < length (take n (counted t n root (replicate m 0))) → get_or (take n (counted t n root (replicate m 0))) d 0 ≡ parents (kids_at t n) (reached (kids_at t n) root) [] d
  cut_right d e =
      let k : d < n = rw cut-length at e in
      get_or-take n (counted t n root (replicate m 0)) d 0 k ∙ counts-right.1 d (omega (arith, counted-length))

  -- a number that is no cell's waits for none
  pub counted-behind : (d : ℕ) → n ≤ d → d < m → get_or (counted t n root (replicate m 0)) d 0 ≡ 0
  counted-behind d a b =
      let r = ready_of (kids_at t n) (reached (kids_at t n) root) [] d (λ p hp k. absurd (omega (arith, G.top p hp, kids_below t n L p d k))) in
      counts-right.1 d (rw counted-length b)
      ∙ eqb-true (parents (kids_at t n) (reached (kids_at t n) root) [] d) 0 (sym (ready-parents (kids_at t n) (reached (kids_at t n) root) [] d) ∙ r)

  right : Right (kids_at t n) (reached (kids_at t n) root) [] (take n (counted t n root (replicate m 0)))
  right = record { waits = cut_right; inside = λ c e. omega (arith, G.top c e, cut-length) }

  -- the counts in the scratch list what the order's definition lists
  run_is : (k : ℕ) → run_counts (kids_at t n) k (take n (counted t n root (replicate m 0))) (root ∷ []) ≡ run (kids_at t n) (reached (kids_at t n) root) k [] (root ∷ [])
  run_is k =
      let I = start-inv (kids_at t n) (reached (kids_at t n) root) root G in
      let once = nodup-reached (kids_at t n) root in
      run-counts (kids_at t n) (reached (kids_at t n) root) root G once k [] (root ∷ []) (take n (counted t n root (replicate m 0))) I right

  -- at the end no cell waits
  pub end-zero : (d : ℕ) → d < n → get_or (end_counts (kids_at t n) n (take n (counted t n root (replicate m 0))) (root ∷ [])) d 0 ≡ 0
  end-zero d b =
      let I = start-inv (kids_at t n) (reached (kids_at t n) root) root G in
      let c = take n (counted t n root (replicate m 0)) in
      let once = nodup-reached (kids_at t n) root in
      end-counts (kids_at t n) (reached (kids_at t n) root) root G once n n [] (root ∷ []) c h (omega arith) I right d (rw cut-length b)

  pub run-order : run_counts (kids_at t n) n (take n (counted t n root (replicate m 0))) (root ∷ []) ≡ order (kids_at t n) n root
  run-order = run_is n

  pub start-roomy : Roomy (kids_at t n) n n (take n (counted t n root (replicate m 0))) (root ∷ []) 0
  start-roomy =
      let I = start-inv (kids_at t n) (reached (kids_at t n) root) root G in
      roomy (kids_at t n) n n (take n (counted t n root (replicate m 0))) (root ∷ []) 0
      (λ j. rw (run_is j) (run_fits (kids_at t n) (reached (kids_at t n) root) root n G h j [] (root ∷ []) I))
      (λ j x k. omega (arith, G.top x (run_inside (kids_at t n) (reached (kids_at t n) root) root G j [] (root ∷ []) I x (rw (run_is j) at k))))

  good : Good (kids_at t n) (reached (kids_at t n) root) [] (order (kids_at t n) n root)
  good = kahn (kids_at t n) (reached (kids_at t n) root) root G n h

  pub order-once : Nodup (order (kids_at t n) n root)
  order-once = good.once

  pub order_below : (x : ℕ) → Mem x (order (kids_at t n) n root) → x < n
  order_below x k = omega (arith, G.top x (good.inside x k))

  -- with a cell its references are listed
  order-closed : (x c : ℕ) → Mem x (order (kids_at t n) n root) → Mem c (kids_at t n x) → Mem c (order (kids_at t n) n root)
  order-closed x c i k = out (good.complete c (G.closed x c (good.inside x i) k))
    where
      out : Mem c [] ⊎ Mem c (order (kids_at t n) n root) → Mem c (order (kids_at t n) n root)
      out (inl m) = absurd (Memᴰ.not-nil m)
      out (inr m) = m

-- ---- the four passes together

module _ (t : List ℕ) (n root m : ℕ) (L : Linked t n) (h : root < n) (g : 4 * n ≤ m) (s₁ : List ℕ) (e : s₁ ≡ counted t n root (replicate m 0)) where
  g₁ : n ≤ m
  g₁ = omega arith

  pub passes-room : Roomy (kids_at t n) n n (take n s₁) (root ∷ []) 0
  passes-room = rw e (start-roomy t n root m L h g₁)

  module _ (s₂ : List ℕ) (k : ℕ) (D : Listed t n root s₁ s₂ k) where
    pub passes-order : slice n (n + k) s₂ ≡ order (kids_at t n) n root
    passes-order = D.listed ∙ rw e (run-order t n root m L h g₁)

    pub passes-once : Nodup (slice n (n + k) s₂)
    passes-once = rw passes-order (order-once t n root m L h g₁)

    pub passes-below : (x : ℕ) → Mem x (slice n (n + k) s₂) → x < n
    passes-below x i = order_below t n root m L h g₁ x (rw passes-order at i)

    -- with a cell its references are listed
    passes-closed : (x c : ℕ) → Mem x (slice n (n + k) s₂) → Mem c (refs_at t x) → Mem c (slice n (n + k) s₂)
    passes-closed x c i r =
        rw passes-order (order-closed t n root m L h g₁ x c (rw passes-order at i) (rw (kids_refs t n x (passes-below x i)) r))

    passes-before : (d : ℕ) → d < n → get_or s₂ d 0 ≡ 0
    passes-before d a = sym (get_or-take n s₂ d 0 a) ∙ rw (D.counts, e) (end-zero t n root m L h g₁ d a)

    pub passes-ordered : (s₃ : List ℕ) → Placed n k s₂ s₃ → length s₂ ≡ m → length s₃ ≡ m → Ordered t n root s₃ k
    passes-ordered s₃ P l₂ l₃ =
        let w = D.within in
        let same : slice n (n + k) s₃ ≡ slice n (n + k) s₂ = slice-same n (n + k) s₂ s₃ (omega arith) (omega arith) (λ d a b. kept d (omega arith)) in
        record {
          within = w;
          listed = λ d. same ∙ passes-order ∙ sym (order_is t d n root);
          below = λ x i. passes-below x (rw same at i);
          place = λ x i. P.places x (rw same at i) ∙ rw same refl;
          places = λ x r i c. P.places r (passes-closed x r (rw same at i) c) ∙ rw same refl;
          before = λ d a. kept d (omega arith) ∙ passes-before d a;
          behind = λ d a b z. P.kept d (rw same at z) ∙ D.behind d a ∙ rw e (counted-behind t n root m L h g₁ d (omega arith) (omega arith));
        }
      where
        kept : (d : ℕ) → d < 2 * n → get_or s₃ d 0 ≡ get_or s₂ d 0
        kept d a = P.kept d (λ x i q. omega arith)
