-- One step of the passes that make the order. Assumes nothing.
use mathlib.Core.Path.{◌≡◌, refl, sym, ap, ◌∙◌}
use mathlib.Core.Bool.{Bool, true, false, cond, ◌||◌}
use mathlib.Core.List.{List, [], ◌∷◌, ◌++◌, append_assoc}
use Prim.Native.Nat.{ℕ, zero, suc, ◌+◌, ◌-◌, ◌*◌, ◌<◌, ◌≤◌}
use native.Mathlib.Nat.{not-suc-le-zero, zero-add}
use native.Mathlib.Numerals.{add-one}
use native.Mathlib.Omega.{arith}
use lib.ListN.{length, take, drop, get_or, set, length-append, length-set}
use lib.Seq.{slice, length-slice, length-take-le, get_or-take, get_or-set_same, get_or-set_other, set_out, take-set-le, take-set-lt, drop-set-lt, take-suc-set, drop-append-le}
use lib.Dec.{eqb, ltb}
use borrow.Author.Tests.{eq-eqb, ne_eqb, eqb-true, eqb-false, ltb-true, ltb-false}
use Rattle.std.specs.Prelude.{MatchBool, HoldsAt}
use Rattle.std.specs.List.{range_with_len, AllWithin}
use Rattle.std.proofs.Math.Bool.{or-true}
use Rattle.std.proofs.lemmas.List.FromFn.{length-range_with_len, get_or-range_with_len}
use Rattle.scheme.specs.Order.{memb}
use Rattle.laws.specs.Counts.{Settled, settle, bump, count_down}
use Rattle.laws.specs.Records.{refs_at, RecordOk, refs-cons}
use Rattle.order.specs.Queue.{kids_at, seen_at, Small, less, last, wait_mem, wait_end}
use Rattle.order.proofs.Kids.{kids_refs}

-- ---- the references seen

pub seen_next : (t : List ℕ) (i j : ℕ) → seen_at t i (j + 1) ≡ get_or t (i * 7 + (3 + j)) 0 ∷ seen_at t i j
unfolding seen_at
seen_next t i j = rw (add-one j) refl

module _ (t : List ℕ) (i x : ℕ) where
  -- reference k is x
  abbrev pub Hit : ℕ → Type 0
  Hit k = get_or t (i * 7 + (3 + k)) 0 ≡ x

  seen-hit : (j k : ℕ) → k < j → Hit k → memb x (seen_at t i j) ≡ true
  unfolding seen_at
  seen-hit zero k h e = absurd (omega arith)
  seen-hit (suc j) k h e = go (eqb k j) refl (λ l. seen-hit j k l e)
    where
      go : (b : Bool) → eqb k j ≡ b → (k < j → memb x (seen_at t i j) ≡ true) → eqb x (get_or t (i * 7 + (3 + j)) 0) || memb x (seen_at t i j) ≡ true
      go true q f = rw (eq-eqb x _ (sym (rw (eqb-true k j q) at e)))
      go false q f = let o = eqb-false k j q in rw (f (omega arith), or-true)

  seen-miss : (j : ℕ) → ((k : ℕ) → k < j → Hit k → ⊥) → memb x (seen_at t i j) ≡ false
  unfolding seen_at
  seen-miss zero f = refl
  seen-miss (suc j) f = rw (ne_eqb x _ (λ e. f j (omega arith) (sym e)), seen-miss j (λ k h. f k (omega arith)))

  -- the search through the first j references answers whether x is among them
  pub named-is : (j : ℕ) (r : Bool) → MatchBool r ((k : ℕ) × (k < length (range_with_len 0 j)) × HoldsAt Hit (range_with_len 0 j) k) (AllWithin (λ k. Hit k → ⊥) (range_with_len 0 j) 0 (length (range_with_len 0 j))) → r ≡ memb x (seen_at t i j)
  named-is j true (k, h, e) =
      let g : k < j = rw length-range_with_len at h in
      sym (seen-hit j k g (rw (get_or-range_with_len 0 j k 0 g, zero-add) at (e 0)))
  named-is j false f =
      sym (seen-miss j (λ k h. rw (get_or-range_with_len 0 j k 0 h, zero-add) at (f k 0 (omega arith) (rw length-range_with_len h))))

-- ---- one parent more

bump-new : (seen s : List ℕ) (c : ℕ) (cs : List ℕ) → memb c seen ≡ false → bump seen s (c ∷ cs) ≡ bump (c ∷ seen) (set s c (get_or s c 0 + 1)) cs
bump-new seen s c cs e = rw e

bump-old : (seen s : List ℕ) (c : ℕ) (cs : List ℕ) → memb c seen ≡ true → bump seen s (c ∷ cs) ≡ bump (c ∷ seen) s cs
bump-old seen s c cs e = rw e

pub small-more : (k : ℕ) (s : List ℕ) (c : ℕ) → Small k s → Small (k + 1) (set s c (get_or s c 0 + 1))
small-more k s c S d = go (ltb c (length s)) refl (eqb d c) refl
  where
    go : (b : Bool) → ltb c (length s) ≡ b → (a : Bool) → eqb d c ≡ a → get_or (set s c (get_or s c 0 + 1)) d 0 ≤ k + 1
    go false e a q = rw (set_out s c (get_or s c 0 + 1) (ltb-false c (length s) e)) (omega (arith, S d))
    go true e true q = let p = eqb-true d c q in rw (p, get_or-set_same s c (get_or s c 0 + 1) 0 (ltb-true c (length s) e)) (omega (arith, S c))
    go true e false q = rw (get_or-set_other s c d (get_or s c 0 + 1) 0 (eqb-false d c q)) (omega (arith, S d))

pub small-bump : (cs seen : List ℕ) (k : ℕ) (s : List ℕ) → Small k s → Small (k + length cs) (bump seen s cs)
small-bump [] seen k s S d = omega (arith, S d)
small-bump (c ∷ cs) seen k s S d = omega (arith, small-bump cs (c ∷ seen) (k + 1) (cond (memb c seen) s (set s c (get_or s c 0 + 1))) (go (memb c seen)) d)
  where
    go : (b : Bool) → Small (k + 1) (cond b s (set s c (get_or s c 0 + 1)))
    go true = λ d. omega (arith, S d)
    go false = small-more k s c S

module _ (t : List ℕ) (i j r : ℕ) (ok : RecordOk t i) (h : j < get_or t (i * 7 + 2) 0) (q : r ≡ get_or t (i * 7 + (3 + j)) 0) where
  pub bump-turn-new : (s X : List ℕ) → false ≡ memb r (seen_at t i j) → bump (seen_at t i j) s (drop j (refs_at t i)) ≡ X → bump (seen_at t i (j + 1)) (set s r (get_or s r 0 + 1)) (drop (j + 1) (refs_at t i)) ≡ X
  bump-turn-new s X e p = rw (seen_next t i j, ← q) (sym (bump-new (seen_at t i j) s r (drop (j + 1) (refs_at t i)) (sym e)) ∙ rw (refs-cons t i j ok h, ← q) at p)

  pub bump-turn-old : (s X : List ℕ) → true ≡ memb r (seen_at t i j) → bump (seen_at t i j) s (drop j (refs_at t i)) ≡ X → bump (seen_at t i (j + 1)) s (drop (j + 1) (refs_at t i)) ≡ X
  bump-turn-old s X e p = rw (seen_next t i j, ← q) (sym (bump-old (seen_at t i j) s r (drop (j + 1) (refs_at t i)) (sym e)) ∙ rw (refs-cons t i j ok h, ← q) at p)

-- ---- from the root down

module _ (t : List ℕ) (n i : ℕ) (h : 0 < i) (g : i < n) (s X : List ℕ) where
  down_step : count_down (kids_at t n) i s ≡ count_down (kids_at t n) (i - 1) (cond (eqb (get_or s (i - 1) 0) 0) s (bump [] s (kids_at t n (i - 1))))
  down_step = go i h
    where
      go : (i : ℕ) → 0 < i → count_down (kids_at t n) i s ≡ count_down (kids_at t n) (i - 1) (cond (eqb (get_or s (i - 1) 0) 0) s (bump [] s (kids_at t n (i - 1))))
      go zero h = absurd (not-suc-le-zero h)
      go (suc i) h = let e : suc i - 1 ≡ i = omega arith in rw e refl

  pub down-skip : get_or s (i - 1) 0 ≡ 0 → count_down (kids_at t n) i s ≡ X → count_down (kids_at t n) (i - 1) s ≡ X
  down-skip e p = sym (down_step ∙ rw (eq-eqb (get_or s (i - 1) 0) 0 e)) ∙ p

  pub down-count : (s' : List ℕ) → (get_or s (i - 1) 0 ≡ 0 → ⊥) → s' ≡ bump [] s (refs_at t (i - 1)) → count_down (kids_at t n) i s ≡ X → count_down (kids_at t n) (i - 1) s' ≡ X
  down-count s' e q p =
      let l : i - 1 < n = omega arith in
      rw q (sym (down_step ∙ rw (ne_eqb (get_or s (i - 1) 0) 0 e, kids_refs t n (i - 1) l)) ∙ p)

-- ---- one parent less

settle-new : (seen s q : List ℕ) (c : ℕ) (cs : List ℕ) → memb c seen ≡ false → settle seen s q (c ∷ cs) ≡ settle (c ∷ seen) (less s c) (cond (last s c) (q ++ c ∷ []) q) cs
settle-new seen s q c cs e = rw e

settle-old : (seen s q : List ℕ) (c : ℕ) (cs : List ℕ) → memb c seen ≡ true → settle seen s q (c ∷ cs) ≡ settle (c ∷ seen) s q cs
settle-old seen s q c cs e = rw e

-- the queue only grows
pub settle-long : (cs seen s q : List ℕ) → length q ≤ length (settle seen s q cs).queue
settle-long [] seen s q = omega arith
settle-long (c ∷ cs) seen s q =
    let ih = settle-long cs (c ∷ seen) (cond (memb c seen) s (less s c)) (cond (memb c seen) q (cond (last s c) (q ++ c ∷ []) q)) in
    omega (arith, go (memb c seen) (last s c))
  where
    go : (a b : Bool) → length q ≤ length (cond a q (cond b (q ++ c ∷ []) q))
    go true b = omega arith
    go false true = simp length-append (omega arith)
    go false false = omega arith

-- what stands in the queue stays at its front
pub settle-front : (cs seen s p q : List ℕ) → settle seen s (p ++ q) cs ≡ record { counts = (settle seen s q cs).counts; queue = p ++ (settle seen s q cs).queue }
settle-front [] seen s p q = refl
settle-front (c ∷ cs) seen s p q = rw (go (memb c seen) (last s c)) (settle-front cs (c ∷ seen) (cond (memb c seen) s (less s c)) p (cond (memb c seen) q (cond (last s c) (q ++ c ∷ []) q)))
  where
    go : (a b : Bool) → cond a (p ++ q) (cond b ((p ++ q) ++ c ∷ []) (p ++ q)) ≡ p ++ cond a q (cond b (q ++ c ∷ []) q)
    go true b = refl
    go false true = append_assoc p q (c ∷ [])
    go false false = refl

module _ (s : List ℕ) (r n tail end : ℕ) (hr : r < n) (hn : n ≤ tail) (ht : tail ≤ end) (he : end ≤ length s) where
  same_count : get_or (take n s) r 0 ≡ get_or s r 0
  same_count = get_or-take n s r 0 hr

  same-last : last (take n s) r ≡ last s r
  same-last = rw same_count

  -- a reference at its first place
  wait_counts : take n (wait_mem s r end) ≡ less (take n s) r
  unfolding wait_mem
  wait_counts = go (last s r) ∙ rw same_count refl
    where
      low : take n (less s r) ≡ set (take n s) r (get_or s r 0 - 1)
      low = take-set-lt n s r (get_or s r 0 - 1) hr

      go : (b : Bool) → take n (cond b (set (less s r) end r) (less s r)) ≡ set (take n s) r (get_or s r 0 - 1)
      go true = take-set-le n (less s r) end r (omega arith) ∙ low
      go false = low

  wait_queue : wait_end s r end ≤ length s → slice tail (wait_end s r end) (wait_mem s r end) ≡ cond (last s r) (slice tail end s ++ r ∷ []) (slice tail end s)
  unfolding wait_mem wait_end
  wait_queue = go (last s r)
    where
      low : slice tail end (less s r) ≡ slice tail end s
      low = rw (take-set-lt end s r (get_or s r 0 - 1) (omega arith)) (drop-set-lt tail (take end s) r (get_or s r 0 - 1) (omega arith))

      go : (b : Bool) → cond b (end + 1) end ≤ length s → slice tail (cond b (end + 1) end) (cond b (set (less s r) end r) (less s r)) ≡ cond b (slice tail end s ++ r ∷ []) (slice tail end s)
      go true l =
          let k : end < length (less s r) = omega (arith, length-set s r (get_or s r 0 - 1)) in
          let m : tail ≤ length (take end (less s r)) = rw (length-take-le end (less s r) (omega arith)) ht in
          rw (add-one end, take-suc-set (less s r) end r k, drop-append-le tail (take end (less s r)) (r ∷ []) m) (ap (λ l. l ++ r ∷ []) low)
      go false l = low

  pub wait_turn : (seen cs : List ℕ) → false ≡ memb r seen → wait_end s r end ≤ length s
      → settle seen (take n s) (slice tail end s) (r ∷ cs) ≡ settle (r ∷ seen) (take n (wait_mem s r end)) (slice tail (wait_end s r end) (wait_mem s r end)) cs
  wait_turn seen cs e l = settle-new seen (take n s) (slice tail end s) r cs (sym e) ∙ rw (same-last, wait_counts, wait_queue l) refl

  pub wait_room : (seen cs : List ℕ) (X : Settled) → false ≡ memb r seen → settle seen (take n s) (slice tail end s) (r ∷ cs) ≡ X → tail + length X.queue ≤ length s → wait_end s r end ≤ length s
  unfolding wait_end
  wait_room seen cs X e p h = go (last s r) (ap (λ (T : Settled). length T.queue) (sym step ∙ p))
    where
      step : settle seen (take n s) (slice tail end s) (r ∷ cs) ≡ settle (r ∷ seen) (less (take n s) r) (cond (last s r) (slice tail end s ++ r ∷ []) (slice tail end s)) cs
      step = settle-new seen (take n s) (slice tail end s) r cs (sym e) ∙ rw same-last refl

      go : (b : Bool) → length (settle (r ∷ seen) (less (take n s) r) (cond b (slice tail end s ++ r ∷ []) (slice tail end s)) cs).queue ≡ length X.queue → cond b (end + 1) end ≤ length s
      go true p = omega (arith, settle-long cs (r ∷ seen) (less (take n s) r) (slice tail end s ++ r ∷ []), length-append (slice tail end s) (r ∷ []), length-slice tail end s he)
      go false p = he

  less-kept : (d : ℕ) → n ≤ d → get_or (less s r) d 0 ≡ get_or s d 0
  less-kept d a = get_or-set_other s r d (get_or s r 0 - 1) 0 (λ e. omega arith)

  pub wait_kept : (d : ℕ) → n ≤ d → d < tail → get_or (wait_mem s r end) d 0 ≡ get_or s d 0
  unfolding wait_mem
  wait_kept d a b = go (last s r)
    where
      go : (b : Bool) → get_or (cond b (set (less s r) end r) (less s r)) d 0 ≡ get_or s d 0
      go true = get_or-set_other (less s r) end d r 0 (λ e. omega arith) ∙ less-kept d a
      go false = less-kept d a

  pub wait_behind : (d : ℕ) → wait_end s r end ≤ d → get_or (wait_mem s r end) d 0 ≡ get_or s d 0
  unfolding wait_mem wait_end
  wait_behind d = go (last s r)
    where
      go : (b : Bool) → cond b (end + 1) end ≤ d → get_or (cond b (set (less s r) end r) (less s r)) d 0 ≡ get_or s d 0
      go true a = get_or-set_other (less s r) end d r 0 (λ e. omega arith) ∙ less-kept d (omega arith)
      go false a = less-kept d (omega arith)

pub wait_from : (s : List ℕ) (r end : ℕ) → end ≤ wait_end s r end
unfolding wait_end
wait_from s r end = go (last s r)
  where
    go : (b : Bool) → end ≤ cond b (end + 1) end
    go true = omega arith
    go false = omega arith

-- a turn of `settle`
module _ (t : List ℕ) (i j r : ℕ) (ok : RecordOk t i) (h : j < get_or t (i * 7 + 2) 0) (q : r ≡ get_or t (i * 7 + (3 + j)) 0) (s : List ℕ) (n tail end : ℕ) (hr : r < n) (hn : n ≤ tail) (ht : tail ≤ end) (he : end ≤ length s) (X : Settled) (p : settle (seen_at t i j) (take n s) (slice tail end s) (drop j (refs_at t i)) ≡ X) where
  at-r : settle (seen_at t i j) (take n s) (slice tail end s) (r ∷ drop (j + 1) (refs_at t i)) ≡ X
  at-r = rw (refs-cons t i j ok h, ← q) at p

  pub settle-turn-room : false ≡ memb r (seen_at t i j) → tail + length X.queue ≤ length s → wait_end s r end ≤ length s
  settle-turn-room e l = wait_room s r n tail end hr hn ht he (seen_at t i j) (drop (j + 1) (refs_at t i)) X e at-r l

  pub settle-turn-new : false ≡ memb r (seen_at t i j) → wait_end s r end ≤ length s
      → settle (seen_at t i (j + 1)) (take n (wait_mem s r end)) (slice tail (wait_end s r end) (wait_mem s r end)) (drop (j + 1) (refs_at t i)) ≡ X
  settle-turn-new e l = rw (seen_next t i j, ← q) (sym (wait_turn s r n tail end hr hn ht he (seen_at t i j) (drop (j + 1) (refs_at t i)) e l) ∙ at-r)

  pub settle-turn-old : true ≡ memb r (seen_at t i j) → settle (seen_at t i (j + 1)) (take n s) (slice tail end s) (drop (j + 1) (refs_at t i)) ≡ X
  settle-turn-old e = rw (seen_next t i j, ← q) (sym (settle-old (seen_at t i j) (take n s) (slice tail end s) r (drop (j + 1) (refs_at t i)) (sym e)) ∙ at-r)
