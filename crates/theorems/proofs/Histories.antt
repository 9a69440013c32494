-- Demand 3 (docs/DEMANDS.md) holds of the memory after every history of calls. The words are in specs/Histories.
-- Assumes nothing.
use Rattle.std.proofs.Math.Path.{◌≡◌, refl, sym}
use Rattle.std.proofs.Common.{ap, ◌∙◌, subst, arith, length-append, take_at}
use Rattle.std.specs.Prelude.{ℕ, ◌-◌, ◌*◌, ◌/◌, ◌≤◌, ◌<◌, Bool, true, false, take, drop, replicate, leb, ltb, Ok, Err}
use mathlib.Core.List.{List, [], ◌∷◌, Memᴰ as Mem}
use Rattle.std.proofs.Math.ListN.{length, length-replicate}
use borrow.Author.Tests.{ltb-true}
use Rattle.scheme.specs.Refusals.{STORE, SCRATCH, NOCELL}
use Rattle.scheme.specs.Res.{Res, then, check, refusal}
use Rattle.scheme.specs.Cells.{Cell, at, tree}
use Rattle.scheme.specs.Memory.{cells_of, sized, sound, held, rows, lay_table, lay_bytes}
use Rattle.scheme.specs.Builder.{Builder}
use Rattle.scheme.specs.Add.{Added, add}
use Rattle.scheme.specs.Bag.{Got, read}
use Rattle.scheme.specs.Order.{order_of}
use Rattle.scheme.specs.Write.{write, serialized}
use Rattle.scheme.specs.Calls.{ReadOut, WriteOut, onto, clear_out, clearing, add_out, adding, read_out, reading, lent, write_out, writing}
use Rattle.laws.specs.Accept.{then_use, check_inv}
use Rattle.laws.specs.Kept.{Kept, kept-nil, write-inv, Op, clears, adds, reads, TypedOp, added_store, got_store}
use Rattle.laws.proofs.Kept.{kept-after}
use Rattle.laws.specs.Kept as lists
use Rattle.laws.specs.Reach.{listing}
use Rattle.laws.proofs.WrittenBack.{written-reads-back}
use Rattle.laws.proofs.Unique.{unique}
use Rattle.laws.specs.Wf.{Wf}
use Rattle.laws.specs.RoundLaws.{cells-back, rows-length}
use Rattle.laws.specs.Tests.{and_left}
use Rattle.laws.specs.Lay.{sound-lay}
use Rattle.laws.specs.Records.{sized-is}
use Rattle.theorems.specs.MeaningLaws.{fit-wf}
use Rattle.theorems.specs.Writing.{Writes}
use Rattle.theorems.proofs.Writing.{writes}
use Rattle.theorems.specs.Histories.{Memory, Call, clear, add-cell, read-bag, left, left_read, after, TypedCall, Reached, cleared, called, found, Demand3}

-- ---- memory as a function of its cells

abbrev lay : ℕ → List Cell → Memory
lay cap s = record { count = length s; table = lay_table cap s; bytes = lay_bytes cap s }

wf-kept : (cap : ℕ) (s : List Cell) → Kept cap s → Wf s
wf-kept cap s K = record { each = λ i h. fit-wf i (at s i) (K.fit i h) (K.sound.low i h) }

-- the front of an output that was written to
front : (xs out y : List ℕ) (len : ℕ) → y ≡ onto xs out → len ≡ length xs → take len y ≡ xs
front xs out y len e n = rw (e, n) (take_at xs (drop (length xs) out) (length xs) refl)

abbrev op_of : Call → Op
op_of clear = clears
op_of (add-cell b) = adds b
op_of (read-bag whole scratch roots reply) = reads whole (length scratch) (length roots) reply

typed-op : (c : Call) → TypedCall c → TypedOp (op_of c)
typed-op clear t = tt
typed-op (add-cell b) t = t
typed-op (read-bag whole scratch roots reply) t = t

module _ (cap : ℕ) (few : cap ≤ 4096) (s : List Cell) (K : Kept cap s) where
  abbrev T : List ℕ
  T = lay_table cap s

  abbrev D : List ℕ
  D = lay_bytes cap s

  sound-here : sound (length s) T D ≡ true
  sound-here = sound-lay cap s (wf-kept cap s K) K.room few

  cells-here : cells_of (length s) T D ≡ s
  cells-here = cells-back cap s (wf-kept cap s K)

  held-here : held (length s) T D ≡ Ok s
  unfolding held
  held-here = rw (sound-here, cells-here)

  sized-here : sized T D ≡ true
  unfolding sound
  sized-here = and_left (sized T D) _ sound-here

  capacity-here : length T / 7 ≡ cap
  unfolding lay_table
  capacity-here =
      let h = K.room in
      rw (length-append (rows [] s) (replicate ((cap - length s) * 7) 0), rows-length [] s, length-replicate {A = ℕ} ((cap - length s) * 7) 0) (omega arith)

  -- a call's outcome is the memory of the cells that its rule says
  clear_step : after (lay cap s) clear ≡ lay cap []
  unfolding clearing
  clear_step = rw (sized-here, capacity-here)

  add-out : (r : Res Added) → left (add_out (length s) T D r) ≡ lay cap (added_store s r)
  add-out (Err r) = refl
  add-out (Ok a) = rw capacity-here

  add_step : (b : Builder) → after (lay cap s) (add-cell b) ≡ lay cap (added_store s (add cap s b))
  unfolding adding
  add_step b = rw (held-here, capacity-here) (add-out (add cap s b))

  read_out_lem : (scratch roots : List ℕ) (r : Res Got) → left_read (read_out (length s) T D scratch roots r) ≡ lay cap (got_store s r)
  read_out_lem scratch roots (Err r) = refl
  read_out_lem scratch roots (Ok g) = rw capacity-here

  read_step : (whole : Bool) (scratch roots reply : List ℕ) → after (lay cap s) (read-bag whole scratch roots reply) ≡ lay cap (got_store s (read whole (length scratch) (length roots) cap s reply))
  unfolding reading
  read_step whole scratch roots reply = rw (held-here, capacity-here) (read_out_lem scratch roots (read whole (length scratch) (length roots) cap s reply))

  step : (c : Call) → after (lay cap s) c ≡ lay cap (lists.after cap s (op_of c))
  step clear = clear_step
  step (add-cell b) = add_step b
  step (read-bag whole scratch roots reply) = read_step whole scratch roots reply

  -- the cells that a call works on are those held, and the cell that it names is one of them
  named : (k root scratch : ℕ) (s' : List Cell) → lent k (length s) T D root scratch ≡ Ok s' → (s ≡ s') × (root < length s)
  unfolding lent
  named k root scratch s' e =
      then_use (held (length s) T D) _ _ e λ s₁ x₁ e₁.
      let q : s ≡ s₁ = let z = sym held-here ∙ x₁ in cc in
      then_use (check (ltb root (length s₁)) (refusal NOCELL 0)) _ _ e₁ λ u₂ x₂ e₂.
      then_use (check (leb (k * length s₁) scratch) (refusal SCRATCH (k * length s₁))) _ _ e₂ λ u₃ x₃ e₃.
      let h = ltb-true root (length s₁) (check_inv (ltb root (length s₁)) (refusal NOCELL 0) u₂ x₂) in
      let z : s₁ ≡ s' = cc in
      (q ∙ z, rw q h)

  module _ (root : ℕ) (idx crc : Bool) (scratch out : List ℕ) where
    abbrev W : WriteOut ℕ
    W = writing idx crc (length s) T D root scratch out

    abbrev R : Res (List ℕ)
    R = then (lent 4 (length s) T D root (length scratch)) λ s. serialized idx crc s root (length out)

    -- what a write that is not refused leaves in the output's front
    wrote : (len : ℕ) → W.answer ≡ Ok len → (xs : List ℕ) × (serialized idx crc s root (length out) ≡ Ok xs) × (root < length s) × (len ≡ length xs) × (W.out ≡ onto xs out)
    unfolding writing
    wrote len e = go R refl e
      where
        go : (r : Res (List ℕ)) → R ≡ r → (write_out scratch out r).answer ≡ Ok len
            → (xs : List ℕ) × (serialized idx crc s root (length out) ≡ Ok xs) × (root < length s) × (len ≡ length xs) × ((write_out scratch out R).out ≡ onto xs out)
        go (Err r) q e = let z : ◌≡◌ {A = ℕ} 0 1 = cc in absurd (omega arith)
        go (Ok xs) q e =
            then_use (lent 4 (length s) T D root (length scratch)) _ _ q λ s₁ x₁ e₁.
            let n = named 4 root (length scratch) s₁ x₁ in
            let z : length xs ≡ len = cc in
            (xs, rw n.0 e₁, n.1, sym z, rw q)

    bag-here : (len : ℕ) → W.answer ≡ Ok len → Writes idx crc s root (take len W.out)
    bag-here len e =
        let w = wrote len e in
        let q : take len W.out ≡ write idx crc s root = front w.0 out W.out len w.4 w.3 ∙ write-inv (length out) idx crc s root w.0 w.1 in
        let n = K.room in
        rw q (writes idx crc s root K.sound.low K.fit (omega arith) w.2)

    module _ (whole : Bool) (scratch' roots : List ℕ) (hx : 2 * length (order_of s root) ≤ length scratch') (hy : 1 ≤ length roots) where
      abbrev again : List ℕ → ReadOut
      again xs = reading whole (length s) T D scratch' roots xs

      abbrev found_here : ℕ → ReadOut
      found_here used = found (lay cap s) used (length (order_of s root)) root scratch' roots

      read_here : (xs : List ℕ) → serialized idx crc s root (length out) ≡ Ok xs → root < length s → again xs ≡ found_here (length xs)
      unfolding reading
      read_here xs e h =
          let r : read whole (length scratch') (length roots) cap s xs ≡ Ok (record { counts = record { used = length xs; cells = length (order_of s root); roots = 1; added = 0 }; names = root ∷ []; store = s }) =
          rw (write-inv (length out) idx crc s root xs e) (written-reads-back whole (length scratch') (length roots) cap idx crc s K.sound K.fit root h K.room few hx hy) in
          rw (held-here, capacity-here, r, capacity-here)

      back-here : (len : ℕ) → W.answer ≡ Ok len → again (take len W.out) ≡ found_here len
      back-here len e =
          let w = wrote len e in
          ap again (front w.0 out W.out len w.4 w.3) ∙ read_here w.0 w.1 w.2 ∙ ap found_here (sym w.3)

  demand_here : Demand3 (lay cap s)
  demand_here = record {
    sound-store = sound-here;
    lower = λ i r h m. K.sound.low i h r (subst (λ (l : List Cell). Mem r (at l i).refs) cells-here m);
    same = λ i j h g. rw cells-here (λ e. ap (tree s) e, unique s K.sound i j h g);
    lists = λ root h. rw cells-here (listing s K.sound.low root h);
    bag = λ root idx crc scratch out len e. rw cells-here (bag-here root idx crc scratch out len e);
    back = λ root idx crc scratch out len e whole scratch' roots hx hy. rw cells-here (back-here root idx crc scratch out whole scratch' roots (rw cells-here at hx) hy len e);
  }

-- ---- every history

pub record Kept-memory (m : Memory) : Type 0 where
  pub cap : ℕ
  pub few : cap ≤ 4096
  pub store : List Cell
  pub kept : Kept cap store
  pub is : m ≡ lay cap store

cleared-kept : (m : Memory) → (clearing m.count m.table m.bytes).answer ≡ Ok tt → Kept-memory (after m clear)
unfolding clearing
cleared-kept m e = go (sized m.table m.bytes) refl e
  where
    go : (b : Bool) → sized m.table m.bytes ≡ b → (clear_out m.count m.table m.bytes (check b (refusal STORE 0))).answer ≡ Ok tt → Kept-memory (after m clear)
    go false q e = let z : ◌≡◌ {A = ℕ} 0 1 = cc in absurd (omega arith)
    go true q e = record {
      cap = length m.table / 7;
      few = (sized-is m.table m.bytes q).few;
      store = [];
      kept = kept-nil (length m.table / 7);
      is = rw q;
    }

reached-kept : (m : Memory) → Reached after m → Kept-memory m
reached-kept m (cleared m₀ e) = cleared-kept m₀ e
reached-kept m (called m₀ c r t) =
    let k = reached-kept m₀ r in
    record {
      cap = k.cap;
      few = k.few;
      store = lists.after k.cap k.store (op_of c);
      kept = kept-after k.cap k.store (op_of c) k.kept (typed-op c t);
      is = ap (λ (x : Memory). after x c) k.is ∙ step k.cap k.few k.store k.kept c;
    }

-- demand 3
pub demand_3 : (m : Memory) → Reached after m → Demand3 m
demand_3 m r = let k = reached-kept m r in subst Demand3 (sym k.is) (demand_here k.cap k.few k.store k.kept)
