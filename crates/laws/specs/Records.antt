-- What the test of a sound store says of each record, and the records of the table one by one. Assumes nothing.
use Rattle.std.specs.Prelude.{◌≡◌, refl, Bool, ◌&&◌, List, [], ◌∷◌, ℕ, zero, suc, ◌+◌, ◌-◌, ◌*◌, ◌/◌, ◌%◌, ◌^◌, ◌<◌, ◌≤◌, length, take, drop, eqb, leb}
use Rattle.std.proofs.Common.{◌∙◌, ⊎_elim, not-suc-le-zero, le_of_suc-le-suc, eq-or-lt_of_le, add-one, arith, length-append, length-take, length-drop, drop-cons, leb-true, eqb-true, ltb-true, lt-ltb}
use Rattle.std.proofs.Math.Bool.{true}
use Rattle.std.proofs.Math.Nat.{add_assoc}
use Rattle.std.proofs.Math.ListN.{get_or, get_or-append}
use Rattle.std.proofs.Math.Seq.{get_or-take, get_or-drop}
use Rattle.std.proofs.lemmas.List.{get_or_at}
use Rattle.std.proofs.Math.Dec.{ltb}
use Rattle.scheme.specs.Cells.{blank, at}
use Rattle.scheme.specs.Memory.{cell_at, cells_of, all_below, all_zero, sound_ref, tail_zero, sound_cell, sized, sound}
use Rattle.laws.specs.Tests.{and_left, and_right}
use Rattle.laws.specs.Lists.{drop_all}

-- the references of record i
unfoldable pub refs_at : List ℕ → ℕ → List ℕ
refs_at t i = take (get_or t (i * 7 + 2) 0) (drop (i * 7 + 3) t)

-- record i of the table is whole and keeps to the limits, and its references are below i
pub record RecordOk (t : List ℕ) (i : ℕ) : Type 0 where
  pub room : i * 7 + 7 ≤ length t
  pub flag : get_or t (i * 7) 0 ≤ 1
  pub bits : get_or t (i * 7 + 1) 0 ≤ 1023
  pub few : get_or t (i * 7 + 2) 0 ≤ 4
  pub back : (j : ℕ) → j < get_or t (i * 7 + 2) 0 → get_or t (i * 7 + (3 + j)) 0 < i

abbrev pub Linked : List ℕ → ℕ → Type 0
Linked t n = (i : ℕ) → i < n → RecordOk t i

-- the bits that a last byte of len bits does not use are a multiple of this when they are 0; 1 where the byte is full
abbrev pub unused_in : ℕ → ℕ
unused_in len = 2 ^ ((8 - len % 8) % 8)

-- so does its data, with no bit set past the length in the byte that the length ends in
pub record CellOk (t d : List ℕ) (i : ℕ) : Type 0 where
  pub ok : RecordOk t i
  pub bytes : i * 128 + 128 ≤ length d
  pub tail : get_or d (i * 128 + get_or t (i * 7 + 1) 0 / 8) 0 % unused_in (get_or t (i * 7 + 1) 0) ≡ 0

abbrev pub CellsOk : List ℕ → List ℕ → ℕ → Type 0
CellsOk t d n = (i : ℕ) → i < n → CellOk t d i

pub all-at : (p : ℕ → Bool) (n k : ℕ) → all_below n p ≡ true → k < n → p k ≡ true
unfolding all_below
all-at p zero k e h = absurd (not-suc-le-zero h)
all-at p (suc n) k e h =
    ⊎_elim
    (λ q. rw q (and_right (all_below n p) (p n) e))
    (λ l. all-at p n k (and_left (all_below n p) (p n) e) l)
    (eq-or-lt_of_le (le_of_suc-le-suc h))

-- the lengths that a store has
pub record Sized (t d : List ℕ) : Type 0 where
  pub whole : length t % 7 ≡ 0
  pub few : length t / 7 ≤ 4096
  pub bytes : length d ≡ length t / 7 * 128

pub sized-is : (t d : List ℕ) → sized t d ≡ true → Sized t d
unfolding sized
sized-is t d e =
    let a = eqb (length t % 7) 0 in
    let b = leb (length t / 7) 4096 in
    let c = eqb (length d) (length t / 7 * 128) in
    let r = and_right a (b && c) e in
    record { whole = eqb-true _ _ (and_left a (b && c) e); few = leb-true _ _ (and_left b c r); bytes = eqb-true _ _ (and_right b c r) }

-- what the tests of one record say
pub record CellSound (t d : List ℕ) (i : ℕ) : Type 0 where
  pub flag : get_or t (i * 7) 0 ≤ 1
  pub bits : get_or t (i * 7 + 1) 0 ≤ 1023
  pub count : get_or t (i * 7 + 2) 0 ≤ 4
  pub refs : (k : ℕ) → k < 4 → sound_ref t i k ≡ true
  pub tail : tail_zero (get_or t (i * 7 + 1) 0) (take 128 (drop (i * 128) d)) ≡ true

pub cell-is : (t d : List ℕ) (i : ℕ) → sound_cell t d i ≡ true → CellSound t d i
unfolding sound_cell
cell-is t d i e =
    let a = leb (get_or t (i * 7) 0) 1 in
    let b = leb (get_or t (i * 7 + 1) 0) 1023 in
    let c = leb (get_or t (i * 7 + 2) 0) 4 in
    let r = all_below 4 (sound_ref t i) in
    let z = tail_zero (get_or t (i * 7 + 1) 0) (take 128 (drop (i * 128) d)) in
    let e₁ = and_right a (b && (c && (r && z))) e in
    let e₂ = and_right b (c && (r && z)) e₁ in
    let e₃ = and_right c (r && z) e₂ in
    record {
      flag = leb-true _ _ (and_left a (b && (c && (r && z))) e);
      bits = leb-true _ _ (and_left b (c && (r && z)) e₁);
      count = leb-true _ _ (and_left c (r && z) e₂);
      refs = λ k h. all-at (sound_ref t i) 4 k (and_left r z e₃) h;
      tail = and_right r z e₃;
    }

-- what the test of a store says
pub record SoundMemory (n : ℕ) (t d : List ℕ) : Type 0 where
  pub lengths : Sized t d
  pub held : n ≤ length t / 7
  pub cells : (k : ℕ) → k < n → CellSound t d k
  pub rest_table : all_zero (drop (n * 7) t) ≡ true
  pub rest_bytes : all_zero (drop (n * 128) d) ≡ true

pub sound-is : (n : ℕ) (t d : List ℕ) → sound n t d ≡ true → SoundMemory n t d
unfolding sound
sound-is n t d e =
    let a = sized t d in
    let b = leb n (length t / 7) in
    let c = all_below n (sound_cell t d) in
    let x = all_zero (drop (n * 7) t) in
    let y = all_zero (drop (n * 128) d) in
    let e₁ = and_right a (b && (c && (x && y))) e in
    let e₂ = and_right b (c && (x && y)) e₁ in
    let e₃ = and_right c (x && y) e₂ in
    record {
      lengths = sized-is t d (and_left a (b && (c && (x && y))) e);
      held = leb-true _ _ (and_left b (c && (x && y)) e₁);
      cells = λ k h. cell-is t d k (all-at (sound_cell t d) n k (and_left c (x && y) e₂) h);
      rest_table = and_left x y e₃;
      rest_bytes = and_right x y e₃;
    }

module _ (n : ℕ) (t d : List ℕ) (e : sound n t d ≡ true) where
  abbrev s : SoundMemory n t d
  s = sound-is n t d e

  pub sound-few : n ≤ 4096
  sound-few = let l = s.lengths in let h = s.held in omega (arith, l.few)

  module _ (i : ℕ) (h : i < n) where
    back : (j : ℕ) → j < get_or t (i * 7 + 2) 0 → get_or t (i * 7 + (3 + j)) 0 < i
    unfolding sound_ref
    back j l =
        let c = s.cells i h in
        let u : sound_ref t i j ≡ true = c.refs j (omega (arith, c.count)) in
        let w : ltb (get_or t (i * 7 + 3 + j) 0) i ≡ true = rw (lt-ltb j (get_or t (i * 7 + 2) 0) l) at u in
        rw (← add_assoc (i * 7) 3 j) (ltb-true (get_or t (i * 7 + 3 + j) 0) i w)

    tail : get_or d (i * 128 + get_or t (i * 7 + 1) 0 / 8) 0 % unused_in (get_or t (i * 7 + 1) 0) ≡ 0
    unfolding tail_zero
    tail =
        let len = get_or t (i * 7 + 1) 0 in
        let c = s.cells i h in
        let k : get_or t (i * 7 + 1) 0 / 8 < 128 = omega (arith, c.bits) in
        let q : get_or (take 128 (drop (i * 128) d)) (len / 8) 0 ≡ get_or d (i * 128 + len / 8) 0 = get_or-take 128 (drop (i * 128) d) (len / 8) 0 k ∙ get_or-drop (i * 128) d (len / 8) 0 in
        rw q at (eqb-true (get_or (take 128 (drop (i * 128) d)) (len / 8) 0 % unused_in len) 0 (and_left (eqb (get_or (take 128 (drop (i * 128) d)) (len / 8) 0 % unused_in len) 0) _ c.tail))

    sound-cell : CellOk t d i
    sound-cell =
        let l = s.lengths in
        let c = s.cells i h in
        let g = s.held in
        record {
          ok = record { room = omega (arith, l.whole); flag = c.flag; bits = c.bits; few = c.count; back = back };
          bytes = omega (arith, l.bytes);
          tail = tail;
        }

  pub sound-cells : CellsOk t d n
  sound-cells i h = sound-cell i h

-- ---- the references of a record

pub refs-length : (t : List ℕ) (i : ℕ) → RecordOk t i → length (refs_at t i) ≡ get_or t (i * 7 + 2) 0
unfolding refs_at
refs-length t i ok = simp (length-take, length-drop) (omega (arith, ok.room, ok.few))

pub refs-get : (t : List ℕ) (i j : ℕ) → j < get_or t (i * 7 + 2) 0 → get_or (refs_at t i) j 0 ≡ get_or t (i * 7 + (3 + j)) 0
unfolding refs_at
refs-get t i j h = rw (get_or-take, get_or-drop, add_assoc)

pub refs-cons : (t : List ℕ) (i j : ℕ) → RecordOk t i → j < get_or t (i * 7 + 2) 0 → drop j (refs_at t i) ≡ get_or t (i * 7 + (3 + j)) 0 ∷ drop (j + 1) (refs_at t i)
refs-cons t i j ok h = rw (add-one, ← refs-get t i j h) (drop-cons (refs_at t i) j 0 (rw (refs-length t i ok) h))

pub refs_end : (t : List ℕ) (i j : ℕ) → RecordOk t i → get_or t (i * 7 + 2) 0 ≤ j → drop j (refs_at t i) ≡ []
refs_end t i j ok h = drop_all (refs_at t i) j (rw (refs-length t i ok) h)

pub cell-refs : (t d : List ℕ) (i : ℕ) → (cell_at t d i).refs ≡ refs_at t i
unfolding cell_at refs_at
cell-refs t d i = refl

-- ---- the cells as a list

pub cells-length : (n : ℕ) (t d : List ℕ) → length (cells_of n t d) ≡ n
unfolding cells_of
cells-length zero t d = refl
cells-length (suc n) t d = simp length-append (rw (cells-length n t d) (add-one n))

pub cells_at_lem : (n : ℕ) (t d : List ℕ) (i : ℕ) → i < n → at (cells_of n t d) i ≡ cell_at t d i
unfolding cells_of
cells_at_lem zero t d i h = absurd (not-suc-le-zero h)
cells_at_lem (suc n) t d i h =
    ⊎_elim
    (λ e. rw e (get_or_at (cells_of n t d) (cell_at t d n) [] blank n (cells-length n t d)))
    (λ lt. get_or-append (cells_of n t d) (cell_at t d n ∷ []) blank i (rw (cells-length n t d) lt) ∙ cells_at_lem n t d i lt)
    (eq-or-lt_of_le (le_of_suc-le-suc h))
