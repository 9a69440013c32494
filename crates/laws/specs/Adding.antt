-- What adding leaves: the cell that a builder makes is fit to be stored, adding keeps a store sound, and it appends the cell or nothing. Assumes nothing.
use Prim.Native.Nat.{ℕ, zero, suc, ◌*◌, ◌/◌, ◌%◌, ◌-◌, ◌^◌, ◌<◌, ◌≤◌}
use Rattle.std.specs.Prelude.{◌≡◌, true, get_or, set, leb, ltb, Ok, Err}
use Rattle.std.proofs.Math.Path.{refl, sym, ap, subst}
use Rattle.std.proofs.Common.{◌∙◌, not-suc-le-zero, le_of_suc-le-suc, length-take, length-set, take-suc, get_or-take, get_or-set_same, length-take-le}
use mathlib.Core.List.{List, [], ◌∷◌, ◌++◌}
use Rattle.std.proofs.Math.Nat.{zero-mod, mul-mod_left}
use native.Mathlib.Omega.{arith}
use Rattle.std.proofs.Math.ListN.{length, take}
use Rattle.std.proofs.Math.Seq.{take-set-le, take-suc-set}
use borrow.Author.Tests.{leb-true, ltb-true}
use Rattle.scheme.specs.Refusals.{REFS, FULL, NOCELL, BITS}
use Rattle.scheme.specs.Res.{Res, check, refusal}
use Rattle.scheme.specs.Bits.{bytes_for, mask, cropped}
use Rattle.scheme.specs.Cells.{Cell, insert}
use Rattle.scheme.specs.Builder.{Builder, cell_in}
use Rattle.scheme.specs.Memory.{capacity, cells_of, sound, held, lay_table, lay_bytes}
use Rattle.scheme.specs.Add.{Added, refs_held, add}
use Rattle.scheme.specs.Calls.{StoreOut, add_out, adding}
use Rattle.laws.specs.Accept.{then_use, check_inv}
use Rattle.laws.specs.Add.{flag-le}
use Rattle.laws.specs.Kept.{added_store}
use Rattle.laws.specs.Wf.{WfCell, Wf}
use Rattle.laws.specs.Records.{unused_in, sound-is, cells-length}
use Rattle.laws.specs.RoundLaws.{cells-back}
use Rattle.laws.specs.Lay.{split, past, wf-cells, wf-insert, sound-lay}

-- ---- the bytes of the first bits, with the bits past them 0

mask-snoc : (k : ℕ) (ys : List ℕ) (x : ℕ) → mask k (ys ++ x ∷ []) ≡ ys ++ (x / 2 ^ k * 2 ^ k) ∷ []
mask-snoc k [] x = refl
mask-snoc k (y ∷ []) x = refl
mask-snoc k (y ∷ z ∷ zs) x = ap (λ (l : List ℕ). y ∷ l) (mask-snoc k (z ∷ zs) x)

mask-zero : (l : List ℕ) → mask 0 l ≡ l
mask-zero [] = refl
mask-zero (x ∷ []) = let q : x / 1 * 1 ≡ x = omega arith in ap (λ (y : ℕ). y ∷ []) q
mask-zero (x ∷ y ∷ ys) = ap (λ (l : List ℕ). x ∷ l) (mask-zero (y ∷ ys))

module _ (b : List ℕ) (len v : ℕ) (long : length b ≡ 128) (few : len ≤ 1023) (is : v ≡ get_or b (len / 8) 0 / unused_in len * unused_in len) where
  crop_full : len % 8 ≡ 0 → take (bytes_for len) (set b (len / 8) v) ≡ cropped len b
  unfolding cropped
  crop_full z =
      let m : bytes_for len ≡ len / 8 = omega arith in
      let k : (8 - len % 8) % 8 ≡ 0 = rw z in
      ap (λ (n : ℕ). take n (set b (len / 8) v)) m
      ∙ take-set-le (len / 8) b (len / 8) v (omega arith)
      ∙ ap (λ (n : ℕ). take n b) (sym m)
      ∙ sym (ap (λ (j : ℕ). mask j (take (bytes_for len) b)) k ∙ mask-zero (take (bytes_for len) b))

  crop_part : (len % 8 ≡ 0 → ⊥) → take (bytes_for len) (set b (len / 8) v) ≡ cropped len b
  unfolding cropped
  crop_part z =
      let m : bytes_for len ≡ suc (len / 8) = omega arith in
      let h : len / 8 < length b = omega arith in
      ap (λ (n : ℕ). take n (set b (len / 8) v)) m
      ∙ take-suc-set b (len / 8) v h
      ∙ ap (λ (x : ℕ). take (len / 8) b ++ x ∷ []) is
      ∙ sym (mask-snoc ((8 - len % 8) % 8) (take (len / 8) b) (get_or b (len / 8) 0))
      ∙ sym (ap (λ (l : List ℕ). mask ((8 - len % 8) % 8) l) (take-suc b (len / 8) 0 h))
      ∙ sym (ap (λ (n : ℕ). mask ((8 - len % 8) % 8) (take n b)) m)

  -- the last byte cleaned in its place
  pub crop_set : take (bytes_for len) (set b (len / 8) v) ≡ cropped len b
  crop_set = split 0 (len % 8) (λ h. crop_part (λ e. omega arith)) (λ h. crop_full (omega arith))

module _ (b : List ℕ) (len : ℕ) (long : length b ≡ 128) (few : len ≤ 1023) where
  abbrev last : ℕ
  last = get_or b (len / 8) 0 / unused_in len * unused_in len

  is_set : cropped len b ≡ take (bytes_for len) (set b (len / 8) (get_or b (len / 8) 0 / unused_in len * unused_in len))
  is_set = sym (crop_set b len last long few refl)

  pub crop_length : length (cropped len b) ≡ bytes_for len
  crop_length =
      let room : length (set b (len / 8) (get_or b (len / 8) 0 / unused_in len * unused_in len)) ≡ 128 = length-set b (len / 8) last ∙ long in
      ap (λ (l : List ℕ). length l) is_set ∙ length-take-le (bytes_for len) (set b (len / 8) last) (omega arith)

  pub crop_tail : get_or (cropped len b) (len / 8) 0 % unused_in len ≡ 0
  crop_tail =
      split (len / 8) (bytes_for len)
      (λ h.
      let q : get_or (cropped len b) (len / 8) 0 ≡ get_or b (len / 8) 0 / unused_in len * unused_in len =
      ap (λ (l : List ℕ). get_or l (len / 8) 0) is_set ∙ get_or-take (bytes_for len) (set b (len / 8) last) (len / 8) 0 h ∙ get_or-set_same b (len / 8) last 0 (omega arith) in
      ap (λ (x : ℕ). x % unused_in len) q ∙ mul-mod_left (get_or b (len / 8) 0 / unused_in len) (unused_in len))
      (λ h. ap (λ (x : ℕ). x % unused_in len) (past (cropped len b) (len / 8) (rw crop_length h)) ∙ zero-mod (unused_in len))

-- ---- the cell that a builder makes

pub wf-in : (n : ℕ) (b : Builder) → length b.bytes ≡ 128 → b.len ≤ 1023 → b.count ≤ 4 → ((k : ℕ) → k < length (take b.count b.refs) → get_or (take b.count b.refs) k 0 < n) → WfCell n (cell_in b)
wf-in n b long few refs below =
    record {
      flag = flag-le b.exotic;
      bits = few;
      count = omega (arith, length-take b.count b.refs);
      below = below;
      size = crop_length b.bytes b.len long few;
      tail = crop_tail b.bytes b.len long few;
    }

-- references that were tested are below
refs-below : (k n : ℕ) (rs : List ℕ) (u : Unit {0}) → refs_held k n rs ≡ Ok u → (j : ℕ) → j < length rs → get_or rs j 0 < n
refs-below k n [] u e j h = absurd (not-suc-le-zero h)
refs-below k n (y ∷ ys) u e j h =
    then_use (check (ltb y n) (refusal NOCELL k)) _ _ e λ u₁ x₁ e₁.
    go (ltb-true y n (check_inv (ltb y n) (refusal NOCELL k) u₁ x₁)) (refs-below (suc k) n ys u e₁) j h
  where
    go : y < n → ((i : ℕ) → i < length ys → get_or ys i 0 < n) → (i : ℕ) → i < suc (length ys) → get_or (y ∷ ys) i 0 < n
    go l ih zero g = l
    go l ih (suc i) g = ih i (le_of_suc-le-suc g)

-- ---- a store with one more cell

module _ (n : ℕ) (t d : List ℕ) (c : Cell) (e : sound n t d ≡ true) (w : WfCell n c) (fits : length (insert (cells_of n t d) c) ≤ capacity t) where
  abbrev more : List Cell
  more = insert (cells_of n t d) c

  wf-more : Wf (insert (cells_of n t d) c)
  wf-more = wf-insert (cells_of n t d) c (wf-cells n t d (sound-is n t d e)) (subst (λ (m : ℕ). WfCell m c) (sym (cells-length n t d)) w)

  pub insert-sound : sound (length (insert (cells_of n t d) c)) (lay_table (capacity t) (insert (cells_of n t d) c)) (lay_bytes (capacity t) (insert (cells_of n t d) c)) ≡ true
  insert-sound = let z = (sound-is n t d e).lengths in sound-lay (capacity t) more wf-more fits z.few

  pub insert-cells : cells_of (length (insert (cells_of n t d) c)) (lay_table (capacity t) (insert (cells_of n t d) c)) (lay_bytes (capacity t) (insert (cells_of n t d) c)) ≡ insert (cells_of n t d) c
  insert-cells = cells-back (capacity t) more wf-more

-- ---- adding

-- an outcome of memory that is a sound store of these cells
pub record Holds {A : Type 0} (s : List Cell) (o : StoreOut A) : Type 0 where
  pub is-sound : sound o.count o.table o.bytes ≡ true
  pub cells : cells_of o.count o.table o.bytes ≡ s

module _ (n : ℕ) (t d : List ℕ) (b : Builder) (long : length b.bytes ≡ 128) (e : sound n t d ≡ true) where
  abbrev s : List Cell
  s = cells_of n t d

  added-holds : (a : Added) → add (capacity t) (cells_of n t d) b ≡ Ok a → Holds a.store (add_out n t d (Ok a))
  unfolding add
  added-holds a q =
      then_use (check (leb b.len 1023) (refusal BITS 0)) _ _ q λ u₁ x₁ e₁.
      then_use (check (leb b.count 4) (refusal REFS 0)) _ _ e₁ λ u₂ x₂ e₂.
      then_use (refs_held 0 (length s) (take b.count b.refs)) _ _ e₂ λ u₃ x₃ e₃.
      then_use (check (leb (length (insert s (cell_in b))) (capacity t)) (refusal FULL 0)) _ _ e₃ λ u₄ x₄ e₄.
      let few = leb-true b.len 1023 (check_inv (leb b.len 1023) (refusal BITS 0) u₁ x₁) in
      let refs = leb-true b.count 4 (check_inv (leb b.count 4) (refusal REFS 0) u₂ x₂) in
      let fits = leb-true (length (insert s (cell_in b))) (capacity t) (check_inv (leb (length (insert s (cell_in b))) (capacity t)) (refusal FULL 0) u₄ x₄) in
      let w = wf-in n b long few refs (λ k h. rw (← cells-length n t d) (refs-below 0 (length s) (take b.count b.refs) u₃ x₃ k h)) in
      let st : insert s (cell_in b) ≡ a.store = cc in
      subst (λ (x : List Cell). Holds x (add_out n t d (Ok (record { number = a.number; store = x })))) st
      (record { is-sound = insert-sound n t d (cell_in b) e w fits; cells = insert-cells n t d (cell_in b) e w fits })

  -- adding keeps a store sound, and its cells are those of the definition on lists
  pub adding-holds : Holds (added_store (cells_of n t d) (add (capacity t) (cells_of n t d) b)) (adding n t d b)
  unfolding adding held
  adding-holds = rw e (go (add (capacity t) (cells_of n t d) b) refl)
    where
      go : (x : Res Added) → add (capacity t) (cells_of n t d) b ≡ x → Holds (added_store (cells_of n t d) x) (add_out n t d x)
      go (Err r) q = record { is-sound = e; cells = refl }
      go (Ok a) q = added-holds a q
