-- Laws of the tests of soundness. Assumes nothing.
use Prim.Native.Nat.{ℕ, zero, suc, ◌%◌, ◌-◌, ◌^◌, ◌<◌}
use mathlib.Core.Path.{◌≡◌, refl, sym, ◌∙◌}
use mathlib.Core.List.{List, [], ◌∷◌}
use mathlib.Core.Bool.{Bool, true, false, ◌&&◌}
use native.Mathlib.Nat.{zero-add}
use native.Mathlib.Omega.{arith}
use lib.ListN.{length, get_or, take, drop}
use lib.Bits.{bit_or, or_zero_l, or_add_and, and_le_r}
use lib.Dec.{eqb}
use borrow.Author.Tests.{ne_eqb}
use Rattle.std.specs.Bool.{MatchBool}
use Rattle.std.specs.List.{FoldsTo, AllWithin, HoldsAt, range_with_len}
use Rattle.std.proofs.lemmas.List.FromFn.{length-range_with_len, get_or-range_with_len}
use Rattle.scheme.specs.Memory.{all_below, all_zero}
use Rattle.laws.specs.Tests.{true-false}
use Rattle.laws.specs.Records.{all-at}
use Rattle.laws.specs.Lists.{rest-is}

-- what `all` answers over the numbers below n
module _ (p : ℕ → Bool) where
  all_true : (n : ℕ) → ((k : ℕ) → k < n → p k ≡ true) → all_below n p ≡ true
  unfolding all_below
  all_true zero h = refl
  all_true (suc n) h = rw (all_true n (λ k l. h k (omega arith)), h n (omega arith))

  all-not : (n k : ℕ) → k < n → p k ≡ false → false ≡ all_below n p
  all-not n k h f = go (all_below n p) refl
    where
      go : (b : Bool) → all_below n p ≡ b → false ≡ b
      go false e = refl
      go true e = absurd (true-false (p k) (all-at p n k e h) f)

  pub all_is : (n : ℕ) (r : Bool)
      → MatchBool r (AllWithin (λ (k : ℕ). p k ≡ true) (range_with_len 0 n) 0 (length (range_with_len 0 n)))
      ((k : ℕ) × (k < length (range_with_len 0 n)) × HoldsAt (λ (k : ℕ). p k ≡ false) (range_with_len 0 n) k)
      → r ≡ all_below n p
  all_is n true h =
      sym (all_true n (λ k l.
      let e : get_or (range_with_len 0 n) k 0 ≡ k = get_or-range_with_len 0 n k 0 l ∙ zero-add _ in
      rw e at (h k 0 (omega arith) (rw (length-range_with_len 0 n) l))))
  all_is n false h =
      let l : h.0 < n = rw length-range_with_len at h.1 in
      let e : get_or (range_with_len 0 n) h.0 0 ≡ h.0 = get_or-range_with_len 0 n h.0 0 l ∙ zero-add _ in
      all-not n h.0 l (rw e at (h.2 0))

-- Numbers joined bit by bit are 0 exactly where all are.
or-zero : (a x : ℕ) → eqb (bit_or a x) 0 ≡ (eqb a 0 && eqb x 0)
or-zero zero x = rw (or_zero_l x)
or-zero (suc a) x =
    rw (ne_eqb (suc a) 0 (λ e. omega arith))
    (ne_eqb (bit_or (suc a) x) 0 (λ e. omega (arith, or_add_and (suc a) x, and_le_r (suc a) x)))

-- numbers joined bit by bit from a on
zero-from : (a : ℕ) (xs : List ℕ) (r : ℕ) → FoldsTo (λ (a x b : ℕ). b ≡ bit_or a x) a xs r → eqb r 0 ≡ (eqb a 0 && all_zero xs)
unfolding all_zero
zero-from a [] r h = rw (← h) (go (eqb a 0))
  where
    go : (b : Bool) → b ≡ (b && true)
    go true = refl
    go false = refl
zero-from a (x ∷ xs) r h = zero-from h.0 xs r h.2 ∙ rw (h.1, or-zero a x) (go (eqb a 0))
  where
    go : (b : Bool) → ((b && eqb x 0) && all_zero xs) ≡ (b && (eqb x 0 && all_zero xs))
    go true = refl
    go false = refl

-- all of a part of a slice, as the code lends it
pub zero_rest : (p : ℕ) (l : List ℕ) (r : ℕ) → FoldsTo (λ (a x b : ℕ). b ≡ bit_or a x) 0 (take (length l - p) (drop p l)) r → eqb r 0 ≡ all_zero (drop p l)
zero_rest p l r h = rw (rest-is p l) at (zero-from 0 (take (length l - p) (drop p l)) r h)

-- the table of `unused_in`
pub unused-table : (k : ℕ) → k < 8 → get_or (1 ∷ 128 ∷ 64 ∷ 32 ∷ 16 ∷ 8 ∷ 4 ∷ 2 ∷ []) k 0 ≡ 2 ^ ((8 - k) % 8)
unused-table zero h = refl
unused-table (suc zero) h = refl
unused-table (suc (suc zero)) h = refl
unused-table (suc (suc (suc zero))) h = refl
unused-table (suc (suc (suc (suc zero)))) h = refl
unused-table (suc (suc (suc (suc (suc zero))))) h = refl
unused-table (suc (suc (suc (suc (suc (suc zero)))))) h = refl
unused-table (suc (suc (suc (suc (suc (suc (suc zero))))))) h = refl
unused-table (suc (suc (suc (suc (suc (suc (suc (suc k)))))))) h = absurd (omega arith)
