-- A cell's data in a block of 128 bytes, with the bits past its length 0. Assumes nothing.
use Rattle.std.specs.Prelude.{ℕ, zero, suc, ◌+◌, ◌-◌, ◌*◌, ◌/◌, ◌%◌, ◌^◌, ◌≤◌, ◌<◌, ◌≡◌, refl, List, [], ◌∷◌, ◌++◌, drop, set, replicate}
use Rattle.std.proofs.Common.{not-suc-le-zero, ap, ◌∙◌, length-drop, length-take-le}
use native.Mathlib.Omega.{arith}
use Rattle.std.proofs.Math.ListN.{length, take, get_or, get_or-append}
use Rattle.std.proofs.lemmas.List.{length-replicate}
use Rattle.std.proofs.Math.Seq.{set-append_left}
use Rattle.laws.specs.Puts.{puts, puts-start}
use Rattle.scheme.specs.Bits.{mask, cropped}
use Rattle.raw_cell.specs.Data.{mask-none}
use Rattle.laws.specs.CellRound.{length-mask}

-- the block of the first len bits of the bytes b from place p on
abbrev pub block_at : List ℕ → ℕ → ℕ → List ℕ
block_at b p len = cropped len (drop p b) ++ replicate (128 - length (cropped len (drop p b))) 0

mask-set : (k : ℕ) (l : List ℕ) → 0 < length l → set l (length l - 1) (get_or l (length l - 1) 0 / 2 ^ k * 2 ^ k) ≡ mask k l
mask-set k [] h = absurd (not-suc-le-zero h)
mask-set k (x ∷ []) h = refl
mask-set k (x ∷ y ∷ ys) h =
    let e : length (x ∷ y ∷ ys) - 1 ≡ suc (length (y ∷ ys) - 1) = omega arith in
    rw e (ap (λ (l : List ℕ). x ∷ l) (mask-set k (y ∷ ys) (omega arith)))

drop-replicate : (n m : ℕ) → n ≤ m → drop n (replicate {A = ℕ} m 0) ≡ replicate (m - n) 0
drop-replicate zero m h = let e : m - 0 ≡ m = omega arith in rw e
drop-replicate (suc n) zero h = absurd (not-suc-le-zero h)
drop-replicate (suc n) (suc m) h = let e : suc m - suc n ≡ m - n = omega arith in rw e (drop-replicate n m (omega arith))

module _ (b : List ℕ) (p len : ℕ) (few : len ≤ 1023) (room : p + (len + 7) / 8 ≤ length b) where
  count : length (take ((len + 7) / 8) (drop p b)) ≡ (len + 7) / 8
  count = length-take-le ((len + 7) / 8) (drop p b) (rw length-drop (omega arith))

  laid : puts (replicate 128 0) 0 (take ((len + 7) / 8) (drop p b)) ≡ take ((len + 7) / 8) (drop p b) ++ replicate (128 - (len + 7) / 8) 0
  laid =
      let h : (len + 7) / 8 ≤ 128 = omega arith in
      puts-start (replicate 128 0) (take ((len + 7) / 8) (drop p b)) (rw (count, length-replicate) h)
      ∙ rw (count, drop-replicate ((len + 7) / 8) 128 h)

  -- where the last byte is full
  pub block-full : len % 8 ≡ 0 → puts (replicate 128 0) 0 (take ((len + 7) / 8) (drop p b)) ≡ block_at b p len
  unfolding cropped
  block-full z =
      let e : (8 - len % 8) % 8 ≡ 0 = omega arith in
      laid ∙ rw (e, mask-none (take ((len + 7) / 8) (drop p b)), count)

  -- where it is not, it is stored again with the bits past the length 0
  pub block-part : (len % 8 ≡ 0 → ⊥) → (m : List ℕ) → m ≡ puts (replicate 128 0) 0 (take ((len + 7) / 8) (drop p b))
      → set m (len / 8) (get_or m (len / 8) 0 / 2 ^ (8 - len % 8) * 2 ^ (8 - len % 8)) ≡ block_at b p len
  unfolding cropped
  block-part z m q =
      let xs = take ((len + 7) / 8) (drop p b) in
      let e : (8 - len % 8) % 8 ≡ 8 - len % 8 = omega arith in
      let i : len / 8 ≡ length xs - 1 = omega (arith, count) in
      let j : length xs - 1 < length xs = omega (arith, count) in
      let o : 0 < length xs = omega arith in
      let v = get_or xs (length xs - 1) 0 / 2 ^ (8 - len % 8) * 2 ^ (8 - len % 8) in
      let g = get_or-append xs (replicate (128 - (len + 7) / 8) 0) 0 (length xs - 1) j in
      let t = set-append_left xs (replicate (128 - (len + 7) / 8) 0) (length xs - 1) v j in
      rw (q ∙ laid, i, g, t, mask-set (8 - len % 8) xs o, e, length-mask (8 - len % 8) xs, count)

-- the block before its last byte is stored again: zeros, and the bytes of the data put at the front
pub copied : (b o z m : List ℕ) (p len end : ℕ) → length o ≡ 128 → z ≡ replicate (length o) 0 → end ≡ p + (len + 7) / 8 → m ≡ puts z 0 (take (end - p) (drop p b))
    → m ≡ puts (replicate 128 0) 0 (take ((len + 7) / 8) (drop p b))
copied b o z m p len end h e q g =
    let w : end - p ≡ (len + 7) / 8 = omega arith in
    g ∙ rw (e, h, w)
