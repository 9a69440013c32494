-- The data of a cell by place: the first bits of the bytes at its place, with the bits past them 0. Assumes nothing.
use Rattle.std.specs.Prelude.{ℕ, suc, ◌+◌, ◌-◌, ◌*◌, ◌/◌, ◌%◌, ◌^◌, ◌≤◌, ◌<◌, ◌≡◌, Bool, List, [], ◌∷◌, length, take, drop, get_or, eqb, Ok}
use Rattle.std.proofs.Common.{not-suc-le-zero, sym, ap, ◌∙◌, arith, eqb-true, ne_eqb, length-drop, length-take-le, take-take, get_or-take, get_or-drop}
use Rattle.std.proofs.Math.Path.{refl}
use Rattle.std.proofs.Math.Bool.{true, false}
use Rattle.std.proofs.lemmas.Bool.{eqb-false}
use Rattle.scheme.specs.Res.{then}
use Rattle.scheme.specs.Bits.{last_of, zeros, unmark, mask, cropped}
use Rattle.scheme.specs.Bag.{bits}
use Rattle.raw_cell.specs.Frame.{bits_in}
use Rattle.raw_cell.specs.Padding.{last_bit}

pub last_get : (l : List ℕ) → 0 < length l → last_of l ≡ get_or l (length l - 1) 0
last_get [] h = absurd (not-suc-le-zero h)
last_get (x ∷ []) h = refl
last_get (x ∷ y ∷ ys) h =
    let e : length (x ∷ y ∷ ys) - 1 ≡ suc (length (y ∷ ys) - 1) = omega arith in
    rw e (last_get (y ∷ ys) (omega arith))

pub mask-none : (l : List ℕ) → mask 0 l ≡ l
mask-none [] = refl
mask-none (x ∷ []) = let e : x / 1 * 1 ≡ x = omega arith in rw e
mask-none (x ∷ y ∷ ys) = ap (λ (l : List ℕ). x ∷ l) (mask-none (y ∷ ys))

-- without the last 1 bit, where another bit stands before it in the last byte, and where none does
unmark-mask : (t : ℕ) (l : List ℕ) → eqb t 7 ≡ false → last_of l - 2 ^ t ≡ last_of l / 2 ^ (t + 1) * 2 ^ (t + 1) → unmark t l ≡ mask (t + 1) l
unmark-mask t [] s e = refl
unmark-mask t (x ∷ []) s e = rw (s, e)
unmark-mask t (x ∷ y ∷ ys) s e = ap (λ (l : List ℕ). x ∷ l) (unmark-mask t (y ∷ ys) s e)

unmark-last : (l : List ℕ) → unmark 7 l ≡ take (length l - 1) l
unmark-last [] = refl
unmark-last (x ∷ []) = refl
unmark-last (x ∷ y ∷ ys) =
    let e : length (x ∷ y ∷ ys) - 1 ≡ suc (length (y ∷ ys) - 1) = omega arith in
    rw e (ap (λ (l : List ℕ). x ∷ l) (unmark-last (y ∷ ys)))

-- whole bytes
cropped-whole : (n : ℕ) (l : List ℕ) → cropped (8 * n) l ≡ take n l
unfolding cropped
cropped-whole n l =
    let e : (8 - 8 * n % 8) % 8 ≡ 0 = omega arith in
    let f : (8 * n + 7) / 8 ≡ n = omega arith in
    rw (e, f) (mask-none (take n l))

-- bytes whose last one ends in a 1 bit and zeros
cropped-marked : (n t : ℕ) (l : List ℕ) → 0 < n → n ≤ length l → t ≡ zeros 8 (last_of (take n l)) → last_of (take n l) < 256 → (last_of (take n l) ≡ 0 → ⊥)
    → cropped (8 * n - 1 - t) l ≡ unmark t (take n l)
unfolding cropped
cropped-marked n t l h g q w z = go (eqb t 7) refl
  where
    go : (s : Bool) → eqb t 7 ≡ s → mask ((8 - (8 * n - 1 - t) % 8) % 8) (take ((8 * n - 1 - t + 7) / 8) l) ≡ unmark t (take n l)
    go true s =
        let t7 = eqb-true t 7 s in
        let e : (8 - (8 * n - 1 - t) % 8) % 8 ≡ 0 = omega arith in
        let f : (8 * n - 1 - t + 7) / 8 ≡ n - 1 = omega arith in
        rw (e, f, t7) (mask-none (take (n - 1) l) ∙ sym (unmark-last (take n l) ∙ rw (length-take-le n l g) (take-take (n - 1) n l (omega arith))))
    go false s =
        let t7 : (t ≡ 7 → ⊥) = eqb-false t 7 s in
        let fact = last_bit (last_of (take n l)) w z in
        let t8 : t ≤ 7 = omega (arith, fact.0) in
        let o : (8 * n - 1 - t) / 8 ≡ n - 1 = omega arith in
        let e : (8 - (8 * n - 1 - t) % 8) % 8 ≡ t + 1 = omega arith in
        let f : (8 * n - 1 - t + 7) / 8 ≡ n = omega arith in
        let k : last_of (take n l) - 2 ^ t ≡ last_of (take n l) / 2 ^ (t + 1) * 2 ^ (t + 1) = rw q fact.1 in
        rw (e, f) (sym (unmark-mask t (take n l) s k))

-- the bits of n data bytes at place p, and their bytes, are those by place
module _ (b : List ℕ) (p n : ℕ) (h : p + n ≤ length b) (small : (i : ℕ) → get_or b i 0 < 256) where
  room : n ≤ length (drop p b)
  room = rw length-drop (omega arith)

  last-at : 0 < n → last_of (take n (drop p b)) ≡ get_or b (p + n - 1) 0
  last-at s =
      let e = length-take-le n (drop p b) room in
      let i : n - 1 < n = omega arith in
      let f : p + (n - 1) ≡ p + n - 1 = omega arith in
      last_get (take n (drop p b)) (rw e s) ∙ rw (e, get_or-take n (drop p b) (n - 1) 0 i, get_or-drop p b (n - 1) 0, f)

  pub bits_at : (odd : Bool) → (odd ≡ true → 0 < n)
      → bits odd p (take n (drop p b)) ≡ then (bits_in odd p n (get_or b (p + n - 1) 0)) λ len. Ok (record { len = len; bytes = cropped len (drop p b) })
  unfolding bits bits_in
  bits_at false s = rw (length-take-le n (drop p b) room, cropped-whole n (drop p b))
  bits_at true s = go (eqb (get_or b (p + n - 1) 0) 0) refl
    where
      some : 0 < n
      some = s refl

      go : (z : Bool) → eqb (get_or b (p + n - 1) 0) 0 ≡ z
          → bits true p (take n (drop p b)) ≡ then (bits_in true p n (get_or b (p + n - 1) 0)) λ len. Ok (record { len = len; bytes = cropped len (drop p b) })
      go true z = rw (last-at some, z)
      go false z =
          let l = last-at some in
          let w : last_of (take n (drop p b)) < 256 = rw l (small (p + n - 1)) in
          let k : (last_of (take n (drop p b)) ≡ 0 → ⊥) = rw l (eqb-false (get_or b (p + n - 1) 0) 0 z) in
          let c = cropped-marked n (zeros 8 (last_of (take n (drop p b)))) (drop p b) some room refl w k in
          rw (sym l) (rw (ne_eqb (last_of (take n (drop p b))) 0 k, length-take-le n (drop p b) room, c))
