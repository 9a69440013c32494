-- The cells of the bag that is written from an order, and reading such cells into a store. That the one undoes the other is in proofs/Round.
-- Assumes nothing.
use Rattle.std.specs.Prelude.{◌≡◌, refl, ◌⊎◌, ℕ, suc, ◌+◌, ◌<◌, Bool, true, false, cond, length, get_or, eqb, ltb}
use Rattle.std.proofs.Common.{sym, inl, inr, arith, length-append, eqb-true, ne_eqb, ltb-true, ltb-false}
use mathlib.Core.List.Memᴰ
use mathlib.Core.List.Memᴰ.{head as here}
use mathlib.Core.List.Memᴰ.{tail as there}
use mathlib.Core.List.{List, [], ◌∷◌, ◌++◌, map, append_assoc, Memᴰ as Mem}
use Rattle.std.proofs.lemmas.Bool.{eqb-false}
use Rattle.scheme.specs.Write.{place_of, bag_cell}
use Rattle.laws.specs.Tests.{bool_cases}
use Rattle.laws.specs.Distinct.{Nodup}
use Rattle.scheme.specs.Cells.{Cell, at, find}
use Rattle.laws.specs.Unique.{Sound, at-find, find_lowest}

-- the bag's cells without their levels
abbrev pub plain_cells : List Cell → List ℕ → List Cell
plain_cells s out = map (bag_cell s out) out

pub index_at : (x : ℕ) (l : List ℕ) → Mem x l → get_or l (place_of x l) 0 ≡ x
index_at x [] m = elim m [ ]
index_at x (y ∷ ys) m = go (eqb x y) refl m (index_at x ys)
  where
    go : (b : Bool) → eqb x y ≡ b → Mem x (y ∷ ys) → (Mem x ys → get_or ys (place_of x ys) 0 ≡ x) → get_or (y ∷ ys) (cond b 0 (suc (place_of x ys))) 0 ≡ x
    go true e m ih = sym (eqb-true x y e)
    go false e (here q) ih = absurd (eqb-false x y e q)
    go false e (there m) ih = ih m

pub index-append : (x : ℕ) (s t : List ℕ) → (Mem x s → ⊥) → place_of x (s ++ t) ≡ length s + place_of x t
index-append x [] t h = omega arith
index-append x (y ∷ ys) t h = rw (ne_eqb x y (λ e. h (here e))) (omega (arith, index-append x ys t (λ m. h (there m))))

-- a cell that the store holds is found at its number
pub find-held : (s : List Cell) → Sound s → (x : ℕ) → x < length s → find s (at s x) ≡ x
find-held s S x h = go (bool_cases (ltb x (find s (at s x))))
  where
    go : (ltb x (find s (at s x)) ≡ true) ⊎ (ltb x (find s (at s x)) ≡ false) → find s (at s x) ≡ x
    go (inl e) = absurd (find_lowest s (at s x) x (ltb-true x (find s (at s x)) e) refl)
    go (inr e) =
        let g = ltb-false x (find s (at s x)) e in
        let k : find s (at s x) < length s = omega arith in
        S.distinct (find s (at s x)) x k h (at-find s (at s x) k)

-- the place of a number that stands behind x, in a list with no number twice
pub index-later : (pre : List ℕ) (x : ℕ) (suf out : List ℕ) → out ≡ pre ++ x ∷ suf → Nodup out → (r : ℕ) → Mem r suf → place_of r out ≡ suc (length pre) + place_of r suf
index-later pre x suf out e n r m =
    let p : place_of r out ≡ length (pre ++ x ∷ []) + place_of r suf = rw (e, ← append_assoc pre (x ∷ []) suf) (index-append r (pre ++ x ∷ []) suf (apart pre (rw e at n))) in
    omega (arith, length-append pre (x ∷ []))
  where
    behind : (y : ℕ) → r ≡ y → (zs : List ℕ) → Mem y (zs ++ x ∷ suf)
    behind y q [] = there (rw q at m)
    behind y q (z ∷ zs) = there (behind y q zs)

    apart : (a : List ℕ) → Nodup (a ++ x ∷ suf) → Mem r (a ++ x ∷ []) → ⊥
    apart [] n (here q) = n.0 (rw q at m)
    apart [] n (there k) = Memᴰ.not-nil k
    apart (y ∷ ys) n (here q) = n.0 (behind y q ys)
    apart (y ∷ ys) n (there k) = apart ys n.1 k
