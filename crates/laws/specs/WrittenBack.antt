-- The bag that is written of a held cell, to be read back into the same store. That it reads back as that cell is in proofs/WrittenBack.
-- Assumes nothing.
use Rattle.std.specs.Prelude.{◌≡◌, refl, ℕ, suc, ◌+◌, ◌^◌, ◌<◌, Bool, true, false, cond, length, eqb}
use Rattle.std.proofs.Common.{sym, ◌∙◌, arith, length-append}
use mathlib.Core.List.Memᴰ.{head as here}
use mathlib.Core.List.Memᴰ.{tail as there}
use mathlib.Core.List.{List, [], ◌∷◌, ◌++◌, map, append_assoc, Memᴰ as Mem}
use Rattle.std.proofs.lemmas.List.{length-map}
use Rattle.std.proofs.lemmas.Bool.{eqb-false}
use Rattle.laws.specs.Lists.{mem-map}
use Rattle.laws.specs.Distinct.{Nodup}
use Rattle.scheme.specs.Cells.{Cell, at}
use Rattle.scheme.specs.Order.{kids_of}
use Rattle.laws.specs.Kahn.{Later}
use Rattle.scheme.specs.Write.{place_of, bag_cell}
use Rattle.laws.specs.Round.{index-later}
use Rattle.laws.specs.Meaning.{Linked}
use Rattle.laws.specs.CellRound.{Fit}
use Rattle.scheme.specs.Crc.{crc_of}

-- the place of a member is inside the list
pub index-lt : (x : ℕ) (l : List ℕ) → Mem x l → place_of x l < length l
index-lt x [] m = elim m [ ]
index-lt x (y ∷ ys) m = go (eqb x y) refl m (index-lt x ys)
  where
    go : (b : Bool) → eqb x y ≡ b → Mem x (y ∷ ys) → (Mem x ys → place_of x ys < length ys) → cond b 0 (suc (place_of x ys)) < suc (length ys)
    go true e m ih = omega arith
    go false e (here q) ih = absurd (eqb-false x y e q)
    go false e (there m) ih = omega (arith, ih m)

module _ (s : List Cell) where
  -- references of the listed cells go to later places
  pub bag-linked : (pre suf out : List ℕ) → out ≡ pre ++ suf → Nodup out → Later (kids_of s) suf → Linked (length pre) (map (bag_cell s out) suf)
  bag-linked pre [] out e n later = tt
  bag-linked pre (x ∷ suf) out e n later =
      let len : length (pre ++ x ∷ []) ≡ suc (length pre) = omega (arith, length-append pre (x ∷ [])) in
      (refs, rw len at (bag-linked (pre ++ x ∷ []) suf out (e ∙ sym (append_assoc pre (x ∷ []) suf)) n later.1))
    where
      refs : (r : ℕ) → Mem r (map (λ (r : ℕ). place_of r out) (at s x).refs) → (length pre < r) × (r < suc (length pre) + length (map (bag_cell s out) suf))
      refs r m =
          let t = mem-map (λ (r : ℕ). place_of r out) (at s x).refs r m in
          let k = later.0 t.0 t.1 in
          let a = index-later pre x suf out e n t.0 k in
          let b = index-lt t.0 suf k in
          let c = t.2 in
          let d = length-map suf (bag_cell s out) in
          (omega arith, omega arith)

pub fit-bag : (s : List Cell) (out : List ℕ) (x : ℕ) → Fit (at s x) → Fit (bag_cell s out x)
fit-bag s out x F = record { flag = F.flag; few = F.few; many = F.many; small = F.small; clean = F.clean; arity = rw (length-map (at s x).refs (λ (r : ℕ). place_of r out)) F.arity }

pub crc_small : (x : List ℕ) → crc_of x < 256 ^ 4
unfolding crc_of
crc_small x = omega arith
