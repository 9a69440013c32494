-- The place of a number in a list, and the places that a pass writes. Assumes nothing.
use mathlib.Core.Path.{◌≡◌, refl, sym, ◌∙◌}
use mathlib.Core.Bool.{Bool, true, false}
use mathlib.Core.List.Memᴰ
use mathlib.Core.List.{List, [], ◌∷◌, Memᴰ as Mem}
use mathlib.Core.Logic.{◌⊎◌, inl, inr}
use Prim.Native.Nat.{ℕ, zero, suc, ◌+◌, ◌*◌, ◌<◌}
use native.Mathlib.Nat.{not-suc-le-zero, le_of_suc-le-suc}
use native.Mathlib.Numerals.{add-one}
use native.Mathlib.Omega.{arith}
use lib.ListN.{length, take, get_or, set}
use lib.Seq.{get_or-set_same, get_or-set_other, take-suc}
use lib.Dec.{eqb}
use borrow.Author.Tests.{eq-eqb, ne_eqb, eqb-true, eqb-false}
use Rattle.scheme.specs.Write.{place_of}
use Rattle.laws.specs.Distinct.{Nodup}
use Rattle.laws.specs.Slices.{mem-get}

place-get : (l : List ℕ) (p : ℕ) → Nodup l → p < length l → place_of (get_or l p 0) l ≡ p
place-get [] p n h = absurd (not-suc-le-zero h)
place-get (x ∷ l) zero n h = rw (eq-eqb x x refl)
place-get (x ∷ l) (suc p) n h =
    let m = mem-get l p (le_of_suc-le-suc h) in
    rw (ne_eqb (get_or l p 0) x (λ e. n.0 (rw e at m)), place-get l p n.1 (le_of_suc-le-suc h))

-- one place more
pub place-turn : (out s : List ℕ) (n p x : ℕ) → Nodup out → p < length out → x ≡ get_or out p 0 → 2 * n + x < length s
    → ((z : ℕ) → Mem z (take p out) → get_or s (2 * n + z) 0 ≡ place_of z out)
    → (z : ℕ) → Mem z (take (p + 1) out) → get_or (set s (2 * n + x) p) (2 * n + z) 0 ≡ place_of z out
place-turn out s n p x N h q l inv z m = go (eqb z x) refl (Memᴰ.append_cases (take p out) (rw (add-one p, take-suc out p 0 h) at m))
  where
    go : (b : Bool) → eqb z x ≡ b → Mem z (take p out) ⊎ Mem z (get_or out p 0 ∷ []) → get_or (set s (2 * n + x) p) (2 * n + z) 0 ≡ place_of z out
    go true e w =
        let k = eqb-true z x e in
        let i : place_of z out ≡ p = rw (k, q) (place-get out p N h) in
        rw (k, get_or-set_same s (2 * n + x) p 0 l) (sym (rw k at i))
    go false e (inl w) = get_or-set_other s (2 * n + x) (2 * n + z) p 0 (λ k. eqb-false z x e (omega arith)) ∙ inv z w
    go false e (inr w) = absurd (eqb-false z x e (Memᴰ.eq_of_singleton w ∙ sym q))
