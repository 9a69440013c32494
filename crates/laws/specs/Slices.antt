-- Laws of a part of a list, from one index up to another. Assumes nothing.
use Rattle.std.specs.Prelude.{◌≡◌, refl, ℕ, zero, suc, ◌+◌, ◌-◌, ◌<◌, ◌≤◌, length, take, drop, get_or}
use Rattle.std.proofs.Common.{sym, ap, ◌∙◌, not-suc-le-zero, le_of_suc-le-suc, add-one, arith, length-take-le, get_or-take, get_or-drop, take-add, take-suc, drop_at, ext_get_or}
use mathlib.Core.List.Memᴰ.{head as here}
use mathlib.Core.List.Memᴰ.{tail as there}
use mathlib.Core.List.{List, [], ◌∷◌, ◌++◌, Memᴰ as Mem}
use Rattle.std.proofs.Math.Seq.{slice, length-slice, slice-cons}
use Rattle.std.proofs.lemmas.List.{drop-append-le}

pub slice_get : (a b i : ℕ) (s : List ℕ) → a + i < b → get_or (slice a b s) i 0 ≡ get_or s (a + i) 0
slice_get a b i s h = get_or-drop a (take b s) i 0 ∙ get_or-take b s (a + i) 0 h

-- two lists that agree from a up to b
pub slice-same : (a b : ℕ) (s s' : List ℕ) → b ≤ length s → b ≤ length s' → ((d : ℕ) → a ≤ d → d < b → get_or s' d 0 ≡ get_or s d 0) → slice a b s' ≡ slice a b s
slice-same a b s s' h g e =
    ext_get_or 0 (slice a b s') (slice a b s) (length-slice a b s' g ∙ sym (length-slice a b s h)) (λ i l.
    let k : a + i < b = omega (arith, length-slice a b s' g) in
    slice_get a b i s' k ∙ e (a + i) (omega arith) k ∙ sym (slice_get a b i s k))

pub slice-join : (a b c : ℕ) (s : List ℕ) → a ≤ b → b ≤ c → b ≤ length s → slice a b s ++ slice b c s ≡ slice a c s
slice-join a b c s h g k =
    let l = length-take-le b s k in
    let e : c ≡ b + (c - b) = omega arith in
    let w : take c s ≡ take b s ++ take (c - b) (drop b s) = ap (λ (n : ℕ). take n s) e ∙ take-add b (c - b) s in
    let m : a ≤ length (take b s) = rw l h in
    let x : slice b c s ≡ take (c - b) (drop b s) = ap (drop b) w ∙ drop_at (take b s) (take (c - b) (drop b s)) b l in
    rw x (sym (drop-append-le a (take b s) (take (c - b) (drop b s)) m) ∙ ap (drop a) (sym w))

pub slice_snoc : (a b : ℕ) (s : List ℕ) → a ≤ b → b < length s → slice a (b + 1) s ≡ slice a b s ++ get_or s b 0 ∷ []
slice_snoc a b s h g =
    let l : length (take b s) ≡ b = length-take-le b s (omega arith) in
    let m : a ≤ length (take b s) = rw l h in
    rw (add-one b, take-suc s b 0 g) (drop-append-le a (take b s) (get_or s b 0 ∷ []) m)

pub slice_front : (a b : ℕ) (s : List ℕ) → a < b → b ≤ length s → slice a b s ≡ get_or s a 0 ∷ slice (a + 1) b s
slice_front a b s h g = slice-cons a b s 0 h g ∙ rw (add-one a) refl

pub mem-get : (l : List ℕ) (p : ℕ) → p < length l → Mem (get_or l p 0) l
mem-get [] p h = absurd (not-suc-le-zero h)
mem-get (x ∷ l) zero h = here refl
mem-get (x ∷ l) (suc p) h = there (mem-get l p (le_of_suc-le-suc h))
