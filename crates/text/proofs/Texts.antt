-- Laws of texts and sizes. Assumes nothing.
use mathlib.Core.Path.{◌≡◌, refl, sym, ap, ◌∙◌}
use mathlib.Core.List.{List, [], ◌∷◌, ◌++◌, map, append_assoc, append-nil}
use Prim.Native.Nat.{ℕ, zero, suc, ◌+◌, ◌*◌, ◌/◌, ◌<◌, ◌≤◌, min}
use native.Mathlib.Nat.{not-suc-le-zero, pos_of_ne-zero, le_of_eq, le_refl, add-zero, eq-or-lt_of_le}
use mathlib.Core.Logic.{⊎_elim}
use native.Mathlib.Omega.{arith}
use lib.ListN.{length, drop, get_or, length-append, length-map, length-take, length-drop}
use Rattle.scheme.specs.Cells.{Cell}
use Rattle.laws.specs.Records.{refs_at, RecordOk, CellsOk, refs-cons, refs_end, refs-length}
use Rattle.scheme.specs.Memory.{cell_at}
use Rattle.laws.specs.Puts.{puts, puts_then}
use Rattle.scheme.specs.Text.{digits, hex, sum, size_step, own, joined, behind, text_step, text_of}
use Rattle.text.specs.Parts.{bytes_at, around, length_step, text_length, own_at, text_at, size_at, refs_text, refs_size}
use Rattle.text.proofs.Digits.{hex-length, digits_4}
use Rattle.laws.specs.Passes.{Caps, sum-cut}
use Rattle.laws.specs.Folds.{Both, value-at, value-both}

pub own-length : (n : ℕ) (b : List ℕ) → length (own n b) ≡ length (digits 4 n) + 3 + length (hex b) + 1
unfolding own
own-length n b = simp length-append

-- ---- a cell's own part

pub own_room : (t d : List ℕ) (n len : ℕ) → len ≡ get_or t (n * 7 + 1) 0 → len ≤ 1023
    → length (own_at t d n) ≡ length (digits 20 len) + 3 + length (hex (bytes_at d n len)) + 1
own_room t d n len e l = rw (e, ← digits_4 (get_or t (n * 7 + 1) 0) (rw e at l)) (own-length (get_or t (n * 7 + 1) 0) (bytes_at d n (get_or t (n * 7 + 1) 0)))

-- the calls of `put_own`, one behind the other
pub own_put : (t d : List ℕ) (n len at a b e : ℕ) (s l₀ l₁ l₂ l₃ l₄ : List ℕ)
    → len ≡ get_or t (n * 7 + 1) 0 → len ≤ 1023 → s ≡ bytes_at d n len
    → l₁ ≡ puts l₀ at (digits 20 len) → a ≡ at + length (digits 20 len)
    → l₂ ≡ puts l₁ a (91 ∷ 48 ∷ 120 ∷ []) → b ≡ a + 3
    → l₃ ≡ puts l₂ b (hex s) → e ≡ b + length (hex s)
    → l₄ ≡ puts l₃ e (93 ∷ [])
    → l₄ ≡ puts l₀ at (own_at t d n)
unfolding own
own_put t d n len at a b e s l₀ l₁ l₂ l₃ l₄ el l es e₁ ea e₂ eb e₃ ee e₄ =
    let x : List ℕ = digits 20 len in
    let o : List ℕ = 91 ∷ 48 ∷ 120 ∷ [] in
    let q₂ = puts_then l₀ l₁ l₂ at a x o e₁ ea e₂ in
    let b₃ : b ≡ at + length (x ++ o) = omega (arith, length-append x o) in
    let q₃ = puts_then l₀ l₂ l₃ at b (x ++ o) (hex s) q₂ b₃ e₃ in
    let e₅ : e ≡ at + length (x ++ o ++ hex s) = omega (arith, length-append (x ++ o) (hex s), b₃) in
    let q₄ = puts_then l₀ l₃ l₄ at e (x ++ o ++ hex s) (93 ∷ []) q₃ e₅ e₄ in
    q₄ ∙ rw (es, ← digits_4 len l, el)

-- ---- a cell's text and size, from those of its references

behind-none : (ts : List (List ℕ)) → length ts ≡ 0 → behind ts ≡ []
unfolding behind
behind-none [] h = refl
behind-none (t ∷ ts) h = absurd (not-suc-le-zero (le_of_eq h))

behind-some : (ts : List (List ℕ)) → 0 < length ts → behind ts ≡ (32 ∷ 45 ∷ 62 ∷ 32 ∷ 123 ∷ []) ++ joined ts ++ (125 ∷ [])
unfolding behind
behind-some [] h = absurd (not-suc-le-zero h)
behind-some (t ∷ ts) h = refl

joined-two : (a b : List ℕ) (us : List (List ℕ)) → joined (a ∷ b ∷ us) ≡ a ++ (44 ∷ 32 ∷ []) ++ joined (b ∷ us)
unfolding joined
joined-two a b us = sym (append_assoc a (44 ∷ 32 ∷ []) (joined (b ∷ us)))

module _ (t d : List ℕ) (n : ℕ) (ok : RecordOk t n) where
  text-eq : text_at t d n ≡ own_at t d n ++ behind (map (text_at t d) (refs_at t n))
  unfolding cell_at bytes_at
  text-eq = value-at text_step [] t d n ok

  texts_length : length (map (text_at t d) (refs_at t n)) ≡ get_or t (n * 7 + 2) 0
  texts_length = length-map (refs_at t n) (text_at t d) ∙ refs-length t n ok

  pub text_leaf : get_or t (n * 7 + 2) 0 ≡ 0 → text_at t d n ≡ own_at t d n
  text_leaf h = text-eq ∙ rw (behind-none (map (text_at t d) (refs_at t n)) (texts_length ∙ h)) (append-nil (own_at t d n))

  pub text-node : 0 < get_or t (n * 7 + 2) 0 → text_at t d n ≡ own_at t d n ++ (32 ∷ 45 ∷ 62 ∷ 32 ∷ 123 ∷ []) ++ refs_text t d n 0 ++ (125 ∷ [])
  text-node h =
      let e = behind-some (map (text_at t d) (refs_at t n)) (omega (arith, texts_length)) in
      text-eq ∙ rw e (simp append_assoc)

  pub size-eq : size_at t d n ≡ 1 + refs_size t d n 0
  size-eq = value-at size_step 0 t d n ok

  -- what a text's parts need
  pub own-le : length (own_at t d n) ≤ length (text_at t d n)
  own-le = rw text-eq (simp length-append (omega arith))

  pub node-length : 0 < get_or t (n * 7 + 2) 0 → length (text_at t d n) ≡ length (own_at t d n) + 5 + length (refs_text t d n 0) + 1
  node-length h = rw (text-node h) (simp length-append)

  -- the calls of `print_cell` with references, one behind the other
  pub node-put : (at a b e : ℕ) (l₀ l₁ l₂ l₃ l₄ : List ℕ) → 0 < get_or t (n * 7 + 2) 0
      → l₁ ≡ puts l₀ at (own_at t d n) → a ≡ at + length (own_at t d n)
      → l₂ ≡ puts l₁ a (32 ∷ 45 ∷ 62 ∷ 32 ∷ 123 ∷ []) → b ≡ a + 5
      → l₃ ≡ puts l₂ b (refs_text t d n 0) → e ≡ b + length (refs_text t d n 0)
      → l₄ ≡ puts l₃ e (125 ∷ [])
      → l₄ ≡ puts l₀ at (text_at t d n)
  node-put at a b e l₀ l₁ l₂ l₃ l₄ h e₁ ea e₂ eb e₃ ee e₄ =
      let o : List ℕ = own_at t d n in
      let w : List ℕ = 32 ∷ 45 ∷ 62 ∷ 32 ∷ 123 ∷ [] in
      let s : List ℕ = refs_text t d n 0 in
      let q₂ = puts_then l₀ l₁ l₂ at a o w e₁ ea e₂ in
      let b₃ : b ≡ at + length (o ++ w) = omega (arith, length-append o w) in
      let q₃ = puts_then l₀ l₂ l₃ at b (o ++ w) s q₂ b₃ e₃ in
      let e₅ : e ≡ at + length (o ++ w ++ s) = omega (arith, length-append (o ++ w) s, b₃) in
      let q₄ = puts_then l₀ l₃ l₄ at e (o ++ w ++ s) (125 ∷ []) q₃ e₅ e₄ in
      q₄ ∙ ap (puts l₀ at) (sym (text-node h))

  module _ (j : ℕ) (h : j < get_or t (n * 7 + 2) 0) (r : ℕ) (e : r ≡ get_or t (n * 7 + (3 + j)) 0) where
    pub size-more : refs_size t d n j ≡ size_at t d r + refs_size t d n (j + 1)
    unfolding sum
    size-more = rw (refs-cons t n j ok h, e)

    pub size-last : get_or t (n * 7 + 2) 0 ≤ j + 1 → refs_size t d n j ≡ size_at t d r
    unfolding sum
    size-last l = rw (refs-cons t n j ok h, refs_end t n (j + 1) ok l, e) (add-zero _)

    pub text-last : get_or t (n * 7 + 2) 0 ≤ j + 1 → refs_text t d n j ≡ text_at t d r
    unfolding joined
    text-last l = rw (refs-cons t n j ok h, refs_end t n (j + 1) ok l, e)

    pub text-more : j + 1 < get_or t (n * 7 + 2) 0 → refs_text t d n j ≡ text_at t d r ++ (44 ∷ 32 ∷ []) ++ refs_text t d n (j + 1)
    text-more l =
        rw (refs-cons t n j ok h, refs-cons t n (j + 1) ok l, e)
        (joined-two (text_at t d (get_or t (n * 7 + (3 + j)) 0)) (text_at t d (get_or t (n * 7 + (3 + (j + 1))) 0))
        (map (text_at t d) (drop (j + 1 + 1) (refs_at t n))))

    pub first-le : length (text_at t d r) ≤ length (refs_text t d n j)
    first-le = ⊎_elim
        (λ q. rw (text-last (omega arith)) (le_refl _))
        (λ l. rw (text-more l) (simp length-append (omega arith)))
        (eq-or-lt_of_le {n = j + 1} {m = get_or t (n * 7 + 2) 0} (omega arith))

    pub more-length : j + 1 < get_or t (n * 7 + 2) 0 → length (refs_text t d n j) ≡ length (text_at t d r) + 2 + length (refs_text t d n (j + 1))
    more-length l = rw (text-more l) (simp length-append)

    -- the calls of `print_refs` before another reference, one behind the other
    pub more-put : (at a b : ℕ) (l₀ l₁ l₂ l₃ : List ℕ) → j + 1 < get_or t (n * 7 + 2) 0
        → l₁ ≡ puts l₀ at (text_at t d r) → a ≡ at + length (text_at t d r)
        → l₂ ≡ puts l₁ a (44 ∷ 32 ∷ []) → b ≡ a + 2
        → l₃ ≡ puts l₂ b (refs_text t d n (j + 1))
        → l₃ ≡ puts l₀ at (refs_text t d n j)
    more-put at a b l₀ l₁ l₂ l₃ l e₁ ea e₂ eb e₃ =
        let x : List ℕ = text_at t d r in
        let w : List ℕ = 44 ∷ 32 ∷ [] in
        let q₂ = puts_then l₀ l₁ l₂ at a x w e₁ ea e₂ in
        let b₃ : b ≡ at + length (x ++ w) = omega (arith, length-append x w) in
        let q₃ = puts_then l₀ l₂ l₃ at b (x ++ w) (refs_text t d n (j + 1)) q₂ b₃ e₃ in
        q₃ ∙ ap (puts l₀ at) (sym (text-more l))

-- a count of references that is not 0
pub some-refs : (t : List ℕ) (n k : ℕ) → k ≡ get_or t (n * 7 + 2) 0 → (k ≡ 0 → ⊥) → 0 < get_or t (n * 7 + 2) 0
some-refs t n k e h = rw e at (pos_of_ne-zero h)

-- the sizes of no references
pub size_leaf : (t d : List ℕ) (n : ℕ) → RecordOk t n → get_or t (n * 7 + 2) 0 ≡ 0 → refs_size t d n 0 ≡ 0
unfolding sum
size_leaf t d n ok h = rw (refs_end t n 0 ok (le_of_eq h))

pub cells-down : (t d : List ℕ) (n r : ℕ) → CellsOk t d (n + 1) → r < n → CellsOk t d (r + 1)
cells-down t d n r s h i l = s i (omega arith)

-- ---- lengths

pub bytes-length : (d : List ℕ) (i len : ℕ) → i * 128 + 128 ≤ length d → len ≤ 1023 → length (bytes_at d i len) ≡ (len + 7) / 8
unfolding bytes_at
bytes-length d i len h l = simp (length-take, length-drop) (omega arith)

pub own-width : (t d : List ℕ) (i len w : ℕ) → i * 128 + 128 ≤ length d → len ≡ get_or t (i * 7 + 1) 0 → len ≤ 1023 → w ≡ length (digits 20 len)
    → length (own_at t d i) ≡ w + 3 + 2 * ((len + 7) / 8) + 1
own-width t d i len w h e l q = omega (arith, own_room t d i len e l, hex-length (bytes_at d i len), bytes-length d i len h l, q)

pub around-none : (k : ℕ) → k ≡ 0 → around k ≡ 0
unfolding around
around-none k h = rw h

pub around-some : (k : ℕ) → 0 < k → around k ≡ 4 + 2 * k
unfolding around
around-some zero h = absurd (not-suc-le-zero h)
around-some (suc k) h = omega arith

pub around-le : (k : ℕ) → k ≤ 4 → around k ≤ 12
unfolding around
around-le zero h = omega arith
around-le (suc k) h = omega arith

-- the length by number is the text's length
Long : ℕ → List ℕ → Type 0
Long n t = n ≡ length t

-- the lengths of texts and of what stands between them
joined-long : (n : ℕ) (ns : List ℕ) (t : List ℕ) (ts : List (List ℕ)) → Both Long (n ∷ ns) (t ∷ ts) → length (joined (t ∷ ts)) ≡ 2 * length ns + sum (n ∷ ns)
unfolding sum joined Long
joined-long n [] t [] h = omega (arith, h.0)
joined-long n [] t (u ∷ us) h = absurd h.1
joined-long n (m ∷ ms) t [] h = absurd h.1
joined-long n (m ∷ ms) t (u ∷ us) h =
    let e = joined-long m ms u us h.1 in
    simp length-append (omega (arith, h.0, e))

long-step : (c : Cell) (ns : List ℕ) (ts : List (List ℕ)) → Both Long ns ts → Long (length_step c ns) (text_step c ts)
unfolding Long behind sum around
long-step c [] [] h = simp length-append (omega arith)
long-step c [] (t ∷ ts) h = absurd h
long-step c (n ∷ ns) [] h = absurd h
long-step c (n ∷ ns) (t ∷ ts) h = simp length-append (omega (arith, joined-long n ns t ts h))

pub length-eq : (cs : ℕ → Cell) (n : ℕ) → text_length cs n ≡ length (text_of cs n)
unfolding Long
length-eq cs n = value-both Long length_step text_step 0 [] cs n refl (λ i l xs ys e h. long-step (cs i) xs ys h) n (le_refl n)

-- the step may cut the lengths that it is given before it cuts its own
pub caps-length : (m : ℕ) → Caps m length_step
caps-length m c vs = rw (length-map vs (min m)) (sum-cut m (length (own c.len c.bytes) + around (length vs)) vs)
