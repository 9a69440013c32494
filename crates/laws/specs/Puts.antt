-- Bytes written at a place, one after another. Assumes nothing.
use Rattle.std.specs.Prelude.{◌≡◌, refl, List, [], ◌∷◌, ◌++◌, ℕ, suc, ◌+◌, ◌<◌, ◌≤◌, length, take, drop, get_or, set}
use Rattle.std.proofs.Common.{sym, ◌∙◌, add-zero, zero-add, add_assoc, add-one, arith, length-set, drop-cons, drop-drop, append_assoc}
use Rattle.std.proofs.lemmas.List.Edits.{sets, sets-eq}
use Rattle.std.proofs.lemmas.List.{set_comm}
use borrow.Rule.Slice.PartMut.{put_mid}

-- vs written from place i on
unfoldable pub puts : {A : Type 0} → List A → ℕ → List A → List A
puts l i [] = l
puts l i (v ∷ vs) = puts (set l i v) (i + 1) vs

pub puts-nil : (l : List ℕ) (i : ℕ) → puts l i [] ≡ l
unfolding puts
puts-nil l i = refl

pub puts_one : (l : List ℕ) (i v : ℕ) → set l i v ≡ puts l i (v ∷ [])
unfolding puts
puts_one l i v = refl

pub puts-length : (l : List ℕ) (i : ℕ) (vs : List ℕ) → length (puts l i vs) ≡ length l
unfolding puts
puts-length l i [] = refl
puts-length l i (v ∷ vs) = puts-length (set l i v) (i + 1) vs ∙ length-set l i v

-- a turn of a loop that writes src from place `at` on: what is left to write is one less
pub puts-turn : (src out : List ℕ) (at i : ℕ) (X : List ℕ) → i < length src → puts out (at + i) (drop i src) ≡ X
    → puts (set out (at + i) (get_or src i 0)) (at + (i + 1)) (drop (i + 1) src) ≡ X
unfolding puts
puts-turn src out at i X h p = rw (← add_assoc at i 1) (rw (add-one i) (rw (drop-cons src i 0 h) at p))

-- two runs, one behind the other
pub puts-append : (l : List ℕ) (i : ℕ) (a b : List ℕ) → puts (puts l i a) (i + length a) b ≡ puts l i (a ++ b)
unfolding puts
puts-append l i [] b = rw add-zero
puts-append l i (v ∷ a) b =
    let e : i + suc (length a) ≡ i + 1 + length a = omega arith in
    rw e (puts-append (set l i v) (i + 1) a b)

-- what is left, behind what is written now
pub puts-on : (l m : List ℕ) (i j : ℕ) (a b : List ℕ) → m ≡ puts l i a → j ≡ i + length a → puts m j b ≡ puts l i (a ++ b)
puts-on l m i j a b e q = rw (e, q) (puts-append l i a b)

-- the same with a named seam
pub puts_then : (l m k : List ℕ) (i j : ℕ) (a b : List ℕ) → m ≡ puts l i a → j ≡ i + length a → k ≡ puts m j b → k ≡ puts l i (a ++ b)
puts_then l m k i j a b e q r = r ∙ puts-on l m i j a b e q

puts_sets : {A : Type 0} (l : List A) (i : ℕ) (vs : List A) → puts l i vs ≡ sets l i vs
unfolding puts
puts_sets l i [] = refl
puts_sets l i (v ∷ vs) = rw add-one (puts_sets (set l i v) (suc i) vs)

-- what is written, as the parts of the whole
pub puts-parts : {A : Type 0} (l : List A) (i : ℕ) (vs : List A) → i + length vs ≤ length l → puts l i vs ≡ take i l ++ vs ++ drop (i + length vs) l
puts-parts l i vs h = puts_sets l i vs ∙ sets-eq vs l i h

-- a part of the list overwritten by vs
pub puts-part : {A : Type 0} (l : List A) (i k : ℕ) (ws vs : List A) → i + length vs ≤ length l → k ≡ length vs → ws ≡ vs → put_mid i k l ws ≡ puts l i vs
puts-part l i k ws vs h e f = rw (e, f, drop-drop (length vs) i l, ← append_assoc (take i l) vs (drop (i + length vs) l)) (sym (puts-parts l i vs h))

-- at the start
pub puts-start : (l vs : List ℕ) → length vs ≤ length l → puts l 0 vs ≡ vs ++ drop (length vs) l
puts-start l vs h = puts-parts l 0 vs (rw zero-add h) ∙ rw zero-add

-- a store behind what is written
pub puts-set : (l : List ℕ) (i : ℕ) (vs : List ℕ) (k v : ℕ) → i + length vs ≤ k → puts (set l k v) i vs ≡ set (puts l i vs) k v
unfolding puts
puts-set l i [] k v h = refl
puts-set l i (x ∷ vs) k v h = rw (set_comm l k i v x (λ e. omega arith)) (puts-set (set l i x) (i + 1) vs k v (omega arith))
