-- Laws of lists: one that is filled from the front; members and places. Assumes nothing.
use Rattle.std.specs.Prelude.{◌≡◌, refl, ℕ, zero, suc, ◌+◌, ◌-◌, ◌<◌, ◌≤◌, length, take, drop, get_or, set}
use Rattle.std.proofs.Common.{sym, ◌∙◌, not-suc-le-zero, le_of_suc-le-suc, add-one, arith, length-drop, drop-cons, take_all}
use mathlib.Core.List.Memᴰ.{head as here}
use mathlib.Core.List.Memᴰ.{tail as there}
use mathlib.Core.List.{List, [], ◌∷◌, ◌++◌, map, Memᴰ as Mem}
use Rattle.std.proofs.lemmas.List.{set_at}
use Rattle.std.proofs.Math.Seq.{append_snoc}

-- a store behind p, which is as long as i, makes p one longer
pub filled : (p d : List ℕ) (i v : ℕ) → length p ≡ i → i < length d → set (p ++ drop i d) i v ≡ (p ++ (v ∷ [])) ++ drop (i + 1) d
filled p d i v e h =
    rw (drop-cons d i 0 h, add-one)
    (set_at p (get_or d i 0) (drop (suc i) d) v i e ∙ sym (append_snoc p v (drop (suc i) d)))

-- nothing is left behind the last place
pub drop_all : (d : List ℕ) (i : ℕ) → length d ≤ i → drop i d ≡ []
drop_all [] zero h = refl
drop_all [] (suc i) h = refl
drop_all (x ∷ d) zero h = absurd (not-suc-le-zero h)
drop_all (x ∷ d) (suc i) h = drop_all d i (le_of_suc-le-suc h)

-- the part of a list from a place on, as code lends it
pub rest-is : (p : ℕ) (l : List ℕ) → take (length l - p) (drop p l) ≡ drop p l
rest-is p l = take_all (length l - p) (drop p l) (simp length-drop (omega arith))

-- ---- members

-- a member of a map is the image of a member
pub mem-map {ℓ κ} : {A : Type ℓ} {B : Type κ} (f : A → B) (l : List A) (y : B) → Mem y (map f l) → (x : A) × Mem x l × (y ≡ f x)
mem-map {A = A} {B = B} f [] y x' = elim x' [ ]
mem-map f (x ∷ xs) y (here e) = (x, here refl, e)
mem-map f (x ∷ xs) y (there m) = let r = mem-map f xs y m in (r.0, there r.1, r.2)

-- functions that agree on the members have the same map
pub map_on : (f g : ℕ → ℕ) (l : List ℕ) → ((x : ℕ) → Mem x l → f x ≡ g x) → map f l ≡ map g l
map_on f g [] h = refl
map_on f g (x ∷ xs) h = let p = h x (here refl) in let q = map_on f g xs (λ y m. h y (there m)) in cc

pub get_or-map : (f : ℕ → ℕ) (l : List ℕ) (k : ℕ) → k < length l → get_or (map f l) k 0 ≡ f (get_or l k 0)
get_or-map f [] k h = absurd (not-suc-le-zero h)
get_or-map f (x ∷ xs) zero h = refl
get_or-map f (x ∷ xs) (suc k) h = get_or-map f xs k (le_of_suc-le-suc h)

-- what stands at a place is a member, and a member stands at a place
pub mem-at : (l : List ℕ) (k : ℕ) → k < length l → Mem (get_or l k 0) l
mem-at [] k h = absurd (not-suc-le-zero h)
mem-at (x ∷ xs) zero h = here refl
mem-at (x ∷ xs) (suc k) h = there (mem-at xs k (le_of_suc-le-suc h))

pub mem-place : (l : List ℕ) (x : ℕ) → Mem x l → (j : ℕ) × (j < length l) × (x ≡ get_or l j 0)
mem-place [] x x3 = elim x3 [ ]
mem-place (y ∷ ys) x (here e) = (0, omega arith, e)
mem-place (y ∷ ys) x (there m) = let r = mem-place ys x m in let h = r.1 in (suc r.0, omega arith, r.2)
