-- What an accepted read says of its bytes, field by field. That its cells are whole, fit to be stored, and linked is in proofs/Accept.
-- Assumes nothing.
use Rattle.std.specs.Prelude.{◌≡◌, refl, ◌≢◌, ℕ, zero, suc, ◌+◌, ◌-◌, ◌*◌, ◌/◌, ◌%◌, ◌^◌, ◌≤◌, ◌<◌, Bool, true, false, cond, not, ◌||◌, ◌&&◌, length, take, drop, get_or, eqb, leb, ltb, Ok, Err}
use Rattle.std.proofs.Common.{ap, not-suc-le-zero, arith, length-drop, leb-true, ltb-true, eqb-true, length-take-le}
use mathlib.Core.List.Memᴰ.{head as here}
use mathlib.Core.List.Memᴰ.{tail as there}
use mathlib.Core.List.{List, [], ◌∷◌, map, Memᴰ as Mem}
use Rattle.std.proofs.lemmas.Bool.{eqb-false, not-true}
use Rattle.laws.specs.Tests.{and_left, and_right}
use Rattle.scheme.specs.Refusals.{CUT, REFS, PADDING, BACK, RANGE, ROOT}
use Rattle.scheme.specs.Cells.{Cell}
use Rattle.scheme.specs.Bag.{load, hashes, Bits, bits, raw_cell, refs_ok, links, roots_ok, Got, Past, Bag}
use Rattle.laws.specs.Meaning.{Linked}
use Rattle.scheme.specs.Bytes.{unbe, chunk, field, fields}
use Rattle.scheme.specs.Bits.{zeros, last_of, unmark}
use Rattle.scheme.specs.Res.{Res, then, check, refusal}
use Rattle.scheme.specs.declared.Refusal.{Refusal}
use Rattle.laws.specs.CellRound.{Fit, all_below, all_below-true, last_mem}

-- a step that went well, taken apart: its first part went well with some a, and the rest at a
pub then_use : {A B C : Type 0} (x : Res A) (f : A → Res B) (b : B) → then x f ≡ Ok b → ((a : A) → x ≡ Ok a → f a ≡ Ok b → C) → C
then_use (Err r) f b e k = let z : ◌≡◌ {A = ℕ} 0 1 = cc in absurd (omega arith)
then_use (Ok a) f b e k = k a refl e

pub check_inv : (t : Bool) (r : Refusal) (u : Unit {0}) → check t r ≡ Ok u → t ≡ true
check_inv true r u e = refl
check_inv false r u e = cc

pub fields-length : (b : List ℕ) (k n p : ℕ) (xs : List ℕ) → fields b k n p ≡ Ok xs → length xs ≡ n
fields-length b k zero p xs e = let q : xs ≡ [] = cc in rw q
fields-length b k (suc n) p xs e =
    then_use (field b p k) _ _ e λ y ey e₁.
    then_use (fields b k n (p + k)) _ _ e₁ λ ys es e₂.
    let q : xs ≡ y ∷ ys = cc in rw q (ap suc (fields-length b k n (p + k) ys es))

abbrev pub Small : List ℕ → Type 0
Small l = (x : ℕ) → Mem x l → x < 256

pub mem-take : (k : ℕ) (l : List ℕ) (x : ℕ) → Mem x (take k l) → Mem x l
mem-take zero l x m = elim m [ ]
mem-take (suc k) [] x m = m
mem-take (suc k) (y ∷ ys) x (here e) = here e
mem-take (suc k) (y ∷ ys) x (there m) = there (mem-take k ys x m)

pub mem-drop : (k : ℕ) (l : List ℕ) (x : ℕ) → Mem x (drop k l) → Mem x l
mem-drop zero l x m = m
mem-drop (suc k) [] x m = m
mem-drop (suc k) (y ∷ ys) x m = there (mem-drop k ys x m)

pub chunk-inv : (b : List ℕ) (p k : ℕ) (xs : List ℕ) → chunk b p k ≡ Ok xs → Small b → (length xs ≡ k) × Small xs
unfolding chunk
chunk-inv b p k xs e S =
    then_use (check (leb (p + k) (length b)) (refusal CUT p)) _ _ e λ u c e₁.
    let h = leb-true (p + k) (length b) (check_inv (leb (p + k) (length b)) (refusal CUT p) u c) in
    let q : xs ≡ take k (drop p b) = cc in
    rw q (length-take-le k (drop p b) (omega (arith, length-drop p b)), λ x m. S x (mem-drop p b x (mem-take k (drop p b) x m)))

-- a number of one byte
pub byte-inv : (b : List ℕ) (p x : ℕ) → field b p 1 ≡ Ok x → Small b → x < 256
unfolding field
byte-inv b p x e S =
    then_use (chunk b p 1) _ _ e λ xs c e₁.
    let r = chunk-inv b p 1 xs c S in
    go xs r.0 r.1 e₁
  where
    go : (xs : List ℕ) → length xs ≡ 1 → Small xs → ◌≡◌ {A = Res ℕ} (Ok (unbe 0 xs)) (Ok x) → x < 256
    go [] n T e = absurd (omega arith)
    go (y ∷ []) n T e = let q : 0 * 256 + y ≡ x = cc in omega (arith, T y (here refl))
    go (y ∷ z ∷ zs) n T e = absurd (omega arith)

-- what the bits of a stored cell keep to
pub record FitBits (w : Bits) : Type 0 where
  pub few : w.len ≤ 1023
  pub many : length w.bytes ≡ (w.len + 7) / 8
  pub small : Small w.bytes
  pub clean : (w.len % 8 ≡ 0 → ⊥) → last_of w.bytes % 2 ^ (8 - w.len % 8) ≡ 0

-- a byte that is not 0: its last 1 bit
abbrev drop_test : ℕ → Bool
drop_test y = eqb y 0 || (leb (zeros 8 y) 7 && eqb ((y - 2 ^ zeros 8 y) % 2 ^ suc (zeros 8 y)) 0)

drop_tests : all_below 256 (λ y. drop_test y) ≡ true
drop_tests = refl

drop_fact : (y : ℕ) → y < 256 → eqb y 0 ≡ false → (zeros 8 y ≤ 7) × ((y - 2 ^ zeros 8 y) % 2 ^ suc (zeros 8 y) ≡ 0)
drop_fact y h e =
    let t = all_below-true 256 (λ y. drop_test y) drop_tests y h in
    let u : (leb (zeros 8 y) 7 && eqb ((y - 2 ^ zeros 8 y) % 2 ^ suc (zeros 8 y)) 0) ≡ true = rw e at t in
    (leb-true (zeros 8 y) 7 (and_left (leb (zeros 8 y) 7) _ u), eqb-true _ 0 (and_right (leb (zeros 8 y) 7) _ u))

last_some : (l : List ℕ) → eqb (last_of l) 0 ≡ false → 0 < length l
last_some [] e = absurd (eqb-false 0 0 e refl)
last_some (x ∷ xs) e = omega arith

unmark-drop : (l : List ℕ) → length (unmark 7 l) ≡ length l - 1
unmark-drop [] = refl
unmark-drop (x ∷ []) = refl
unmark-drop (x ∷ y ∷ ys) = let ih = unmark-drop (y ∷ ys) in omega arith

unmark-length : (t : ℕ) (l : List ℕ) → eqb t 7 ≡ false → length (unmark t l) ≡ length l
unmark-length t [] e = refl
unmark-length t (x ∷ []) e = rw e
unmark-length t (x ∷ y ∷ ys) e = ap suc (unmark-length t (y ∷ ys) e)

unmark-last : (t : ℕ) (l : List ℕ) → eqb t 7 ≡ false → 0 < length l → last_of (unmark t l) ≡ last_of l - 2 ^ t
unmark-last t [] e h = absurd (not-suc-le-zero h)
unmark-last t (x ∷ []) e h = rw e
unmark-last t (x ∷ y ∷ []) e h = rw e
unmark-last t (x ∷ y ∷ z ∷ zs) e h = unmark-last t (y ∷ z ∷ zs) e (omega arith)

unmark-small : (t : ℕ) (l : List ℕ) → Small l → Small (unmark t l)
unmark-small t [] S z m = S z m
unmark-small t (x ∷ []) S z m = go (eqb t 7) z m
  where
    go : (b : Bool) → Small (cond b [] ((x - 2 ^ t) ∷ []))
    go true y m = elim m [ ]
    go false y (here e) = omega (arith, S x (here refl))
    go false y (there m) = elim m [ ]
unmark-small t (x ∷ y ∷ ys) S z (here e) = S z (here e)
unmark-small t (x ∷ y ∷ ys) S z (there m) = unmark-small t (y ∷ ys) (λ u k. S u (there k)) z m

last-bits : (k t : ℕ) → 0 < k → t < 7 → 8 - (8 * k - 1 - t) % 8 ≡ suc t
last-bits k t h g = let q : (8 * k - 1 - t) / 8 ≡ k - 1 = omega arith in omega arith

last-bytes : (k t : ℕ) → 0 < k → t < 7 → k ≡ (8 * k - 1 - t + 7) / 8
last-bytes k t h g = omega arith

pub bits_fit_lem : (d2 q : ℕ) (xs : List ℕ) (w : Bits) → d2 < 256 → length xs ≡ (d2 + 1) / 2 → Small xs → bits (eqb (d2 % 2) 1) q xs ≡ Ok w → FitBits w
unfolding bits
bits_fit_lem d2 q xs w h n S e = go (eqb (d2 % 2) 1) refl e
  where
    marked : (t : ℕ) → eqb (last_of xs) 0 ≡ false → t ≡ zeros 8 (last_of xs) → (b : Bool) → eqb t 7 ≡ b → FitBits (record { len = 8 * length xs - 1 - t; bytes = unmark t xs })
    marked t z et true eb =
        let e7 = eqb-true t 7 eb in
        let some = last_some xs z in
        record { few = omega arith; many = rw e7 (omega (arith, unmark-drop xs)); small = unmark-small t xs S; clean = λ c. absurd (c (omega arith)) }
    marked t z et false eb =
        let e7 : t ≢ 7 = eqb-false t 7 eb in
        let some = last_some xs z in
        let f = drop_fact (last_of xs) (S (last_of xs) (last_mem xs some)) z in
        let g : t ≤ 7 = omega (arith, f.0) in
        let eight : 8 - (8 * length xs - 1 - t) % 8 ≡ suc t = last-bits (length xs) t some (omega arith) in
        record {
          few = omega arith;
          many = rw (unmark-length t xs eb) (last-bytes (length xs) t some (omega arith));
          small = unmark-small t xs S;
          clean = λ c. rw (unmark-last t xs eb some, eight, et) f.1;
        }

    go : (odd : Bool) → eqb (d2 % 2) 1 ≡ odd → bits odd q xs ≡ Ok w → FitBits w
    go false o e =
        let even : d2 % 2 ≢ 1 = eqb-false (d2 % 2) 1 o in
        let r : w ≡ record { len = 8 * length xs; bytes = xs } = cc in
        rw r (record { few = omega arith; many = omega arith; small = S; clean = λ c. absurd (c (omega arith)) })
    go true o e =
        then_use (check (not (eqb (last_of xs) 0)) (refusal PADDING q)) _ _ e λ u c e₁.
        let r : w ≡ record { len = 8 * length xs - 1 - zeros 8 (last_of xs); bytes = unmark (zeros 8 (last_of xs)) xs } = cc in
        rw r (marked (zeros 8 (last_of xs)) (not-true (eqb (last_of xs) 0) (check_inv (not (eqb (last_of xs) 0)) (refusal PADDING q) u c)) refl (eqb (zeros 8 (last_of xs)) 7) refl)

pub cell-fit : (b : List ℕ) (size p : ℕ) (c : Past Cell) → raw_cell b size p ≡ Ok c → Small b → Fit c.it
unfolding raw_cell
cell-fit b size p c e S =
    then_use (field b p 1) _ _ e λ d1 x₁ e₁.
    then_use (check (leb (d1 % 8) 4) (refusal REFS p)) _ _ e₁ λ u₂ x₂ e₂.
    then_use (field b (p + 1) 1) _ _ e₂ λ d2 x₃ e₃.
    then_use (chunk b (p + 2) (hashes d1)) _ _ e₃ λ u₄ x₄ e₄.
    then_use (chunk b (p + 2 + hashes d1) ((d2 + 1) / 2)) _ _ e₄ λ xs x₅ e₅.
    then_use (bits (eqb (d2 % 2) 1) (p + 2 + hashes d1) xs) _ _ e₅ λ w x₆ e₆.
    then_use (fields b size (d1 % 8) (p + 2 + hashes d1 + (d2 + 1) / 2)) _ _ e₆ λ rs x₇ e₇.
    let r = chunk-inv b (p + 2 + hashes d1) ((d2 + 1) / 2) xs x₅ S in
    let W = bits_fit_lem d2 (p + 2 + hashes d1) xs w (byte-inv b (p + 1) d2 x₃ S) r.0 r.1 x₆ in
    let few = leb-true (d1 % 8) 4 (check_inv (leb (d1 % 8) 4) (refusal REFS p) u₂ x₂) in
    let n = fields-length b size (d1 % 8) (p + 2 + hashes d1 + (d2 + 1) / 2) rs x₇ in
    let q : record { exotic = d1 / 8 % 2; len = w.len; bytes = w.bytes; refs = rs } ≡ c.it = cc in
    rw (← q) (record { flag = omega arith; few = W.few; many = W.many; small = W.small; clean = W.clean; arity = omega arith })

refs-inv : (i n : ℕ) (rs : List ℕ) (u : Unit {0}) → refs_ok i n rs ≡ Ok u → (r : ℕ) → Mem r rs → (i < r) × (r < n)
refs-inv i n [] u e r m = elim m [ ]
refs-inv i n (y ∷ ys) u e r m =
    then_use (check (ltb i y) (refusal BACK i)) _ _ e λ u₁ x₁ e₁.
    then_use (check (ltb y n) (refusal RANGE i)) _ _ e₁ λ u₂ x₂ e₂.
    go (ltb-true i y (check_inv (ltb i y) (refusal BACK i) u₁ x₁), ltb-true y n (check_inv (ltb y n) (refusal RANGE i) u₂ x₂)) (refs-inv i n ys u e₂) m
  where
    go : (i < y) × (y < n) → ((r : ℕ) → Mem r ys → (i < r) × (r < n)) → Mem r (y ∷ ys) → (i < r) × (r < n)
    go h ih (here q) = rw q h
    go h ih (there m) = ih r m

pub links-inv : (i n : ℕ) (cs : List Cell) (u : Unit {0}) → links i n cs ≡ Ok u → n ≡ i + length cs → Linked i cs
links-inv i n [] u e q = tt
links-inv i n (c ∷ cs) u e q =
    then_use (links (suc i) n cs) _ _ e λ u₁ x₁ e₁.
    (λ r m. let h = refs-inv i n c.refs u e₁ r m in omega arith, links-inv (suc i) n cs u₁ x₁ (omega arith))

pub roots-inv : (k n : ℕ) (rs : List ℕ) (u : Unit {0}) → roots_ok k n rs ≡ Ok u → (r : ℕ) → Mem r rs → r < n
roots-inv k n [] u e r m = elim m [ ]
roots-inv k n (y ∷ ys) u e r m =
    then_use (check (ltb y n) (refusal ROOT k)) _ _ e λ u₁ x₁ e₁.
    go (ltb-true y n (check_inv (ltb y n) (refusal ROOT k) u₁ x₁)) (roots-inv (suc k) n ys u e₁) m
  where
    go : y < n → ((r : ℕ) → Mem r ys → r < n) → Mem r (y ∷ ys) → r < n
    go h ih (here q) = rw q h
    go h ih (there m) = ih r m

-- what a bag that is accepted says: cells fit to be stored, linked, and roots inside
pub record Whole (g : Bag) : Type 0 where
  pub fit : (c : Cell) → Mem c g.cells → Fit c
  pub linked : Linked 0 g.cells
  pub inside : (r : ℕ) → Mem r g.roots → r < length g.cells

-- an accepted read: the bag, and what was stored
pub record Accepted (cap : ℕ) (s : List Cell) (g : Got) : Type 0 where
  pub bag : Bag
  pub whole : Whole bag
  pub cells_is : g.counts.cells ≡ length bag.cells
  pub roots-is : g.counts.roots ≡ length bag.roots
  pub store_is : g.store ≡ (load s 0 bag.cells).store
  pub names-is : g.names ≡ map (λ (r : ℕ). get_or (load s 0 bag.cells).nums r 0) bag.roots
  pub added_is : g.counts.added ≡ length g.store - length s
  pub free : length g.store ≤ cap
