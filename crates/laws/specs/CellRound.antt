-- A written cell reads back as the cell.
-- Assumes nothing.
use Rattle.std.specs.Prelude.{◌≡◌, ◌≢◌, ℕ, zero, suc, ◌+◌, ◌-◌, ◌*◌, ◌/◌, ◌%◌, ◌^◌, ◌≤◌, ◌<◌, Bool, cond, not, ◌||◌, ◌&&◌, leb, Ok}
use Rattle.std.proofs.Math.Path.{refl}
use Rattle.std.proofs.Common.{sym, ap, ◌∙◌, not-suc-le-zero, length-append}
use native.Mathlib.Omega.{arith}
use Rattle.std.proofs.Math.Bool.{true, false}
use mathlib.Core.List.Memᴰ.{head as here}
use mathlib.Core.List.Memᴰ.{tail as there}
use mathlib.Core.List.{List, [], ◌∷◌, ◌++◌, append_assoc, Memᴰ as Mem}
use Rattle.std.proofs.Math.ListN.{length}
use Rattle.std.proofs.Math.Dec.{eqb}
use borrow.Author.Tests.{le-leb, ne_eqb, eqb-true, eqb-false, eq-eqb, not-true}
use Rattle.laws.specs.Tests.{and_left, and_right}
use Rattle.scheme.specs.Cells.{Cell}
use Rattle.laws.specs.CellLaws.{cell_path}
use Rattle.scheme.specs.Bytes.{be, fields}
use Rattle.scheme.specs.Bits.{zeros, last_of, mark, unmark, mask}
use Rattle.laws.specs.Fields.{At, at_move, at_same, at_next, at-chunk, field-be, field-byte, length-be}
use Rattle.scheme.specs.Bag.{hashes, bits, Bits, raw_cell, Past}
use Rattle.scheme.specs.Write.{Leveled, refs_descriptor, bits_descriptor, padded, all_be, cell_bytes}

-- what a stored cell keeps to
pub record Fit (c : Cell) : Type 0 where
  pub flag : c.exotic ≤ 1
  pub few : c.len ≤ 1023
  pub many : length c.bytes ≡ (c.len + 7) / 8
  pub small : (x : ℕ) → Mem x c.bytes → x < 256
  pub clean : (c.len % 8 ≡ 0 → ⊥) → last_of c.bytes % 2 ^ (8 - c.len % 8) ≡ 0
  pub arity : length c.refs ≤ 4

-- every number below n passes the test
abbrev pub all_below : ℕ → (ℕ → Bool) → Bool
all_below zero f = true
all_below (suc n) f = f n && all_below n f

pub all_below-true : (n : ℕ) (f : ℕ → Bool) → all_below n f ≡ true → (k : ℕ) → k < n → f k ≡ true
all_below-true zero f e k h = absurd (not-suc-le-zero h)
all_below-true (suc n) f e k h = go (eqb k n) refl (all_below-true n f (and_right (f n) (all_below n f) e))
  where
    go : (b : Bool) → eqb k n ≡ b → ((k : ℕ) → k < n → f k ≡ true) → f k ≡ true
    go true q ih = rw (eqb-true k n q) (and_left (f n) (all_below n f) e)
    go false q ih = let d : k ≢ n = eqb-false k n q in ih k (omega arith)

-- a byte x whose bits past the first j are 0, with a 1 bit put behind these j: the zeros behind that are 7 - j, and the byte is not 0
abbrev pad_test : ℕ → ℕ → Bool
pad_test x j = eqb j 0 || (not (eqb (x % 2 ^ (8 - j)) 0) || (eqb (zeros 8 (x + 2 ^ (7 - j))) (7 - j) && not (eqb (x + 2 ^ (7 - j)) 0)))

pad_tests : all_below 256 (λ x. all_below 8 (λ j. pad_test x j)) ≡ true
pad_tests = refl

pad_fact : (x j : ℕ) → x < 256 → j < 8 → eqb j 0 ≡ false → eqb (x % 2 ^ (8 - j)) 0 ≡ true → (zeros 8 (x + 2 ^ (7 - j)) ≡ 7 - j) × (eqb (x + 2 ^ (7 - j)) 0 ≡ false)
pad_fact x j hx hj p q =
    let t = all_below-true 8 (λ j. pad_test x j) (all_below-true 256 (λ x. all_below 8 (λ j. pad_test x j)) pad_tests x hx) j hj in
    let u : (eqb (zeros 8 (x + 2 ^ (7 - j))) (7 - j) && not (eqb (x + 2 ^ (7 - j)) 0)) ≡ true = rw (p, q) at t in
    (eqb-true _ _ (and_left (eqb (zeros 8 (x + 2 ^ (7 - j))) (7 - j)) _ u), not-true (eqb (x + 2 ^ (7 - j)) 0) (and_right (eqb (zeros 8 (x + 2 ^ (7 - j))) (7 - j)) _ u))

pub last-mark : (m : ℕ) (l : List ℕ) → 0 < length l → last_of (mark m l) ≡ last_of l + m
last-mark m [] h = absurd (not-suc-le-zero h)
last-mark m (x ∷ []) h = refl
last-mark m (x ∷ y ∷ []) h = refl
last-mark m (x ∷ y ∷ z ∷ zs) h = last-mark m (y ∷ z ∷ zs) (omega arith)

pub length-mark : (m : ℕ) (l : List ℕ) → length (mark m l) ≡ length l
length-mark m [] = refl
length-mark m (x ∷ []) = refl
length-mark m (x ∷ y ∷ ys) = ap suc (length-mark m (y ∷ ys))

pub length-mask : (k : ℕ) (l : List ℕ) → length (mask k l) ≡ length l
length-mask k [] = refl
length-mask k (x ∷ []) = refl
length-mask k (x ∷ y ∷ ys) = ap suc (length-mask k (y ∷ ys))

unmark-mark : (t : ℕ) (l : List ℕ) → eqb t 7 ≡ false → unmark t (mark (2 ^ t) l) ≡ l
unmark-mark t [] e = refl
unmark-mark t (x ∷ []) e = let q : x + 2 ^ t - 2 ^ t ≡ x = omega arith in rw (e, q)
unmark-mark t (x ∷ y ∷ []) e = let q : y + 2 ^ t - 2 ^ t ≡ y = omega arith in rw (e, q)
unmark-mark t (x ∷ y ∷ z ∷ zs) e = rw (unmark-mark t (y ∷ z ∷ zs) e)

pub last_mem : (l : List ℕ) → 0 < length l → Mem (last_of l) l
last_mem [] h = absurd (not-suc-le-zero h)
last_mem (x ∷ []) h = here refl
last_mem (x ∷ y ∷ ys) h = there (last_mem (y ∷ ys) (omega arith))

bits_path : (a b : Bits) → a.len ≡ b.len → a.bytes ≡ b.bytes → a ≡ b
bits_path a b p q = λ i. record { len = p i; bytes = q i }

module _ (c : Cell) (F : Fit c) where
  bits_back : (q : ℕ) → bits (eqb (bits_descriptor c.len % 2) 1) q (padded c) ≡ Ok (record { len = c.len; bytes = c.bytes })
  unfolding bits
  bits_back q = go (eqb (c.len % 8) 0) refl
    where
      go : (b : Bool) → eqb (c.len % 8) 0 ≡ b → bits (eqb (bits_descriptor c.len % 2) 1) q (cond b c.bytes (mark (2 ^ (7 - c.len % 8)) c.bytes)) ≡ Ok (record { len = c.len; bytes = c.bytes })
      go true e =
          let z = eqb-true (c.len % 8) 0 e in
          let even : bits_descriptor c.len % 2 ≡ 0 = omega arith in
          let n : 8 * length c.bytes ≡ c.len = omega (arith, F.many) in
          rw (even, n)
      go false e =
          let z : c.len % 8 ≢ 0 = eqb-false (c.len % 8) 0 e in
          let odd : bits_descriptor c.len % 2 ≡ 1 = omega arith in
          let some : 0 < length c.bytes = omega (arith, F.many) in
          let fact = pad_fact (last_of c.bytes) (c.len % 8) (F.small (last_of c.bytes) (last_mem c.bytes some)) (omega arith) e (eq-eqb _ _ (F.clean z)) in
          let seven : eqb (7 - c.len % 8) 7 ≡ false = ne_eqb (7 - c.len % 8) 7 (λ g. omega arith) in
          rw (odd, last-mark (2 ^ (7 - c.len % 8)) c.bytes some, fact.1, fact.0, unmark-mark (7 - c.len % 8) c.bytes seven, length-mark (2 ^ (7 - c.len % 8)) c.bytes)
          (ap Ok (bits_path _ _ (omega (arith, F.many)) refl))

  pub length-padded : length (padded c) ≡ (c.len + 7) / 8
  length-padded = go (eqb (c.len % 8) 0)
    where
      go : (b : Bool) → length (cond b c.bytes (mark (2 ^ (7 - c.len % 8)) c.bytes)) ≡ (c.len + 7) / 8
      go true = F.many
      go false = length-mark (2 ^ (7 - c.len % 8)) c.bytes ∙ F.many

pub length-refs : (size : ℕ) (rs : List ℕ) → length (all_be size rs) ≡ length rs * size
length-refs size [] = omega arith
length-refs size (r ∷ rs) = omega (arith, length-append (be size r) (all_be size rs), length-be size r, length-refs size rs)

pub refs-back : {b : List ℕ} (size : ℕ) {p : ℕ} (rs l : List ℕ) → At b p (all_be size rs ++ l) → ((r : ℕ) → Mem r rs → r < 256 ^ size) → fields b size (length rs) p ≡ Ok rs
refs-back size [] l A h = refl
refs-back {b = b} size {p = p} (r ∷ rs) l A h =
    let A₁ = at_same (be size r ++ (all_be size rs ++ l)) A (append_assoc (be size r) (all_be size rs) l) in
    let ih = refs-back size {p = p + size} rs l (at_next (be size r) (all_be size rs ++ l) size A₁ (length-be size r)) (λ x m. h x (there m)) in
    rw (field-be size r (all_be size rs ++ l) A₁ (h r (here refl)), ih)

half_up : (q u : ℕ) → q ≤ u → u ≤ q + 1 → (q + u + 1) / 2 ≡ u
half_up q u h g = omega arith

pub past_path : {A : Type 0} (a b : Past A) → a.it ≡ b.it → a.next ≡ b.next → a ≡ b
past_path a b p q = λ i. record { it = p i; next = q i }

flag-mod : (x v : ℕ) → x ≤ 1 → (x + 4 * v) % 2 ≡ x
flag-mod zero v h = omega arith
flag-mod (suc zero) v h = omega arith
flag-mod (suc (suc x)) v h = absurd (omega arith)

pub length-cell : (size : ℕ) (v : Leveled) → Fit v.cell → length (cell_bytes size v) ≡ 2 + (v.cell.len + 7) / 8 + length v.cell.refs * size
unfolding cell_bytes
length-cell size v F = omega (arith, length-append (padded v.cell) (all_be size v.cell.refs), length-padded v.cell F, length-refs size v.cell.refs)

pub cell-back : {b : List ℕ} (size : ℕ) {p : ℕ} (v : Leveled) (l : List ℕ) → Fit v.cell → v.level ≤ 7 → ((r : ℕ) → Mem r v.cell.refs → r < 256 ^ size) → At b p (cell_bytes size v ++ l)
    → raw_cell b size p ≡ Ok (record { it = v.cell; next = p + length (cell_bytes size v) })
unfolding raw_cell cell_bytes
cell-back {b} size {p} v l F L R A =
    let c = v.cell in
    let d1 = refs_descriptor v in
    let d2 = bits_descriptor c.len in
    let m₁ : d1 % 8 ≡ length c.refs = omega (arith, F.flag, F.arity) in
    let e₁ : d1 / 8 ≡ c.exotic + 4 * v.level = omega (arith, F.flag, F.arity) in
    let e₂ : d1 / 16 ≡ 2 * v.level = omega (arith, F.flag, F.arity) in
    let m₂ : d1 / 8 % 2 ≡ c.exotic = rw e₁ (flag-mod c.exotic v.level F.flag) in
    let m₃ : d1 / 16 % 2 ≡ 0 = rw e₂ (omega arith) in
    let plain : hashes d1 ≡ 0 = rw m₃ in
    let half : (d2 + 1) / 2 ≡ (c.len + 7) / 8 = half_up (c.len / 8) ((c.len + 7) / 8) (omega arith) (omega arith) in
    let full : length (padded c) ≡ (d2 + 1) / 2 = length-padded c F ∙ sym half in
    let A₁ = at_next (d1 ∷ []) (d2 ∷ ((padded c ++ all_be size c.refs) ++ l)) 1 A refl in
    let A₂ = at_move (p + 2) (at_next (d2 ∷ []) ((padded c ++ all_be size c.refs) ++ l) 1 A₁ refl) (omega arith) in
    let A₃ = at_same (padded c ++ (all_be size c.refs ++ l)) (at_move (p + 2 + hashes d1) A₂ (omega arith)) (append_assoc (padded c) (all_be size c.refs) l) in
    let A₄ = at_next (padded c) (all_be size c.refs ++ l) ((d2 + 1) / 2) A₃ full in
    let f₁ = field-byte d1 (d2 ∷ ((padded c ++ all_be size c.refs) ++ l)) A in
    let f₂ : leb (d1 % 8) 4 ≡ true = le-leb (d1 % 8) 4 (omega (arith, F.arity)) in
    let f₃ = field-byte d2 ((padded c ++ all_be size c.refs) ++ l) A₁ in
    let f₄ = at-chunk [] ((padded c ++ all_be size c.refs) ++ l) (hashes d1) A₂ (sym plain) in
    let f₅ = at-chunk (padded c) (all_be size c.refs ++ l) ((d2 + 1) / 2) A₃ full in
    let f₆ = bits_back c F (p + 2 + hashes d1) in
    let f₇ : fields b size (d1 % 8) (p + 2 + hashes d1 + (d2 + 1) / 2) ≡ Ok c.refs = rw m₁ (refs-back size c.refs l A₄ R) in
    let next : p + 2 + hashes d1 + (d2 + 1) / 2 + d1 % 8 * size ≡ p + length (cell_bytes size v) = rw m₁ (omega (arith, length-cell size v F)) in
    rw (f₁, f₂, f₃, f₄, f₅, f₆, f₇) (ap Ok (past_path _ _ (cell_path _ c m₂ refl refl refl) next))
