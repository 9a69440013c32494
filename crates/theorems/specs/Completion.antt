-- The bits of a cell, in the grammar: those of its data bytes, which a 1 and zeros may complete.
-- Assumes nothing.
use Rattle.std.specs.Prelude.{◌≡◌, refl, ℕ, suc, ◌+◌, ◌-◌, ◌*◌, ◌≤◌, ◌<◌, Bool, true, false, ◌||◌, ◌&&◌, List, [], ◌∷◌, ◌++◌, length, take, replicate, eqb, leb}
use Rattle.std.proofs.Common.{sym, ap, ◌∙◌, arith, append_assoc, take_all, ne_eqb, leb-true}
use mathlib.Core.List.Memᴰ.{head as here}
use mathlib.Core.List.Memᴰ.{tail as there}
use Rattle.std.proofs.Math.Seq.{take-append-add}
use Rattle.scheme.specs.Cells.{Cell, eqbs}
use Rattle.scheme.specs.Bits.{low_bits, bits_of, first_bits, last_of, zeros, unmark}
use Rattle.laws.specs.Tests.{eqbs-true, and_left, and_right}
use Rattle.laws.specs.CellRound.{all_below, all_below-true, last_mem}
use Rattle.laws.specs.Accept.{Small}
use Rattle.theorems.specs.Grammar.{RawCell, cell_of, RawCellOk}

-- a last byte: its bits before the last 1, the 1, and the zeros behind it
abbrev last_test : ℕ → Bool
last_test x = eqb x 0 || (leb (zeros 8 x) 7 && eqbs (take (7 - zeros 8 x) (bits_of (unmark (zeros 8 x) (x ∷ []))) ++ (1 ∷ replicate (zeros 8 x) 0)) (bits_of (x ∷ [])))

last_tests : all_below 256 (λ x. last_test x) ≡ true
last_tests = refl

last_fact : (x : ℕ) → x < 256 → eqb x 0 ≡ false
    → (zeros 8 x ≤ 7) × (take (7 - zeros 8 x) (bits_of (unmark (zeros 8 x) (x ∷ []))) ++ (1 ∷ replicate (zeros 8 x) 0) ≡ bits_of (x ∷ []))
last_fact x h e =
    let t = all_below-true 256 (λ x. last_test x) last_tests x h in
    let a = leb (zeros 8 x) 7 in
    let b = eqbs (take (7 - zeros 8 x) (bits_of (unmark (zeros 8 x) (x ∷ []))) ++ (1 ∷ replicate (zeros 8 x) 0)) (bits_of (x ∷ [])) in
    let u : (a && b) ≡ true = rw e at t in
    (leb-true (zeros 8 x) 7 (and_left a b u), eqbs-true _ _ (and_right a b u))

-- of completed data bytes: the bits, a 1, and zeros
marked : (xs : List ℕ) → Small xs → 0 < length xs → eqb (last_of xs) 0 ≡ false
    → first_bits (8 * length xs - 1 - zeros 8 (last_of xs)) (unmark (zeros 8 (last_of xs)) xs) ++ (1 ∷ replicate (zeros 8 (last_of xs)) 0) ≡ bits_of xs
marked [] S h e = absurd (omega arith)
marked (x ∷ []) S h e =
    let f = last_fact x (S x (here refl)) e in
    let m : 8 * 1 - 1 - zeros 8 x ≡ 7 - zeros 8 x = omega arith in
    f.1
marked (x ∷ y ∷ ys) S h e =
    let t = zeros 8 (last_of (y ∷ ys)) in
    let k = length ys in
    let l = S (last_of (y ∷ ys)) (there (last_mem (y ∷ ys) (omega arith))) in
    let f = last_fact (last_of (y ∷ ys)) l e in
    let g = f.0 in
    let m : 8 * suc (suc k) - 1 - t ≡ 8 + (8 * suc k - 1 - t) = omega arith in
    let ih = marked (y ∷ ys) (λ z n. S z (there n)) (omega arith) e in
    let q = take-append-add (low_bits 8 x) (bits_of (unmark t (y ∷ ys))) (8 * suc k - 1 - t) in
    ap (λ (n : ℕ). take n (low_bits 8 x ++ bits_of (unmark t (y ∷ ys))) ++ (1 ∷ replicate t 0)) m
    ∙ ap (λ (z : List ℕ). z ++ (1 ∷ replicate t 0)) q
    ∙ append_assoc (low_bits 8 x) (first_bits (8 * suc k - 1 - t) (unmark t (y ∷ ys))) (1 ∷ replicate t 0)
    ∙ ap (λ (z : List ℕ). low_bits 8 x ++ z) ih

bits-length : (xs : List ℕ) → length (bits_of xs) ≡ 8 * length xs
bits-length [] = refl
bits-length (x ∷ xs) = omega (arith, bits-length xs)

pub some_bytes : (l : List ℕ) → (last_of l ≡ 0 → ⊥) → 0 < length l
some_bytes [] h = absurd (h refl)
some_bytes (x ∷ xs) h = omega arith

abbrev pub bits_in : Cell → List ℕ
bits_in c = first_bits c.len c.bytes

-- Demand 2 (docs/DEMANDS.md): the bits of a cell whose data bytes are not completed are all bits of these.
pub full-bits : (c : RawCell) → c.completed ≡ false → bits_of c.content ≡ bits_in (cell_of c)
unfolding cell_of
full-bits c e = rw e (sym (take_all (8 * length c.content) (bits_of c.content) (omega (arith, bits-length c.content))))

-- Demand 2: behind the bits of a cell whose data bytes are completed stand a 1 and at most seven zeros; with 0x80 at the end eight bits are dropped.
pub completed-bits : (c : RawCell) → RawCellOk c → c.completed ≡ true → (z : ℕ) × (z ≤ 7) × (bits_of c.content ≡ bits_in (cell_of c) ++ (1 ∷ replicate z 0))
unfolding cell_of
completed-bits c F e =
    let h = F.some e in
    let n = some_bytes c.content h in
    let t = ne_eqb (last_of c.content) 0 h in
    let f = last_fact (last_of c.content) (F.data_bytes (last_of c.content) (last_mem c.content n)) t in
    (zeros 8 (last_of c.content), f.0, rw e (sym (marked c.content F.data_bytes n t)))
