-- Adding a cell. That what was added is fit to be stored, and its references held, is in proofs/Add.
-- Assumes nothing.
use Rattle.std.specs.Prelude.{◌≡◌, refl, ℕ, zero, suc, ◌+◌, ◌-◌, ◌/◌, ◌%◌, ◌^◌, ◌≤◌, ◌<◌, Bool, true, false, length, take}
use Rattle.std.proofs.Common.{sym, ◌∙◌, subst, div-mul-le_self, arith, length-take, length-take-le}
use Rattle.std.proofs.Math.Nat.{mul-mod_left, zero-mod}
use mathlib.Core.List.Memᴰ.{head as here}
use mathlib.Core.List.Memᴰ.{tail as there}
use mathlib.Core.List.{List, [], ◌∷◌}
use Rattle.scheme.specs.Cells.{Cell, find, insert}
use Rattle.scheme.specs.Bits.{mask, cropped, bit_of, last_of}
use Rattle.scheme.specs.Builder.{Builder, cell_in}
use Rattle.scheme.specs.Add.{Added}
use Rattle.laws.specs.Unique.{Below}
use Rattle.laws.specs.CellRound.{Fit, length-mask}
use Rattle.laws.specs.Accept.{Small, mem-take}

small_mask : (k : ℕ) (l : List ℕ) → Small l → Small (mask k l)
small_mask k [] S z m = S z m
small_mask k (x ∷ []) S z (here e) = omega (arith, S x (here refl), div-mul-le_self x (2 ^ k))
small_mask k (x ∷ []) S z (there m) = elim m [ ]
small_mask k (x ∷ y ∷ ys) S z (here e) = S z (here e)
small_mask k (x ∷ y ∷ ys) S z (there m) = small_mask k (y ∷ ys) (λ u n. S u (there n)) z m

last-mask : (k : ℕ) (l : List ℕ) → last_of (mask k l) % 2 ^ k ≡ 0
last-mask k [] = zero-mod (2 ^ k)
last-mask k (x ∷ []) = mul-mod_left (x / 2 ^ k) (2 ^ k)
last-mask k (x ∷ y ∷ []) = mul-mod_left (y / 2 ^ k) (2 ^ k)
last-mask k (x ∷ y ∷ z ∷ zs) = last-mask k (y ∷ z ∷ zs)

pub flag-le : (x : Bool) → bit_of x ≤ 1
flag-le true = omega arith
flag-le false = omega arith

-- what the types of a handed cell say: 128 data bytes
pub record Typed (b : Builder) : Type 0 where
  pub many : 128 ≤ length b.bytes
  pub small : Small b.bytes

pub fit-in : (b : Builder) → Typed b → b.len ≤ 1023 → b.count ≤ 4 → Fit (cell_in b)
unfolding cropped
fit-in b T hl hr =
    let len = b.len in
    let xs = take ((len + 7) / 8) b.bytes in
    let k = (8 - len % 8) % 8 in
    let n : length xs ≡ (len + 7) / 8 = length-take-le ((len + 7) / 8) b.bytes (omega (arith, T.many)) in
    let eight : (len % 8 ≡ 0 → ⊥) → 8 - len % 8 ≡ k = λ c. eight_is (len % 8) c (omega arith) in
    record {
      flag = flag-le b.exotic;
      few = hl;
      many = length-mask k xs ∙ n;
      small = small_mask k xs (λ x m. T.small x (mem-take ((len + 7) / 8) b.bytes x m));
      clean = λ c. subst (λ (e : ℕ). last_of (mask k xs) % 2 ^ e ≡ 0) (sym (eight c)) (last-mask k xs);
      arity = omega (arith, length-take b.count b.refs);
    }
  where
    eight_is : (r : ℕ) → (r ≡ 0 → ⊥) → r < 8 → 8 - r ≡ (8 - r) % 8
    eight_is zero c h = absurd (c refl)
    eight_is (suc r) c h = omega arith

-- a cell that was added
pub record Taken (cap : ℕ) (s : List Cell) (a : Added) : Type 0 where
  pub cell : Cell
  pub fit : Fit cell
  pub below : Below (length s) cell.refs
  pub free : length (insert s cell) ≤ cap
  pub number_is : a.number ≡ find s cell
  pub store_is : a.store ≡ insert s cell
