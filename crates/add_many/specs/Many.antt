-- Adding many cells: the single adds, made in turn.
use Rattle.std.specs.Prelude.{ℕ, zero, suc, ◌+◌, ◌*◌, ◌/◌, ◌≡◌, not, List, [], ◌∷◌, get_or, take, drop, set, min, eqb, Result, Ok, Err}
use Rattle.scheme.specs.declared.Refusal.{Refusal}
use Rattle.scheme.specs.Res.{Res}
use Rattle.scheme.specs.Builder.{Builder}
use Rattle.scheme.specs.Calls.{StoreOut, adding}
use Rattle.laws.specs.OneAnswer.{one-content}
use Rattle.add_many.specs.declared.Stop.{Stop}

-- the cells of a batch with so many numbers, data bytes and places
abbrev pub cells_in : ℕ → ℕ → ℕ → ℕ
cells_in numbers bytes places = min (min (numbers / 7) (bytes / 128)) places

-- cell i of a batch, as a builder
unfoldable pub builder_at : List ℕ → List ℕ → ℕ → Builder
builder_at hs ds i = record {
  exotic = not (eqb (get_or hs (i * 7) 0) 0);
  len = get_or hs (i * 7 + 1) 0;
  bytes = take 128 (drop (i * 128) ds);
  count = get_or hs (i * 7 + 2) 0;
  refs = get_or hs (i * 7 + 3) 0 ∷ get_or hs (i * 7 + 4) 0 ∷ get_or hs (i * 7 + 5) 0 ∷ get_or hs (i * 7 + 6) 0 ∷ [];
}

-- a batch that stops at cell i, which is refused by r
abbrev pub stopped : ℕ → Refusal → Result (Unit {0}) Stop
stopped i r = Err (record { cell = i; refusal = r })

pub record ManyOut : Type 0 where
  pub answer : Result (Unit {0}) Stop
  pub count : ℕ
  pub table : List ℕ
  pub bytes : List ℕ
  pub numbers : List ℕ

-- what follows the add of cell i, which came to o: the rest, or the end
abbrev pub after_one : ℕ → StoreOut ℕ → List ℕ → (ℕ → ManyOut) → Res ℕ → ManyOut
after_one i o xs rest (Err r) = record { answer = stopped i r; count = o.count; table = o.table; bytes = o.bytes; numbers = xs }
after_one i o xs rest (Ok m) = rest m

-- k cells from cell i on, with the numbers of those before them in xs
unfoldable pub many : List ℕ → List ℕ → ℕ → ℕ → ℕ → List ℕ → List ℕ → List ℕ → ManyOut
many hs ds zero i n t d xs = record { answer = Ok tt; count = n; table = t; bytes = d; numbers = xs }
many hs ds (suc k) i n t d xs =
    let o = adding n t d (builder_at hs ds i) in
    after_one i o xs (λ m. many hs ds k (suc i) o.count o.table o.bytes (set xs i m)) o.answer

pub record AddsMany (hs ds : List ℕ) (k n : ℕ) (t d xs : List ℕ) (r : Result (Unit {0}) Stop) (n' : ℕ) (t' d' xs' : List ℕ) : Type 0 where
  pub answer : r ≡ (many hs ds k 0 n t d xs).answer
  pub count : n' ≡ (many hs ds k 0 n t d xs).count
  pub table : t' ≡ (many hs ds k 0 n t d xs).table
  pub bytes : d' ≡ (many hs ds k 0 n t d xs).bytes
  pub numbers : xs' ≡ (many hs ds k 0 n t d xs).numbers

-- two outcomes that meet the contract are equal
pub one-add-many : (hs ds : List ℕ) (k n : ℕ) (t d xs : List ℕ) (r₁ r₂ : Result (Unit {0}) Stop) (n₁ n₂ : ℕ) (t₁ t₂ d₁ d₂ xs₁ xs₂ : List ℕ)
    → AddsMany hs ds k n t d xs r₁ n₁ t₁ d₁ xs₁ → AddsMany hs ds k n t d xs r₂ n₂ t₂ d₂ xs₂ → (r₁ ≡ r₂) × (n₁ ≡ n₂) × (t₁ ≡ t₂) × (d₁ ≡ d₂) × (xs₁ ≡ xs₂)
one-add-many hs ds k n t d xs r₁ r₂ n₁ n₂ t₁ t₂ d₁ d₂ xs₁ xs₂ a b =
    (one-content a.answer b.answer, one-content a.count b.count, one-content a.table b.table, one-content a.bytes b.bytes, one-content a.numbers b.numbers)
