-- What max_depth promises, and that the promise leaves one outcome.
use Rattle.std.specs.Prelude.{◌≡◌, ℕ, List}
use Rattle.scheme.specs.Res.{Res}
use Rattle.scheme.specs.Calls.{measuring}
use Rattle.laws.specs.OneAnswer.{one-content}

-- of cell i of the n cells in t and d, with the scratch s lent
pub record Measures (n : ℕ) (t d : List ℕ) (i : ℕ) (s : List ℕ) (r : Res ℕ) (s' : List ℕ) : Type 0 where
  pub answer : r ≡ (measuring n t d i s).answer
  pub scratch : s' ≡ (measuring n t d i s).scratch

-- two outcomes that keep the promise are equal
pub unique : (n : ℕ) (t d : List ℕ) (i : ℕ) (s : List ℕ) (r q : Res ℕ) (s₁ s₂ : List ℕ)
    → Measures n t d i s r s₁ → Measures n t d i s q s₂ → (r ≡ q) × (s₁ ≡ s₂)
unique n t d i s r q s₁ s₂ a b = (one-content a.answer b.answer, one-content a.scratch b.scratch)
