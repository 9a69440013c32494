-- Two outcomes that meet the contract of `open_bag` are equal: the answer, and every entry of the scratch. Assumes nothing.
use Rattle.std.specs.Prelude.{◌≡◌, Bool, ℕ, List}
use Rattle.scheme.specs.Res.{Res}
use Rattle.laws.specs.OneAnswer.{one-content}
use Rattle.bag.specs.Paper.{Opens}
use Rattle.bag.specs.declared.OpenBag.{OpenBag}

pub one-open-bag : (b : List ℕ) (whole : Bool) (rooms : ℕ) (s : List ℕ) (r₁ r₂ : Res OpenBag) (s₁ s₂ : List ℕ)
    → Opens b whole rooms s r₁ s₁ → Opens b whole rooms s r₂ s₂ → (r₁ ≡ r₂) × (s₁ ≡ s₂)
one-open-bag b whole rooms s r₁ r₂ s₁ s₂ p q = (one-content p.answer q.answer, one-content p.scratch q.scratch)
