-- A second outcome that meets the promise is the first. Assumes nothing.
use Rattle.std.specs.Prelude.{◌≡◌, List, ℕ}
use Rattle.scheme.specs.Res.{Res}
use Rattle.laws.specs.OneAnswer.{one-content}
use Rattle.writer.specs.declared.BagOfCellsArgs.{BagOfCellsArgs}
use Rattle.writer.specs.Paper.{Serialized}

pub one-serialized : {args : BagOfCellsArgs} {n : ℕ} {t d : List ℕ} {root : ℕ} {s o : List ℕ} {r r' : Res ℕ} {s₁ s₂ o₁ o₂ : List ℕ}
    → Serialized args n t d root s o r s₁ o₁ → Serialized args n t d root s o r' s₂ o₂ → (r ≡ r') × (s₁ ≡ s₂) × (o₁ ≡ o₂)
one-serialized a b = (one-content a.answer b.answer, one-content a.scratch b.scratch, one-content a.out b.out)
