-- Two answers that meet the contract of a step are equal, and so are two new builders. Assumes nothing.
use Rattle.std.specs.Prelude.{◌≡◌, Bool}
use Rattle.scheme.specs.Res.{Res}
use Rattle.scheme.specs.Builder.{Builder, new_builder}
use Rattle.laws.specs.OneAnswer.{one_answer, one-content}
use Rattle.builder.specs.Paper.{builder_of, Builds}
use Rattle.builder.specs.declared.CellBuilder.{CellBuilder}
use Rattle.builder.specs.declared.Built.{Built}

pub builder_inj : (a b : CellBuilder) → builder_of a ≡ builder_of b → a ≡ b
builder_inj a b p = λ i. record { exotic = (p i).exotic; len = (p i).len; bytes = (p i).bytes; count = (p i).count; refs = (p i).refs }

built_path : (r s : Built) → r.builder ≡ s.builder → r.verdict ≡ s.verdict → r ≡ s
built_path r s p q = λ i. record { builder = p i; verdict = q i }

pub one-step : (b : Builder) (x : Res Builder) (r s : Built) → Builds b x r → Builds b x s → r ≡ s
one-step b x r s p q =
    built_path r s (one_answer builder_of builder_inj _ _ p.builder q.builder) (one-content p.verdict q.verdict)

pub one-start : (exotic : Bool) (a b : CellBuilder) → builder_of a ≡ new_builder exotic → builder_of b ≡ new_builder exotic → a ≡ b
one-start exotic a b p q = one_answer builder_of builder_inj a b p q
