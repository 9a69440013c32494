-- What the builder and its answers are in the definitions.
use Rattle.std.specs.Prelude.{◌≡◌, ℕ, ◌<◌, Bool, List, length, get_or}
use Rattle.scheme.specs.Res.{Res}
use Rattle.scheme.specs.Bits.{bit_of}
use Rattle.scheme.specs.Builder.{Builder, built}
use Rattle.builder.specs.declared.CellBuilder.{CellBuilder}
use Rattle.builder.specs.declared.Built.{Built}

abbrev pub builder_of : CellBuilder → Builder
builder_of b = record { exotic = b.exotic; len = b.len; bytes = b.bytes; count = b.count; refs = b.refs }

-- bit i of xs is what is answered at i
abbrev pub Yields : (ℕ → Bool → Type 0) → List ℕ → Type 0
Yields answers xs = (i : ℕ) (b : Bool) → i < length xs → answers i b → bit_of b ≡ get_or xs i 0

-- what a step on b that comes to x hands back
pub record Builds (b : Builder) (x : Res Builder) (r : Built) : Type 0 where
  pub builder : builder_of r.builder ≡ (built b x).builder
  pub verdict : r.verdict ≡ (built b x).verdict
