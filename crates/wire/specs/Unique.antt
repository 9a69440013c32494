-- Two answers that meet a function's contract are equal. Assumes nothing.
use Rattle.std.specs.Prelude.{◌≡◌, Bool, not, ℕ, ◌*◌, List, eqb, leb}
use Rattle.laws.specs.OneAnswer.{one_answer, one-content}
use Rattle.builder.specs.Paper.{builder_of}
use Rattle.builder.specs.Unique.{builder_inj}
use Rattle.builder.specs.declared.CellBuilder.{CellBuilder}
use Rattle.wire.specs.Wire.{wire_cell}

pub one-is-set : (flag : ℕ) (r s : Bool) → r ≡ not (eqb flag 0) → s ≡ not (eqb flag 0) → r ≡ s
one-is-set flag r s p q = one-content p q

pub one_holds : (len bits : ℕ) (r s : Bool) → r ≡ leb bits (8 * len) → s ≡ leb bits (8 * len) → r ≡ s
one_holds len bits r s p q = one-content p q

pub one_wire_cell : (flag bits : ℕ) (own refs : List ℕ) (r s : CellBuilder)
    → builder_of r ≡ wire_cell flag bits own refs → builder_of s ≡ wire_cell flag bits own refs → r ≡ s
one_wire_cell flag bits own refs r s p q = one_answer builder_of builder_inj r s p q
