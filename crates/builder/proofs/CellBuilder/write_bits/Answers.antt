-- `builder::CellBuilder::write_bits` meets its contract. Assumes nothing.
use Rattle.std.proofs.Common.{◌≡◌, ◌+◌, ◌*◌, ◌≤◌, ◌∙◌, sym, arith, rules, length, get_or, le-leb}
use lib.Dec.{leb}
use lib.Seq.{get_or-take}
use mathlib.Core.Bool.{true}
use Rattle.scheme.specs.Bits.{bit_of, bits_of, first_bits}
use Rattle.scheme.specs.Builder.{appended}
use Rattle.laws.specs.BitLaws.{length-first}
use Rattle.builder.proofs.CellBuilder.write_bits.Goals as goal

pub returns : goal.returns
unfolding appended
returns c =
    let s = c.args in
    let from = s.from.now in
    let whole : s.n ≤ 8 * length from = omega arith in
    let fit : leb (s.self.len + s.n) 1023 ≡ true = sym c.bits_fit.ensures ∙ c.if-not-bits_fit.false in
    rw (le-leb _ _ whole, fit) (c.with_bits.ensures (first_bits s.n from) (length-first s.n from whole) (λ i b h p.
    let e : bit_of b ≡ get_or (bits_of from) i 0 = search rules in
    e ∙ sym (get_or-take s.n (bits_of from) i 0 (omega (arith, length-first s.n from whole)))))
