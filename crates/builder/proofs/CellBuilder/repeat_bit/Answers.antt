-- `builder::CellBuilder::repeat_bit` meets its contract. Assumes nothing.
use Rattle.std.proofs.Common.{◌≡◌, ◌+◌, ◌∙◌, sym, arith, rules, replicate}
use lib.Dec.{leb}
use mathlib.Core.Bool.{true}
use Rattle.std.proofs.lemmas.List.{length-replicate, get_or-replicate}
use Rattle.scheme.specs.Bits.{bit_of}
use Rattle.scheme.specs.Builder.{repeated}
use Rattle.builder.proofs.CellBuilder.repeat_bit.Goals as goal

pub returns : goal.returns
unfolding repeated
returns c =
    let s = c.args in
    let xs = replicate s.n (bit_of s.bit) in
    let fit : leb (s.self.len + s.n) 1023 ≡ true = sym c.bits_fit.ensures ∙ c.if-not-bits_fit.false in
    rw fit (c.with_bits.ensures xs (length-replicate s.n (bit_of s.bit)) (λ i b h p.
    let e : b ≡ s.bit = search rules in
    rw e (sym (get_or-replicate s.n i (bit_of s.bit) 0 (omega (arith, length-replicate s.n (bit_of s.bit)))))))
