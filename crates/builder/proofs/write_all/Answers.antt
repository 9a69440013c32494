use Rattle.std.proofs.Common.{◌<◌, sym, arith, length}
use Rattle.laws.specs.Puts.{puts-nil}
use Rattle.scheme.specs.Bits.{bit_of, bits_of}
use Rattle.laws.specs.BitLaws.{put_next, put_all}
use Rattle.builder.proofs.write_all.Goals as goal

pub loop-i-init : goal.loop-i-init
loop-i-init g c = (λ k. omega (arith, c.type_inv.bytes k), λ xs e h. sym (puts-nil _ _))

pub loop-i-preserved : goal.loop-i-preserved
loop-i-preserved g c =
    let l = c.loop-i in (
      λ k. omega (arith, c.type_inv.bytes k),
      λ xs e h.
          let t : l.i < length xs = omega arith in
          put_next (bits_of c.args.bytes.now) c.args.at l.i xs (bits_of l.bytes) (bits_of c.write_bit.new.bytes) (bit_of c.bit.result) t
          (h l.i c.bit.result t c.bit.ensures) (l.invariant.1 xs e h) c.write_bit.ensures,
    )

pub returns : goal.returns
returns g c =
    let l = c.loop-i in
    λ xs e h. put_all c.args.bytes.now l.bytes c.args.at l.i xs l.auto.bytes l.invariant.0 (omega arith) (omega arith) (l.invariant.1 xs e h)
