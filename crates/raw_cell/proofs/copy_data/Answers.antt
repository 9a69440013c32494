-- `raw_cell::copy_data` meets its contract. Assumes nothing.
use Prim.Native.Nat.{◌+◌, ◌/◌}
use mathlib.Core.Path.{◌≡◌, refl, ◌∙◌}
use native.Mathlib.Omega.{arith}
use lib.ListN.{length, take, drop, replicate}
use Rattle.laws.specs.Puts.{puts}
use Rattle.raw_cell.specs.Block.{block-full, block-part, copied}
use Rattle.raw_cell.proofs.copy_data.Goals as goal
use Rattle.raw_cell.proofs.copy_data.Goals.{After-put}

-- the data is at the front, and 0 behind it
front : (d : After-put) → d.put.new.out ≡ puts (replicate 128 0) 0 (take ((d.args.bits + 7) / 8) (drop d.args.at d.args.bytes.now))
front d =
    let n : length d.args.out.now ≡ 128 = omega arith in
    copied _ d.args.out.now _ _ d.args.at d.args.bits (d.args.at + (d.args.bits + 7) / 8) n (d.fill.ensures.after (λ y e. e)) refl d.put.ensures.1

pub returns-then-r-gt0 : goal.returns-then-r-gt0
returns-then-r-gt0 c =
    let a = c.args in
    let f = front (goal.at.returns-then-r-gt0 c).After-put in
    rw c.first_bits.ensures (block-part a.bytes.now a.at a.bits (omega arith) (omega arith) (λ e. omega arith) _ f)

pub returns-else-r-gt0 : goal.returns-else-r-gt0
returns-else-r-gt0 c =
    let a = c.args in
    let f = front (goal.at.returns-else-r-gt0 c).After-put in
    f ∙ block-full a.bytes.now a.at a.bits (omega arith) (omega arith) (omega arith)
