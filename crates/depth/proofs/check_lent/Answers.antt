-- `depth::check_lent` meets its contract: each test in its order. Assumes nothing.
use Prim.Native.Nat.{◌*◌}
use mathlib.Core.Path.{◌≡◌, sym, ◌∙◌}
use native.Mathlib.Omega.{arith}
use Rattle.laws.specs.Lent.{lent-store, lent_nocell, lent-scratch, lent-cells}
use Rattle.depth.proofs.check_lent.Goals as goal

pub returns-then-not-is_sound : goal.returns-then-not-is_sound
returns-then-not-is_sound c = rw (c.at.ensures, lent-store 1 _ _ _ _ c.args.scratch_len (sym c.is_sound.ensures ∙ c.if-not-is_sound.true))

pub returns-then-count-n : goal.returns-then-count-n
returns-then-count-n c =
    rw (c.at-then-count-n.ensures, lent_nocell 1 _ _ _ _ c.args.scratch_len (sym c.is_sound.ensures ∙ c.if-not-is_sound.false) c.if-count-n.true)

pub returns-then-scratch_len-count : goal.returns-then-scratch_len-count
returns-then-scratch_len-count c =
    let e : 1 * c.args.store.count ≡ c.args.store.count = omega arith in
    let s = sym c.is_sound.ensures ∙ c.if-not-is_sound.false in
    rw (c.at-then-scratch_len-count.ensures, lent-scratch 1 _ _ _ _ c.args.scratch_len s c.if-count-n.false (omega arith), e)

pub returns : goal.returns
returns c = rw (lent-cells 1 _ _ _ _ c.args.scratch_len (sym c.is_sound.ensures ∙ c.if-not-is_sound.false) c.if-count-n.false (omega arith))
