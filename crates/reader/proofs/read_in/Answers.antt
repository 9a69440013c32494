-- `reader::read_in` meets its contract: STORE, the bytes, then the cells. Assumes nothing.
use mathlib.Core.Path.{◌∙◌, sym}
use native.Mathlib.Omega.{arith}
use Rattle.laws.specs.Answers.{handed-on}
use Rattle.reader.specs.Outcome.{not_sound, bag-refused, bag-kept, bag-whole, bag-stored}
use Rattle.reader.proofs.read_in.Goals as goal

pub returns-then-not-is_sound : goal.returns-then-not-is_sound
returns-then-not-is_sound c = rw c.at.ensures (not_sound _ _ _ _ _ _ _ (sym c.is_sound.ensures ∙ c.if-not-is_sound.true))

pub returns-in_err-o : goal.returns-in_err-o
returns-in_err-o c =
    let s = sym c.is_sound.ensures ∙ c.if-not-is_sound.false in
    rw (handed-on _ c.from_residual.ensures.1) (bag-refused _ _ _ _ _ _ _ s _ _ _ c.in_err-o.was c.open_bag.ensures)

pub store_bag-requires : goal.store_bag-requires
store_bag-requires c =
    let s = sym c.is_sound.ensures ∙ c.if-not-is_sound.false in
    let o = c.open_bag.ensures in
    let e = c.in_ok-o.was in
    let rs = c.args.roots.now in
    record { bytes_value = s; kept = bag-kept _ _ _ _ _ _ rs s _ _ _ e o; whole = bag-whole _ _ _ _ _ _ rs s _ _ _ e o (λ j. omega (arith, c.type_inv.reply j)) }

pub returns : goal.returns
returns c =
    let s = sym c.is_sound.ensures ∙ c.if-not-is_sound.false in
    bag-stored _ _ _ _ _ _ _ s _ _ _ c.in_ok-o.was c.open_bag.ensures _ _ _ _ _ _ c.store_bag.ensures
