-- `bits::read_field` meets its contract. Assumes nothing.
use Prim.Native.Nat.{◌+◌, ◌-◌, ◌≤◌, min}
use mathlib.Core.Path.{◌≡◌, sym, ◌∙◌}
use native.Mathlib.Omega.{arith}
use lib.ListN.{length}
use Rattle.laws.specs.Answers.{handed-on}
use Rattle.bits.specs.Field.{number_at}
use Rattle.bits.specs.Laws.{skip-past, skip-bad, field-least, field_cut}
use Rattle.bits.proofs.read_field.Goals as goal
use Rattle.bits.proofs.read_field.Goals.{In_ok-next}

pub returns-in_err-next : goal.returns-in_err-next
returns-in_err-next c =
    let s = skip-bad _ _ _ _ (sym c.skip_bytes.ensures ∙ c.in_err-next.was) in
    handed-on _ c.from_residual.ensures.1 ∙ rw s.1 (sym (field_cut _ _ _ s.0))

past : (c : In_ok-next) → (c.in_ok-next.next ≡ c.args.at + c.args.n) × (c.args.at + c.args.n ≤ length c.args.bytes.now)
past c = skip-past _ _ _ _ (sym c.skip_bytes.ensures ∙ c.in_ok-next.was)

pub overflow_sub-next : goal.overflow_sub-next
overflow_sub-next c = let p = past (goal.at.overflow_sub-next c).In_ok-next in omega arith

pub big_endian-requires : goal.big_endian-requires
big_endian-requires c = let p = past (goal.at.big_endian-requires c).In_ok-next in (omega arith, omega arith)

pub returns : goal.returns
returns c =
    let a = c.args in
    let p = past (goal.at.returns c).In_ok-next in
    let e : c.big_endian.result ≡ number_at a.bytes.now (min a.n 8) (a.at + a.n - min a.n 8) = grind (arith, p) in
    rw (e, p.0) (sym (field-least _ _ _ p.1))
