use Prim.Native.Nat.{suc, ◌≤◌, ◌+◌, ◌-◌, ◌*◌}
use mathlib.Core.Path.{◌≡◌, ◌∙◌, sym}
use native.Mathlib.Omega.{arith}
use lib.ListN.{length}
use Rattle.laws.specs.Answers.{handed-on}
use Rattle.bits.specs.Field.{number_at}
use Rattle.bag.specs.Links.{each-bad, each-next}
use Rattle.bag.specs.FieldUse.{field-there, field-it}
use Rattle.bag.proofs.check_numbers.Goals as goal
use Rattle.bag.proofs.check_numbers.Goals.{In_ok-v, In-loop-k}

-- in a turn a number is there, and one more is left than after it
turn : (g : _) (d : In-loop-k g) →
    let l = d.loop-k in
    let a = d.args in
    let j = a.count - (l.k + 1) in
    (a.count - l.k ≡ suc j) × (l.place + a.size ≤ length a.bytes.now) × (l.place + a.size + j * a.size ≤ length a.bytes.now)
turn g d =
    let l = d.loop-k in
    let a = d.args in
    let e : a.count - l.k ≡ suc (a.count - (l.k + 1)) = omega arith in
    let r : l.place + suc (a.count - (l.k + 1)) * a.size ≤ length a.bytes.now = rw e at l.invariant.0 in
    (e, omega arith, omega arith)

-- the number that is read, and the place behind it
it : (g : _) (d : In_ok-v g) →
    let a = d.args in
    (d.in_ok-v.v ≡ number_at a.bytes.now a.size d.loop-k.place) × (d.in_ok-v.next ≡ d.loop-k.place + a.size)
it g d = field-it _ _ _ d.requires.size_bound.0 (turn g (goal.at.In_ok-v g d).In-loop-k).1 _ (sym d.read_field.ensures ∙ d.in_ok-v.was)

pub returns-in_err-v : goal.returns-in_err-v
returns-in_err-v g c =
    field-there _ _ _ c.requires.size_bound.0 (turn g (goal.at.returns-in_err-v g c).In-loop-k).1 _ (sym c.read_field.ensures ∙ c.in_err-v.was)

pub returns-in_err-test : goal.returns-in_err-test
returns-in_err-test g c = λ f t.
    let l = c.loop-k in
    let a = c.args in
    let d = turn g (goal.at.returns-in_err-test g c).In-loop-k in
    let n = it g (goal.at.returns-in_err-test g c).In_ok-v in
    let q = sym (t _ _ _ c.test.ensures) ∙ c.in_err-test.was in
    handed-on _ c.from_residual-in_err-test.ensures.1
    ∙ sym (each-bad f a.bytes.now a.size l.k (a.count - (l.k + 1)) l.place _ (rw n.0 at q))
    ∙ rw d.0 at (l.invariant.1 f t)

pub loop-k-preserved : goal.loop-k-preserved
loop-k-preserved g c =
    let l = c.loop-k in
    let a = c.args in
    let d = turn g (goal.at.loop-k-preserved g c).In-loop-k in
    let n = it g (goal.at.loop-k-preserved g c).In_ok-v in (
      rw n.1 d.2,
      λ f t.
          let q = sym (t _ _ _ c.test.ensures) ∙ c.in_ok-test.was in
          rw n.1 (sym (each-next f a.bytes.now a.size l.k (a.count - (l.k + 1)) l.place (rw n.0 at q)) ∙ rw d.0 at (l.invariant.1 f t)),
    )
