use Prim.Native.Nat.{ℕ, suc, ◌≤◌, ◌<◌, ◌+◌, ◌-◌, ◌*◌}
use mathlib.Core.Path.{◌≡◌, ◌∙◌, sym, refl}
use mathlib.Core.List.Memᴰ.{head as here}
use mathlib.Core.List.Memᴰ.{tail as there}
use mathlib.Core.List.{Memᴰ as Mem}
use native.Mathlib.Omega.{arith}
use lib.ListN.{length}
use Rattle.laws.specs.Puts.{puts, puts-nil}
use Rattle.bits.specs.Field.{number_at, numbers_at}
use Rattle.bits.specs.Laws.{field-few}
use Rattle.bag.specs.FieldUse.{field-it}
use Rattle.reader.specs.Filled.{numbers_of}
use Rattle.reader.specs.Fill.{fill_next}
use Rattle.reader.proofs.fill_numbers.Goals as goal
use Rattle.reader.proofs.fill_numbers.Goals.{After-unwrap-v, In-loop-k}

-- in a turn a number is there, and one more is left than after it
turn : (d : In-loop-k) →
    let l = d.loop-k in
    let a = d.args in
    let b = a.reply.now in
    let j = a.count - (l.k + 1) in
    (l.place + a.o.size ≤ length b) × (l.place + a.o.size + j * a.o.size ≤ length b)
    × ((r : ℕ) → Mem r (numbers_at b a.o.size (suc j) l.place) → r < a.o.cells)
    × (puts l.out l.k (numbers_of a.scratch.now a.o.cells (numbers_at b a.o.size (suc j) l.place))
    ≡ puts a.out.now 0 (numbers_of a.scratch.now a.o.cells (numbers_at b a.o.size a.count a.at)))
turn d =
    let l = d.loop-k in
    let a = d.args in
    let e : a.count - l.k ≡ suc (a.count - (l.k + 1)) = omega arith in
    let r : l.place + suc (a.count - (l.k + 1)) * a.o.size ≤ length a.reply.now = rw e at l.invariant.0 in
    (omega arith, omega arith, rw e at l.invariant.1, rw e at l.invariant.2)

-- the number that is read
it : (d : After-unwrap-v) →
    let l = d.loop-k in
    let a = d.args in
    (d.unwrap-v.result.0 ≡ number_at a.reply.now a.o.size l.place) × (d.unwrap-v.result.1 ≡ l.place + a.o.size) × (d.unwrap-v.result.0 < a.o.cells)
it d =
    let t = turn (goal.at.After-unwrap-v d).In-loop-k in
    let x = field-it _ _ _ d.requires.size_bound.0 t.0 _ (sym d.read_field.ensures ∙ d.unwrap-v.ensures) in
    (x.0, x.1, rw x.0 (t.2 _ (here refl)))

pub unwrap-v-requires : goal.unwrap-v-requires
unwrap-v-requires c =
    let t = turn (goal.at.unwrap-v-requires c).In-loop-k in
    rw (c.read_field.ensures, field-few c.args.reply.now c.loop-k.place c.args.o.size t.0 (omega arith)) refl

pub overflow_add-out : goal.overflow_add-out
overflow_add-out c = let x = (it (goal.at.overflow_add-out c).After-unwrap-v).2 in omega arith

pub offset_bounds-scratch-o : goal.offset_bounds-scratch-o
offset_bounds-scratch-o c = let x = (it (goal.at.offset_bounds-scratch-o c).After-unwrap-v).2 in omega arith

pub bounds-scratch-o : goal.bounds-scratch-o
bounds-scratch-o c = let x = (it (goal.at.bounds-scratch-o c).After-unwrap-v).2 in omega arith

pub loop-k-preserved : goal.loop-k-preserved
loop-k-preserved c =
    let l = c.loop-k in
    let a = c.args in
    let j = a.count - (l.k + 1) in
    let t = turn (goal.at.loop-k-preserved c).In-loop-k in
    let x = it (goal.at.loop-k-preserved c).After-unwrap-v in
    let n = fill_next a.reply.now a.o.size a.o.cells a.scratch.now l.out l.k j l.place in
    (rw x.1 t.1, rw x.1 (λ r m. t.2 r (there m)), rw (x.1, x.0) (sym n ∙ t.3))

pub returns : goal.returns
returns c =
    let l = c.loop-k in
    let e : c.args.count - l.k ≡ 0 = omega arith in
    sym (puts-nil l.out l.k) ∙ rw e at l.invariant.2
