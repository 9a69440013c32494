use Prim.Native.Nat.{ℕ, suc, ◌-◌, ◌<◌}
use mathlib.Core.Path.{◌≡◌}
use native.Mathlib.Omega.{arith}
use lib.ListN.{get_or, take, drop}
use Rattle.laws.specs.Answers.{handed-on}
use Rattle.scheme.specs.Bag.{load}
use Rattle.scheme.specs.Memory.{capacity, cells_of}
use Rattle.bag.specs.Places.{cells_at}
use Rattle.reader.specs.Placing.{Placed}
use Rattle.reader.specs.Steps.{start, sound-here, cell-there, cell-refs-held, cell-placed, number-low, cell-over, stops}
use Rattle.reader.proofs.place_cells.Goals as goal
use Rattle.reader.proofs.place_cells.Goals.{In-loop-i}

pub loop-i-init : goal.loop-i-init
loop-i-init c = start _ (λ j. omega (arith, c.type_inv.reply j)) _ _ _ _ _ _ c.requires

-- the bytes of the reply
bytes : (d : In-loop-i) → (j : ℕ) → get_or d.args.reply.now j 0 < 256
bytes d j = omega (arith, d.type_inv.reply j)

-- in a turn the cell before the last one that was placed is placed
low : (d : In-loop-i) → d.loop-i.i - 1 < d.args.o.cells
low d = omega arith

turn : (d : In-loop-i) →
    let l = d.loop-i in
    let a = d.args in
    let j = l.i - 1 in
    Placed (capacity a.table.now) a.o.cells a.scratch.now (suc j) (load (cells_of a.count.now a.table.now a.bytes.now) (suc j) (drop (suc j) (cells_at a.reply.now a.o.size (take a.o.cells a.scratch.now))))
    l.count l.table l.bytes l.scratch
turn d =
    let e : d.loop-i.i ≡ suc (d.loop-i.i - 1) = omega arith in
    rw e at d.loop-i.invariant

pub place_cell-requires : goal.place_cell-requires
place_cell-requires c =
    let d = (goal.at.place_cell-requires c).In-loop-i in
    let r = c.requires in
    record {
      bytes_value = sound-here _ (bytes d) _ _ _ _ _ _ r _ _ _ _ _ c.loop-i.invariant;
      size_bound = (r.narrow, r.few, omega (arith, c.loop-i.invariant.long, r.room), cell-there _ (bytes d) _ _ _ _ _ _ r _ _ _ _ _ (low d) (turn d));
      by_index = cell-refs-held _ (bytes d) _ _ _ _ _ _ r _ _ _ _ _ (low d) (turn d);
    }

pub returns-in_err-n : goal.returns-in_err-n
returns-in_err-n c =
    let d = (goal.at.returns-in_err-n c).In-loop-i in
    let o = cell-over _ (bytes d) _ _ _ _ _ _ c.requires _ _ _ _ _ (low d) (turn d) _ _ _ _ c.place_cell.ensures _ c.in_err-n.was in
    rw (handed-on _ c.from_residual.ensures.1) (stops _ (bytes d) _ _ _ _ _ _ c.requires _ _ _ _ _ c.loop-i.invariant.long o)

pub overflow_cast-scratch : goal.overflow_cast-scratch
overflow_cast-scratch c =
    let d = (goal.at.overflow_cast-scratch c).In-loop-i in
    let n = number-low _ (bytes d) _ _ _ _ _ _ c.requires _ _ _ _ _ (low d) (turn d) _ _ _ _ c.place_cell.ensures _ c.in_ok-n.was in
    omega arith

pub loop-i-preserved : goal.loop-i-preserved
loop-i-preserved c =
    let d = (goal.at.loop-i-preserved c).In-loop-i in
    cell-placed _ (bytes d) _ _ _ _ _ _ c.requires _ _ _ _ _ (low d) (turn d) _ _ _ _ c.place_cell.ensures _ c.in_ok-n.was
