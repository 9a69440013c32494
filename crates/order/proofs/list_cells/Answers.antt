use Prim.Native.Nat.{◌≤◌, ◌<◌, ◌-◌, ◌+◌, ◌*◌}
use mathlib.Core.Path.{◌≡◌, refl, ◌∙◌}
use mathlib.Core.List.{[], ◌∷◌}
use native.Mathlib.Omega.{arith}
use lib.ListN.{length, get_or, length-set}
use lib.Seq.{get_or-set_other}
use Rattle.laws.specs.Records.{refs_at}
use Rattle.order.specs.Queue.{kids_at}
use Rattle.order.proofs.Kids.{kids_refs}
use Rattle.order.proofs.Orders.{start-counts, start-list, start-ends, start-room, end_list, end-ends}
use Rattle.order.proofs.Orders.{front_below, front-room, turn-room, turn_end, turn-list, turn-ends}
use Rattle.order.proofs.list_cells.Invariants.{lists, leaves}
use Rattle.order.proofs.list_cells.Goals as goal

pub loop-head-init : goal.loop-head-init
loop-head-init c =
    let a = c.args in
    let h : a.n < length a.scratch.now = omega arith in
    let r = c.requires.roomy in
    let K = kids_at a.table.now a.n in (
      omega arith,
      omega arith,
      omega arith,
      start-list K a.n a.root a.scratch.now h,
      start-room K a.n a.root a.scratch.now h r,
      simp length-set (omega arith),
      start-ends K a.n a.root a.scratch.now h,
      omega arith,
      λ d e. refl,
    )

pub settle-tail-requires : goal.settle-tail-requires
settle-tail-requires c =
    let a = c.args in
    let l = c.loop-head in
    let K = kids_at a.table.now a.n in
    let b₀ = front_below K a.n l.head l.tail l.scratch (omega arith) (omega arith) (omega arith) (omega arith) l.invariant.4 in
    let b : c.entry-x.result < a.n = omega (arith, c.entry-x.ensures) in
    let e : K (get_or l.scratch l.head 0) ≡ refs_at a.table.now c.entry-x.result = rw (← c.entry-x.ensures) (kids_refs a.table.now a.n c.entry-x.result b) in
    record { record_ok = c.requires.linked c.entry-x.result b; i_lt_n = b; n_bound = omega arith; n_le_tail = omega arith; i_in_bounds = front-room K a.n l.head l.tail l.scratch (omega arith) (omega arith) (omega arith) (omega arith) l.invariant.4 (refs_at a.table.now c.entry-x.result) e }

pub loop-head-preserved : goal.loop-head-preserved
loop-head-preserved c =
    let a = c.args in
    let l = c.loop-head in
    let K = kids_at a.table.now a.n in
    let x = c.entry-x in
    let r = c.settle-tail in
    let hn : a.n ≤ l.head = omega arith in
    let ht : l.head < l.tail = omega arith in
    let hl : l.tail ≤ 2 * a.n = omega arith in
    let hs : 2 * a.n ≤ length l.scratch = omega arith in
    let b₀ = front_below K a.n l.head l.tail l.scratch hn ht hl hs l.invariant.4 in
    let b : x.result < a.n = omega (arith, x.ensures) in
    let e = kids_refs a.table.now a.n x.result b in
    let s' = r.new.scratch in
    let k = r.auto.scratch in
    let room = l.invariant.4 in
    let T = a.table.now in (
      omega arith,
      omega (arith, r.ensures.from),
      turn_end K a.n l.head l.tail l.scratch hn ht hl hs room T x.result s' r.result x.ensures e r.ensures k,
      turn-list K a.n l.head l.tail l.scratch hn ht hl hs room T x.result s' r.result x.ensures e r.ensures k _ l.invariant.3,
      turn-room K a.n l.head l.tail l.scratch hn ht hl hs room T x.result s' r.result x.ensures e r.ensures k,
      l.invariant.5,
      turn-ends K a.n l.head l.tail l.scratch hn ht hl hs room T x.result s' r.result x.ensures e r.ensures k _ l.invariant.6,
      omega (arith, r.ensures.from),
      λ d f. r.ensures.behind d f ∙ l.invariant.8 d (omega (arith, r.ensures.from)),
    )

pub returns : goal.returns
returns c =
    let a = c.args in
    let l = c.loop-head in
    let K = kids_at a.table.now a.n in
    let e : a.n + (l.tail - a.n) ≡ l.tail = omega arith in
    let h : a.n < length a.scratch.now = omega arith in
    let f = 2 * a.n - l.head in
    let same = start-counts K a.n a.root a.scratch.now h in
    let all = lists a.table.now a.n a.n a.scratch.now (a.root ∷ []) in
    let left = leaves a.table.now a.n a.n a.scratch.now (a.root ∷ []) in
    record {
      within = omega arith;
      listed = rw e (end_list K a.n l.head l.tail f l.scratch all c.loop-head-test.false l.invariant.1 (l.invariant.3 ∙ rw same refl));
      counts = end-ends K a.n l.head l.tail f l.scratch left c.loop-head-test.false l.invariant.1 (l.invariant.6 ∙ rw same refl);
      behind = λ d g. l.invariant.8 d (omega arith) ∙ get_or-set_other a.scratch.now a.n d a.root 0 (λ z. omega arith);
    }
