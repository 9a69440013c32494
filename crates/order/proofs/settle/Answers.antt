use Prim.Native.Nat.{ℕ, ◌≤◌, ◌<◌, ◌+◌, ◌*◌}
use mathlib.Core.Path.{◌≡◌, refl, ap, sym, ◌∙◌}
use mathlib.Core.List.{List, []}
use native.Mathlib.Omega.{arith}
use lib.ListN.{length, take, get_or}
use lib.Seq.{slice_empty}
use Rattle.laws.specs.Counts.{settle}
use Rattle.laws.specs.Records.{refs_at, refs_end}
use Rattle.order.specs.Queue.{seen_at, wait_mem, wait_end}
use Rattle.order.proofs.Steps.{wait_from, wait_kept, wait_behind, settle-turn-new, settle-turn-old, settle-turn-room}
use Rattle.order.proofs.settle.Goals as goal
use Rattle.order.proofs.settle.Goals.{then-not-named, else-not-named}

pub loop-j-init : goal.loop-j-init
unfolding seen_at
loop-j-init c =
    (omega arith, omega arith, rw (slice_empty c.args.tail c.args.scratch.now) refl, λ d a b. refl, λ d a. refl)

pub wait_less-end-requires : goal.wait_less-end-requires
wait_less-end-requires c =
    let l = c.loop-j in
    let r = c.field-child in
    let b = c.requires.record_ok.back l.j (omega arith) in
    let X = settle [] (take c.args.n c.args.scratch.now) [] (refs_at c.args.table.now c.args.i) in
    let room = settle-turn-room c.args.table.now c.args.i l.j r.result c.requires.record_ok (omega arith) r.ensures l.scratch c.args.n c.args.tail l.end (omega arith) (omega arith) (omega arith) (omega arith) X l.invariant.2 (sym (c.if-not-named.true) ∙ c.named.ensures) (omega arith) in
    record { r_bound = omega arith; r_in_bounds = omega arith; end_in_bounds = room }

pub loop-j-preserved : goal.loop-j-preserved
loop-j-preserved c =
    let l = c.loop-j in
    let r = c.field-child in
    let b = c.requires.record_ok.back l.j (omega arith) in
    let X = settle [] (take c.args.n c.args.scratch.now) [] (refs_at c.args.table.now c.args.i) in
    let h : l.j < get_or c.args.table.now (c.args.i * 7 + 2) 0 = omega arith in
    let hr : r.result < c.args.n = omega arith in
    let hn : c.args.n ≤ c.args.tail = omega arith in
    let he : l.end ≤ length l.scratch = omega arith in
    let room : c.args.tail + length X.queue ≤ length l.scratch = omega arith in
    elim c.if-not-named.branch [
      | then-not-named w ↦
          let e = sym w.if-not-named.true ∙ c.named.ensures in
          let fits = settle-turn-room c.args.table.now c.args.i l.j r.result c.requires.record_ok h r.ensures l.scratch c.args.n c.args.tail l.end hr hn l.invariant.0 he X l.invariant.2 e room in
          let es : c.if-not-named.scratch ≡ wait_mem l.scratch r.result l.end = w.scratch-is ∙ w.wait_less-end.ensures.1 in
          let ee : c.if-not-named.end ≡ wait_end l.scratch r.result l.end = w.end-is ∙ w.wait_less-end.ensures.0 in (
            omega (arith, wait_from l.scratch r.result l.end),
            omega arith,
            rw (es, ee) (settle-turn-new c.args.table.now c.args.i l.j r.result c.requires.record_ok h r.ensures l.scratch c.args.n c.args.tail l.end hr hn l.invariant.0 he X l.invariant.2 e fits),
            λ d a b. ap (λ (m : List ℕ). get_or m d 0) es ∙ wait_kept l.scratch r.result c.args.n c.args.tail l.end hr hn l.invariant.0 he d a b ∙ l.invariant.3 d a b,
            λ d a.
                let f : wait_end l.scratch r.result l.end ≤ d = rw ee at a in
                let g : l.end ≤ d = omega (arith, wait_from l.scratch r.result l.end) in
                let on = wait_behind l.scratch r.result c.args.n c.args.tail l.end hr hn l.invariant.0 he d f in
                ap (λ (m : List ℕ). get_or m d 0) es ∙ on ∙ l.invariant.4 d g,
          )
      | else-not-named w ↦
          let e = sym w.if-not-named.false ∙ c.named.ensures in (
            omega (arith, w.end-is),
            omega (arith, w.end-is),
            rw (w.scratch-is, w.end-is) (settle-turn-old c.args.table.now c.args.i l.j r.result c.requires.record_ok h r.ensures l.scratch c.args.n c.args.tail l.end hr hn l.invariant.0 he X l.invariant.2 e),
            λ d a b. ap (λ (m : List ℕ). get_or m d 0) w.scratch-is ∙ l.invariant.3 d a b,
            λ d a. ap (λ (m : List ℕ). get_or m d 0) w.scratch-is ∙ l.invariant.4 d (rw w.end-is at a),
          )
    ]

pub returns : goal.returns
returns c =
    let l = c.loop-j in
    let none = refs_end c.args.table.now c.args.i l.j c.requires.record_ok (omega arith) in
    record { from = l.invariant.0; within = omega arith; settled = sym l.invariant.2 ∙ rw none refl; kept = l.invariant.3; behind = l.invariant.4 }
