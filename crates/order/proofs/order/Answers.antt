-- `order::order` meets its contract: the passes give the order of the definition. Assumes nothing.
use Prim.Native.Nat.{◌≤◌, ◌<◌, ◌*◌}
use mathlib.Core.Path.{◌≡◌, ap, ◌∙◌}
use native.Mathlib.Omega.{arith}
use lib.ListN.{length, replicate}
use Rattle.order.proofs.Orders.{counted, small-zeros, passes-room, passes-once, passes-below, passes-ordered}
use Rattle.order.proofs.order.Goals as goal
use Rattle.order.proofs.order.Goals.{After-count_parents}

pub count_parents-requires : goal.count_parents-requires
count_parents-requires c =
    let z = c.fill in
    record { linked = λ i h. c.requires.linked i (omega arith); root_in_bounds = omega (arith, z.auto.self); root_bound = omega arith; small = λ d. rw (z.ensures.after (λ y e. e)) (small-zeros (length c.args.scratch.now) d) }

-- the numbers that the second pass leaves
counts : (c : After-count_parents) → c.count_parents.new.scratch ≡ counted c.args.table.now c.args.n c.args.root (replicate (length c.args.scratch.now) 0)
counts c = c.count_parents.ensures c.args.n (omega arith) ∙ ap (counted c.args.table.now c.args.n c.args.root) (c.fill.ensures.after (λ y e. e))

pub list_cells-m-requires : goal.list_cells-m-requires
list_cells-m-requires c =
    let a = c.args in
    let z = c.fill in
    let p = c.count_parents in
    let e = counts (goal.at.list_cells-m-requires c).After-count_parents in
    record { linked = c.requires.linked; root_lt_n = omega arith; n_bound = omega arith; n_in_bounds = omega (arith, z.auto.self, p.auto.scratch); roomy = passes-room a.table.now a.n a.root (length a.scratch.now) c.requires.linked (omega arith) (omega arith) p.new.scratch e }

pub place_cells-requires : goal.place_cells-requires
place_cells-requires c =
    let a = c.args in
    let z = c.fill in
    let p = c.count_parents in
    let d = c.list_cells-m in
    let m = length a.scratch.now in
    let e = counts (goal.at.place_cells-requires c).After-count_parents in
    let h : a.root < a.n = omega arith in
    let g : 4 * a.n ≤ m = omega arith in
    record { m_le_n = d.ensures.within; n_bound = omega arith; n_in_bounds = omega (arith, z.auto.self, p.auto.scratch, d.auto.scratch); nodup = passes-once a.table.now a.n a.root m c.requires.linked h g p.new.scratch e d.new.scratch d.result d.ensures; by_index = passes-below a.table.now a.n a.root m c.requires.linked h g p.new.scratch e d.new.scratch d.result d.ensures }

pub returns : goal.returns
returns c =
    let a = c.args in
    let p = c.count_parents in
    let d = c.list_cells-m in
    let q = c.place_cells in
    let l : length d.new.scratch ≡ length a.scratch.now = d.auto.scratch ∙ p.auto.scratch ∙ c.fill.auto.self in
    passes-ordered a.table.now a.n a.root (length a.scratch.now) c.requires.linked (omega arith) (omega arith) p.new.scratch (counts (goal.at.returns c).After-count_parents) d.new.scratch d.result d.ensures q.new.scratch q.ensures l (q.auto.scratch ∙ l)
