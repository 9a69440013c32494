-- `depth::depth_at` meets its contract: each test in its order. Assumes nothing.
use Rattle.std.proofs.Common.{rules}
use Prim.Native.Nat.{◌≤◌, ◌+◌, min}
use mathlib.Core.Path.{◌≡◌, sym, ◌∙◌}
use native.Mathlib.Omega.{arith}
use lib.ListN.{length, drop, get_or}
use Rattle.scheme.specs.Memory.{cell_at}
use Rattle.scheme.specs.Depth.{depth_step, depth_of}
use Rattle.laws.specs.Answers.{handed-on}
use Rattle.laws.specs.Records.{CellsOk, sound-cells, sound-few}
use Rattle.laws.specs.Passes.{cut-last}
use Rattle.depth.specs.Pass.{turns-values}
use Rattle.depth.specs.Lent.{IsLent, is-lent}
use Rattle.depth.proofs.Prunes.{caps-depth}
use Rattle.depth.proofs.Measuring.{not_measured, too_deep, levels}
use Rattle.depth.proofs.depth_at.Goals as goal
use Rattle.depth.proofs.depth_at.Goals.{In_ok-check_lent, After-pass}

pub returns-in_err-check_lent : goal.returns-in_err-check_lent
returns-in_err-check_lent c = handed-on _ c.from_residual.ensures.1 ∙ not_measured _ _ _ _ _ _ (sym c.check_lent.ensures ∙ c.in_err-check_lent.was)

given : (c : In_ok-check_lent) → IsLent c.args.store.count c.args.store.table.now c.args.store.bytes.now c.args.n (length c.args.scratch.now)
given c = is-lent _ _ _ _ _ (sym c.check_lent.ensures ∙ c.in_ok-check_lent.was)

cells : (c : In_ok-check_lent) → CellsOk c.args.store.table.now c.args.store.bytes.now (c.args.n + 1)
cells c = let g = given c in λ i l. sound-cells _ _ _ g.whole i (omega arith)

pub overflow_add-n : goal.overflow_add-n
overflow_add-n c = let g = given (goal.at.overflow_add-n c).In_ok-check_lent in omega (arith, sound-few _ _ _ g.whole)

pub pass-requires-clause-callable : goal.pass-requires-clause-callable
pass-requires-clause-callable c =
    let ok = cells (goal.at.pass-requires-clause-callable c).In_ok-check_lent in
    let g = given (goal.at.pass-requires-clause-callable c).In_ok-check_lent in
    let k : c.args.n + 1 ≤ length c.args.scratch.now = omega arith in
    λ s i h l. search rules

pub pass-requires-clause-n_in_bounds : goal.pass-requires-clause-n_in_bounds
pass-requires-clause-n_in_bounds c = let g = given (goal.at.pass-requires-clause-n_in_bounds c).In_ok-check_lent in omega arith

-- the last value of the pass
last : (c : After-pass) → get_or c.pass.new.scratch c.args.n 0 ≡ min 65536 (depth_of (cell_at c.args.store.table.now c.args.store.bytes.now) c.args.n)
last c =
    let a = c.args in
    let ok = cells (goal.at.After-pass c).In_ok-check_lent in
    let g = given (goal.at.After-pass c).In_ok-check_lent in
    cut-last depth_step 65536 (caps-depth 65536) a.store.table.now a.store.bytes.now a.n _ (drop (a.n + 1) a.scratch.now)
    (turns-values depth_step 65536 (caps-depth 65536) a.store.table.now a.store.bytes.now _ (a.n + 1) _ _
    (λ i l. (ok i l).ok) (omega arith) (λ v i r l p. search rules) c.pass.ensures)

pub offset_bounds-scratch-n : goal.offset_bounds-scratch-n
offset_bounds-scratch-n c = let g = given (goal.at.offset_bounds-scratch-n c).In_ok-check_lent in omega (arith, c.well_formed)

pub bounds-scratch-n : goal.bounds-scratch-n
bounds-scratch-n c = let g = given (goal.at.bounds-scratch-n c).In_ok-check_lent in omega arith

pub returns-then-h-gt-MAX_DEPTH : goal.returns-then-h-gt-MAX_DEPTH
returns-then-h-gt-MAX_DEPTH c =
    let v = last (goal.at.returns-then-h-gt-MAX_DEPTH c).After-pass in
    let g = given (goal.at.returns-then-h-gt-MAX_DEPTH c).In_ok-check_lent in
    rw c.at.ensures (too_deep _ _ _ _ _ g.whole g.held g.entries (omega arith))

pub returns : goal.returns
returns c =
    let v = last (goal.at.returns c).After-pass in
    let g = given (goal.at.returns c).In_ok-check_lent in
    levels _ _ _ _ _ g.whole g.held g.entries _ (omega arith) (omega arith)
