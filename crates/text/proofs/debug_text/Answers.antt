-- `text::debug_text` meets its contract: the verdict, the scratch zeroed, and what is printed. Assumes nothing.
use mathlib.Core.Path.{◌≡◌, ap, sym, ◌∙◌}
use native.Mathlib.Omega.{arith}
use lib.ListN.{length, replicate}
use Rattle.laws.specs.Answers.{handed-on}
use Rattle.laws.specs.Puts.{puts-start}
use Rattle.laws.specs.Records.{sound-cells}
use Rattle.text.specs.Parts.{text_at}
use Rattle.text.proofs.Printing.{Went, went, refused, printed}
use Rattle.text.proofs.debug_text.Goals as goal
use Rattle.text.proofs.debug_text.Goals.{After-fill, In_ok-verdict}

zeroed : (c : After-fill) → c.fill.new.self ≡ replicate (length c.args.scratch.now) 0
zeroed c = c.fill.ensures.after (λ y e. e) ∙ ap (λ k. replicate k 0) c.decide-verdict.auto.scratch

goes : (c : In_ok-verdict) → Went c.args.store.count c.args.store.table.now c.args.store.bytes.now c.args.n c.args.budget (length c.args.scratch.now) (length c.args.out.now)
goes c = went _ _ _ _ _ _ _ (sym c.decide-verdict.ensures ∙ c.in_ok-verdict.was)

pub returns-in_err-verdict : goal.returns-in_err-verdict
returns-in_err-verdict c =
    let z = zeroed (goal.at.returns-in_err-verdict c).After-fill in
    rw (handed-on _ c.from_residual.ensures.1) (refused _ _ _ _ _ _ _ _ z _ (sym c.decide-verdict.ensures ∙ c.in_err-verdict.was))

pub print_cell-p-requires : goal.print_cell-p-requires
print_cell-p-requires c =
    let g = goes (goal.at.print_cell-p-requires c).In_ok-verdict in
    let l = g.lent in
    record { cells_ok = λ i h. sound-cells _ _ _ l.whole i (omega arith); n_in_bounds = omega arith; n_bound = omega arith }

pub returns : goal.returns
returns c =
    let a = c.args in
    let g = goes (goal.at.returns c).In_ok-verdict in
    let p = c.print_cell-p in
    printed _ _ _ _ _ _ _ _ (zeroed (goal.at.returns c).After-fill) _ _ _ g (omega arith) (omega arith)
    (p.ensures.put ∙ puts-start a.out.now (text_at a.store.table.now a.store.bytes.now a.n) g.fits)
