-- `tapunerow::copy_cell_data` meets its contract: a law for each way out. Assumes nothing.
use Prim.Native.Nat.{ℕ}
use mathlib.Core.Path.{◌≡◌, sym, ap, ◌∙◌}
use native.Mathlib.Omega.{arith}
use native.Mathlib.Nat.{zero-add}
use borrow.Author.Tests.{eqb-false}
use Rattle.std.specs.Prelude.{Err}
use Rattle.scheme.specs.declared.Refusal.{Refusal}
use Rattle.scheme.specs.Calls.{asking, data_of}
use Rattle.laws.specs.Answers.{handed-on}
use Rattle.tapunerow.proofs.Copied.{asked-refused, asked-held, some-held, copy_refused, copy_over, copy_done}
use Rattle.tapunerow.proofs.copy_cell_data.Goals as goal
use Rattle.tapunerow.proofs.copy_cell_data.Goals.{Else-out-own, then-is_empty+in_ok-cell, else-is_empty}

pub returns-in_err-cell : goal.returns-in_err-cell
returns-in_err-cell c =
    rw (handed-on _ c.from_residual.ensures.1)
    (copy_refused _ _ _ _ _ _ (asked-refused _ _ c.cell.ensures _ c.in_err-cell.was))

pub returns-then-out-own : goal.returns-then-out-own
returns-then-out-own c = rw c.at.ensures (copy_over _ _ _ _ _ _ c.cell_data-own.ensures (omega arith))

-- the cell is held: its data is not empty, or it was asked for
held : (c : Else-out-own) → (s : Refusal) → asking c.args.store.count c.args.store.table.now c.args.store.bytes.now c.args.n ≡ Err s → ⊥
held c =
    elim c.if-is_empty.branch [
      | then-is_empty+in_ok-cell w ↦ asked-held _ _ w.cell.ensures _ w.in_ok-cell.was
      | else-is_empty w ↦ some-held _ _ c.cell_data-own.ensures (λ z. eqb-false _ _ (sym c.is_empty.ensures ∙ w.if-is_empty.false) z)
    ]

pub returns : goal.returns
returns c =
    rw (c.put.ensures.0, zero-add)
    (copy_done _ _ _ _ _ _ c.cell_data-own.ensures (held (goal.at.returns c).Else-out-own) (omega arith) _ c.put.ensures.1)
