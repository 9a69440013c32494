-- `store::clear` meets its contract. Assumes nothing.
use mathlib.Core.Path.{sym, ◌∙◌}
use Rattle.store.proofs.Ways.{clear-refused, clear-done}
use borrow.Author.Rules.{rules}
use Rattle.store.proofs.clear.Goals as goal

pub returns-then-not-is_sized : goal.returns-then-not-is_sized
returns-then-not-is_sized c = rw c.at.ensures (clear-refused _ _ _ (sym c.is_sized.ensures ∙ c.if-not-is_sized.true))

pub returns : goal.returns
returns c =
    clear-done _ _ _ (sym c.is_sized.ensures ∙ c.if-not-is_sized.false) _ _ (c.fill.ensures.after (search rules))
    (c.fill-2.ensures.after (search rules))
