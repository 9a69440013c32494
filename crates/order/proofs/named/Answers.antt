-- `order::named` meets its contract. Assumes nothing.
use borrow.Author.Tests.{tests}
use native.Mathlib.Omega.{arith}
use Rattle.std.proofs.Common.{rules}
use Rattle.std.proofs.lemmas.Iterator.{cases_from_any, YieldsList-from_range}
use Rattle.order.proofs.Steps.{Hit, named-is}
use Rattle.order.proofs.named.Goals as goal

pub returns : goal.returns
returns c =
    let a = c.args in
    named-is a.table.now a.i a.x a.j c.any.result (cases_from_any _ _ _ (Hit a.table.now a.i a.x) (λ k. Hit a.table.now a.i a.x k → ⊥) c.any.ensures.ran (YieldsList-from_range 0 a.j a.j (cc) (omega arith)) (λ x q k. search (rules, tests)) (λ x q k. search (rules, tests)))
