-- `bag::check_roots` meets its contract. Assumes nothing.
use mathlib.Core.Path.{◌∙◌}
use borrow.Author.Rules.{rules}
use Rattle.bag.specs.Links.{root_ok, roots-each}
use Rattle.bag.proofs.check_roots.Goals as goal

pub returns : goal.returns
returns c =
    let a = c.args in
    c.check_numbers.ensures (root_ok a.h.cells) (λ k v t p. search rules) ∙ roots-each a.h.cells 0 _
