-- `sound::sound_refs` meets its contract. Assumes nothing.
use Rattle.std.proofs.Common.{rules}
use borrow.Author.Tests.{tests}
use mathlib.Core.Path.{◌≡◌, refl}
use mathlib.Core.Bool.{true, false}
use Rattle.std.proofs.lemmas.Iterator.{cases_from_all, YieldsList-from_range}
use Rattle.scheme.specs.Memory.{sound_ref}
use Rattle.sound.proofs.Laws.{all_is}
use Rattle.sound.proofs.sound_refs.Goals as goal

pub returns : goal.returns
returns c =
    let p = sound_ref c.args.cells.table.now c.args.i in
    all_is p 4 _ (cases_from_all _ _ _ (λ k. p k ≡ true) (λ k. p k ≡ false) c.all.ensures.ran (YieldsList-from_range 0 4 4 refl refl)
    (λ x q k. search (rules, tests)) (λ x q k. search (rules, tests)))
