-- `sound::sound_cells` meets its contract. Assumes nothing.
use Rattle.std.proofs.Common.{rules, arith}
use borrow.Author.Tests.{tests}
use mathlib.Core.Path.{◌≡◌, refl}
use mathlib.Core.Bool.{true, false}
use Rattle.std.proofs.lemmas.Iterator.{cases_from_all, YieldsList-from_range}
use Rattle.scheme.specs.Memory.{sound_cell}
use Rattle.sound.proofs.Laws.{all_is}
use Rattle.sound.proofs.sound_cells.Goals as goal

pub returns : goal.returns
returns c =
    let a = c.args.cells in
    let p = sound_cell a.table.now a.bytes.now in
    all_is p a.count _
    (cases_from_all _ _ _ (λ k. p k ≡ true) (λ k. p k ≡ false) c.all.ensures.ran (YieldsList-from_range 0 a.count a.count refl (omega arith))
    (λ x q k. search (rules, tests)) (λ x q k. search (rules, tests)))
