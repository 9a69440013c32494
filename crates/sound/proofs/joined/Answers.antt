-- `sound::joined` meets its contract: the chain's fold. Assumes nothing.
use Rattle.std.proofs.Common.{rules}
use mathlib.Core.Path.{refl}
use Rattle.std.specs.List.{FoldsTo}
use Rattle.std.proofs.lemmas.Fn.{fold_over, fronts, FoldsTo-push}
use Rattle.std.proofs.lemmas.Iterator.{YieldsList-from_slice}
use Rattle.sound.proofs.joined.Goals as goal

pub returns : goal.returns
returns g c =
    fold_over fronts (λ y. y.now) _ (λ xs b. FoldsTo (λ a x b. g.T.BitOr.bitor_gives a x b) c.args.zero xs b) _
    (λ xs a x b f h k. (FoldsTo-push _ _ _ _ _ _ h (search rules), search rules))
    c.iter.result c.args.xs.now c.args.zero c.fold.result (YieldsList-from_slice {s = c.iter.result} c.args.xs.now cc).runs refl c.fold.ensures.ran
