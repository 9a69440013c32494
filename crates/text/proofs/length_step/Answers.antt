-- `text::length_step` meets its contract. Assumes nothing.
use Prim.Native.Nat.{ℕ, ◌+◌, ◌*◌, min}
use mathlib.Core.Path.{◌≡◌, ◌∙◌}
use mathlib.Core.List.{List}
use lib.ListN.{length, get_or, length-map}
use Rattle.scheme.specs.Memory.{cell_at}
use Rattle.scheme.specs.Fold.{pick}
use Rattle.scheme.specs.Text.{sum}
use Rattle.laws.specs.Records.{refs_at, RecordOk, refs-length}
use Rattle.text.specs.Parts.{bytes_at, around, length_step, own_at}
use Rattle.text.proofs.length_step.Goals as goal

-- the step's answer, as the pass has it
step : (t d s : List ℕ) (i m a r : ℕ) → RecordOk t i → a ≡ length (own_at t d i) + around (get_or t (i * 7 + 2) 0)
    → r ≡ min m (a + sum (pick 0 s (refs_at t i))) → r ≡ min m (length_step (cell_at t d i) (pick 0 s (refs_at t i)))
unfolding cell_at bytes_at
step t d s i m a r ok e q =
    let l : length (pick 0 s (refs_at t i)) ≡ get_or t (i * 7 + 2) 0 = length-map (refs_at t i) (λ k. get_or s k 0) ∙ refs-length t i ok in
    q ∙ rw (e, l)

pub returns : goal.returns
returns c =
    let a = c.args in
    λ d h. step a.table.now d a.scratch.now a.i a.cap _ _ c.requires.record_ok (c.length_alone.ensures d h) c.sum_refs.ensures
