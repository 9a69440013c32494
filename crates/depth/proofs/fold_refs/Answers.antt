use Prim.Native.Nat.{ℕ, ◌+◌, ◌*◌, ◌<◌, ◌≤◌}
use mathlib.Core.Path.{◌≡◌, refl}
use mathlib.Core.List.{List}
use native.Mathlib.Omega.{arith}
use lib.ListN.{get_or, drop}
use Rattle.std.specs.List.{FoldsTo}
use Rattle.scheme.specs.Fold.{pick}
use Rattle.laws.specs.Records.{RecordOk, refs_at, refs-cons, refs_end}
use Rattle.depth.proofs.fold_refs.Goals as goal

-- the number at a reference taken in, and none left
module _ (step : ℕ → ℕ → ℕ → Type 0) (t s : List ℕ) (i j h : ℕ) (ok : RecordOk t i) where
  next : (x r h' : ℕ) → j < get_or t (i * 7 + 2) 0 → x ≡ get_or t (i * 7 + (3 + j)) 0 → step h (get_or s x 0) h'
      → FoldsTo step h' (pick 0 s (drop (j + 1) (refs_at t i))) r
      → FoldsTo step h (pick 0 s (drop j (refs_at t i))) r
  next x r h' l e p f = rw (refs-cons t i j ok l, ← e) (h', p, f)

  none : get_or t (i * 7 + 2) 0 ≤ j → FoldsTo step h (pick 0 s (drop j (refs_at t i))) h
  none l = rw (refs_end t i j ok l) refl

pub loop-j-preserved : goal.loop-j-preserved
loop-j-preserved g c =
    let a = c.args in
    λ r f. c.loop-j.invariant r (next (λ h x r. goal.F-post g a.step h x r) a.table.now a.scratch.now a.i c.loop-j.j c.loop-j.h
    c.requires.record_ok c.field.result r c.step-h.result
    (omega arith) c.field.ensures c.step-h.ensures f)

pub returns : goal.returns
returns g c =
    let a = c.args in
    c.loop-j.invariant _ (none (λ h x r. goal.F-post g a.step h x r) a.table.now a.scratch.now a.i c.loop-j.j c.loop-j.h c.requires.record_ok (omega arith))
