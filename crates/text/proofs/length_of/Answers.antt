-- `text::length_of` meets its contract. Assumes nothing.
use Rattle.std.proofs.Common.{rules}
use Prim.Native.Nat.{◌+◌, ◌*◌, ◌≤◌, min}
use mathlib.Core.Path.{◌∙◌, ap}
use native.Mathlib.Omega.{arith}
use lib.ListN.{length, drop}
use Rattle.scheme.specs.Memory.{cell_at}
use Rattle.laws.specs.Passes.{cut-last}
use Rattle.depth.specs.Pass.{turns-values}
use Rattle.text.specs.Parts.{length_step}
use Rattle.text.proofs.Texts.{caps-length, length-eq}
use Rattle.text.proofs.length_of.Goals as goal

pub returns : goal.returns
returns c =
    let a = c.args in
    λ d h.
    cut-last length_step a.cap (caps-length a.cap) a.table.now d a.n _ (drop (a.n + 1) a.scratch.now)
    (turns-values length_step a.cap (caps-length a.cap) a.table.now d _ (a.n + 1) _ _ c.requires.linked (omega arith)
    (λ v i r l p. let k : i * 128 + 128 ≤ length d = omega arith in search rules) c.pass.ensures)
    ∙ ap (min a.cap) (length-eq (cell_at a.table.now d) a.n)
