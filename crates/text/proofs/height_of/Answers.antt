-- `text::height_of` meets its contract. Assumes nothing.
use Rattle.std.proofs.Common.{rules}
use Prim.Native.Nat.{◌+◌}
use native.Mathlib.Omega.{arith}
use lib.ListN.{drop}
use Rattle.scheme.specs.Text.{height_step}
use Rattle.laws.specs.Passes.{cut-last, caps-over}
use Rattle.depth.specs.Pass.{turns-values}
use Rattle.text.proofs.height_of.Goals as goal

pub returns : goal.returns
returns c =
    let a = c.args in
    λ d.
    cut-last height_step a.cap (caps-over a.cap) a.table.now d a.n _ (drop (a.n + 1) a.scratch.now)
    (turns-values height_step a.cap (caps-over a.cap) a.table.now d _ (a.n + 1) _ _ c.requires.linked (omega arith) (λ v i r l p. search rules) c.pass.ensures)
