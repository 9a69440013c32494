-- `report::lines_len` meets its contract: after i turns the total is that of the first i roots. Assumes nothing.
use Prim.Native.Nat.{◌≤◌, ◌-◌, ◌*◌}
use mathlib.Core.Path.{◌≡◌}
use lib.ListN.{length}
use Rattle.report.specs.Lines.{lines_of}
use Rattle.report.proofs.lines_len.Given as goal

abbrev pub invariant-loop-root : goal.invariant-loop-root
invariant-loop-root l =
    (l.scratch ≡ l.initial.scratch) × (length l.page ≡ length l.initial.page)
    × (l.total ≡ length (lines_of l.store.count l.store.table.now l.store.bytes.now l.roots l.root-index)) × (l.total ≤ 8193 * l.root-index)
