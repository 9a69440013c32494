-- `report::put_lines` meets its contract: after i turns the lines of the first i roots are written. Assumes nothing.
use Prim.Native.Nat.{◌≤◌, ◌-◌, ◌+◌}
use mathlib.Core.Path.{◌≡◌}
use lib.ListN.{length}
use Rattle.report.specs.Lines.{lines_of}
use Rattle.laws.specs.Puts.{puts}
use Rattle.report.proofs.put_lines.Given as goal

abbrev pub invariant-loop-root : goal.invariant-loop-root
invariant-loop-root l =
    (l.scratch ≡ l.initial.scratch) × (length l.page ≡ length l.initial.page) × (length l.out ≡ length l.initial.out)
    × (l.to ≡ l.at + length (lines_of l.store.count l.store.table.now l.store.bytes.now l.roots l.root-index))
    × (l.out ≡ puts l.initial.out l.at (lines_of l.store.count l.store.table.now l.store.bytes.now l.roots l.root-index))
