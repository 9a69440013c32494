-- `reader::fill_numbers` meets its contract. The invariant: what is left to write gives the whole. Assumes nothing.
use Prim.Native.Nat.{ℕ, ◌≤◌, ◌<◌, ◌+◌, ◌-◌, ◌*◌}
use mathlib.Core.Path.{◌≡◌}
use mathlib.Core.List.{Memᴰ as Mem}
use lib.ListN.{length}
use Rattle.laws.specs.Puts.{puts}
use Rattle.bits.specs.Field.{numbers_at}
use Rattle.reader.specs.Filled.{numbers_of}
use Rattle.reader.proofs.fill_numbers.Given as goal

abbrev pub invariant-loop-k : goal.invariant-loop-k
invariant-loop-k l =
    (l.place + (l.count - l.k) * l.o.size ≤ length l.reply)
    × ((r : ℕ) → Mem r (numbers_at l.reply l.o.size (l.count - l.k) l.place) → r < l.o.cells)
    × (puts l.out l.k (numbers_of l.scratch l.o.cells (numbers_at l.reply l.o.size (l.count - l.k) l.place)) ≡ puts l.initial.out 0 (numbers_of l.scratch l.o.cells (numbers_at l.reply l.o.size l.count l.at)))
