-- `add_many::add_each` meets its contract. The loop's invariant: the store is sound, and what is left, from here, comes to what all come to. Assumes nothing.
use Prim.Native.Nat.{◌-◌}
use mathlib.Core.Path.{◌≡◌}
use mathlib.Core.Bool.{true}
use Rattle.scheme.specs.Memory.{sound}
use Rattle.add_many.specs.Many.{many}
use Rattle.add_many.proofs.add_each.Given as goal

abbrev pub invariant-loop-i : goal.invariant-loop-i
invariant-loop-i l = (sound l.count l.table l.bytes ≡ true) × (many l.heads l.blocks
    (l.k - l.i-counter) l.i-counter l.count l.table l.bytes l.numbers ≡ many l.heads l.blocks l.k 0 l.initial.count l.initial.table l.initial.bytes l.initial.numbers)
