-- `bits::skip_fields` meets its contract. The invariant: what is left, from here, answers as the whole does.
-- Assumes nothing.
use Prim.Native.Nat.{◌-◌}
use mathlib.Core.Path.{◌≡◌}
use Rattle.bits.specs.Field.{skip_fields_at}
use Rattle.bits.proofs.skip_fields.Given as goal

abbrev pub invariant-loop : goal.invariant-loop
invariant-loop l = skip_fields_at l.bytes l.width (l.count - l.counter) l.place ≡ skip_fields_at l.bytes l.width l.count l.at
