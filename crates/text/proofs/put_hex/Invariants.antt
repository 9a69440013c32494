-- `text::put_hex` meets its contract: the digits of the bytes so far are written. Assumes nothing.
use Prim.Native.Nat.{◌+◌, ◌*◌}
use mathlib.Core.Path.{◌≡◌}
use lib.ListN.{length, take}
use Rattle.laws.specs.Puts.{puts}
use Rattle.scheme.specs.Text.{hex}
use Rattle.text.proofs.put_hex.Given as goal

abbrev pub invariant-loop-b : goal.invariant-loop-b
invariant-loop-b l =
    (l.to ≡ l.at + 2 * l.b-index) × (l.out ≡ puts l.initial.out l.at (hex (take l.b-index l.src))) × (length l.out ≡ length l.initial.out)
