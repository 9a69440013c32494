-- `bag::check_numbers` meets its contract. The invariant: the numbers that are left, from here, answer as all do. Assumes nothing.
use Prim.Native.Nat.{ℕ, ◌≤◌, ◌+◌, ◌-◌, ◌*◌}
use mathlib.Core.Path.{◌≡◌}
use lib.ListN.{length}
use Rattle.scheme.specs.Res.{Res}
use Rattle.bits.specs.Field.{numbers_at}
use Rattle.bag.specs.Links.{each_ok, Computes}
use Rattle.bag.proofs.check_numbers.Given as goal

abbrev pub invariant-loop-k : goal.invariant-loop-k
invariant-loop-k g l =
    (l.place + (l.count - l.k) * l.size ≤ length l.bytes)
    × ((f : ℕ → ℕ → Res (Unit {0})) → Computes (goal.F-post g l.test) f
    → each_ok f l.k (numbers_at l.bytes l.size (l.count - l.k) l.place) ≡ each_ok f 0 (numbers_at l.bytes l.size l.count l.at))
