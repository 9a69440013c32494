-- The cells of a batch are whole in what is handed over, and have a place for their number. Assumes nothing.
use Rattle.std.specs.Prelude.{ℕ, ◌*◌, ◌≤◌, ◌≡◌}
use Rattle.std.proofs.Common.{arith}
use Rattle.add_many.specs.Many.{cells_in}

pub cells_fit : (a b c k : ℕ) → k ≡ cells_in a b c → (k * 7 ≤ a) × (k * 128 ≤ b) × (k ≤ c)
cells_fit a b c k e =
    (omega arith, omega arith, omega arith)
