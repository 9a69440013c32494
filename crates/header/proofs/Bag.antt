-- The theorem over specs/Tie. Assumes nothing.
use Rattle.std.specs.Prelude.{ℕ, ◌≡◌, Bool, List}
use Rattle.scheme.specs.Res.{then}
use Rattle.scheme.specs.Bag.{bag}
use Rattle.header.specs.Header.{header_at}
use Rattle.header.specs.Tie.{roots_in, after_head, header_tie}

-- a bag, by the places of its header
pub bag-header : (whole : Bool) (scratch room : ℕ) (b : List ℕ)
    → bag whole scratch room b ≡ then (header_at b scratch room) λ m. after_head whole b m.size m.cells m.checked (roots_in b m) m.first
unfolding bag
bag-header whole scratch room b = header_tie (after_head whole b) b scratch room
