-- The test of a checksum, by place. Assumes nothing.
use Rattle.std.specs.Prelude.{Ok}
use Prim.Native.Nat.{ℕ}
use mathlib.Core.Path.{◌≡◌, refl}
use mathlib.Core.Bool.{Bool, true, false, cond}
use mathlib.Core.List.{List}
use lib.ListN.{take, drop}
use lib.Dec.{eqb}
use Rattle.scheme.specs.Refusals.{CRC}
use Rattle.scheme.specs.Res.{then, check, refusal}
use Rattle.scheme.specs.Bytes.{unle}
use Rattle.scheme.specs.Crc.{crc_of}
use Rattle.scheme.specs.Bag.{checksum}
use Rattle.bits.specs.Field.{skip_at}
use Rattle.bits.specs.Laws.{chunk-cases, skip-whole, skip-cut}

pub crc_at : (checked : Bool) (b : List ℕ) (p : ℕ) → checksum checked b p ≡
    cond checked
    (then (skip_at b p 4) λ next.
    then (check (eqb (unle (take 4 (drop p b))) (crc_of (take p b))) (refusal CRC p)) λ _.
    Ok next)
    (Ok p)
unfolding checksum
crc_at false b p = refl
crc_at true b p = chunk-cases b p 4 (λ h g. rw (g, skip-whole b p 4 h)) (λ h g. rw (g, skip-cut b p 4 h))
