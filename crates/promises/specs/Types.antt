-- What the types of handed cells say: the cells of a batch, and the cell that the C interface makes, have 128 data bytes. Assumes nothing.
use Rattle.std.specs.Prelude.{refl, ℕ, zero, suc, ◌-◌, ◌*◌, ◌≤◌, ◌<◌, List, length, take, drop, replicate}
use Rattle.std.proofs.Common.{arith, length-append, length-drop, length-take, length-take-le}
use mathlib.Core.List.Memᴰ.{head as here}
use mathlib.Core.List.Memᴰ.{tail as there}
use Rattle.std.proofs.lemmas.List.{length-replicate}
use Rattle.laws.specs.Accept.{Small, mem-take, mem-drop}
use Rattle.laws.specs.Add.{Typed}
use Rattle.add_many.specs.Many.{cells_in, builder_at}
use Rattle.add_many.specs.Batch.{cells_fit}
use Rattle.wire.specs.Wire.{fit, wire_cell}
use Rattle.theorems.specs.TextBytes.{small-append}

small-zeros : (k : ℕ) → Small (replicate {A = ℕ} k 0)
small-zeros zero z m = elim m [ ]
small-zeros (suc k) z (here e) = omega arith
small-zeros (suc k) z (there m) = small-zeros k z m

-- the cell that C hands over, of bytes
pub wire_typed : (flag bits : ℕ) (own refs : List ℕ) → Small own → Typed (wire_cell flag bits own refs)
unfolding wire_cell fit
wire_typed flag bits own refs S =
    let zeros = replicate {A = ℕ} (128 - length own) 0 in
    record {
      many = omega (arith, length-append (take 128 own) zeros, length-take 128 own, length-replicate {A = ℕ} (128 - length own) 0);
      small = small-append (take 128 own) zeros (λ x m. S x (mem-take 128 own x m)) (small-zeros (128 - length own));
    }

-- a cell of a batch whose blocks are bytes
pub batch_typed : (hs ds : List ℕ) (places i : ℕ) → Small ds → i < cells_in (length hs) (length ds) places → Typed (builder_at hs ds i)
unfolding builder_at
batch_typed hs ds places i S h =
    let k = cells_fit (length hs) (length ds) places (cells_in (length hs) (length ds) places) refl in
    let w : 128 ≤ length (drop (i * 128) ds) = omega (arith, length-drop (i * 128) ds, k.1, h) in
    record {
      many = omega (arith, length-take-le 128 (drop (i * 128) ds) w);
      small = λ x m. S x (mem-drop (i * 128) ds x (mem-take 128 (drop (i * 128) ds) x m));
    }
