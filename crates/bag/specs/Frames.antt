-- A cell that is read by place is the cell of the definitions, and takes less than 300 bytes. Assumes nothing.
use Rattle.std.specs.Prelude.{◌≡◌, ℕ, ◌+◌, ◌*◌, ◌≤◌, ◌<◌, List, length, get_or, Ok, Err}
use Rattle.std.proofs.Common.{◌∙◌, mul-le-mul_left, arith}
use Rattle.scheme.specs.declared.Refusal.{Refusal}
use Rattle.scheme.specs.Bag.{raw_cell}
use Rattle.raw_cell.specs.Frame.{frame}
use Rattle.raw_cell.specs.Tie.{cell_past, raw-cell-frame}
use Rattle.raw_cell.specs.Bounds.{Within, frame-within}
use Rattle.raw_cell.specs.declared.RawCell.{RawCell}

-- what a frame says
pub record FrameIs (b : List ℕ) (size p : ℕ) (f : RawCell) : Type 0 where
  pub is : raw_cell b size p ≡ Ok (cell_past b size f)
  pub within : Within b size p f
  -- the references lie in the bytes
  pub room : f.links + f.refs * size ≤ length b
  pub near : size ≤ 4 → f.next ≤ p + 300

module _ (b : List ℕ) (small : (j : ℕ) → get_or b j 0 < 256) (size p : ℕ) where
  pub frame-bad : (r : Refusal) → frame b size p ≡ Err r → raw_cell b size p ≡ Err r
  frame-bad r e = raw-cell-frame b size small p ∙ rw e

  pub frame-ok : (f : RawCell) → frame b size p ≡ Ok f → FrameIs b size p f
  frame-ok f e =
      let w = frame-within b size p f small e in
      record {
        is = raw-cell-frame b size small p ∙ rw e;
        within = w;
        room = omega (arith, w.refs_end, w.inside);
        near = λ h. let k = mul-le-mul_left f.refs h in omega (arith, w.refs_end, w.data_end, w.hashes-end, w.arity);
      }
