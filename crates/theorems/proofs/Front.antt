-- The cells in the front of a text of bytes, over specs/Front.
-- Assumes nothing.
use Rattle.std.specs.Prelude.{◌≡◌, ℕ, zero, suc, ◌+◌, ◌≤◌, length, Ok}
use Rattle.std.proofs.Math.Path.{refl}
use Rattle.std.proofs.Common.{◌∙◌, arith}
use mathlib.Core.List.{List}
use Rattle.std.proofs.Math.ListN.{take}
use Rattle.scheme.specs.Bag.{raw_cell, raw_cells, Past}
use Rattle.scheme.specs.Cells.{Cell}
use Rattle.laws.specs.Accept.{then_use}
use Rattle.theorems.specs.Places.{total, cell_fields, cells_fields}
use Rattle.theorems.specs.Front.{Front, within, total-append, front-then, front-last, cell-next, front-cell}

pub cells-next : (b : List ℕ) (size n p : ℕ) (c : Past (List Cell)) → raw_cells b size n p ≡ Ok c → c.next ≡ p + total (cells_fields b size n p)
cells-next b size zero p c e = let q : c.next ≡ p = cc in omega arith
cells-next b size (suc n) p c e =
    then_use (raw_cell b size p) _ _ e λ f x₁ e₁.
    then_use (raw_cells b size n f.next) _ _ e₁ λ r x₂ e₂.
    let q : c.next ≡ r.next = cc in
    let m = cell-next b size p f x₁ in
    let ih = cells-next b size n f.next r x₂ in
    q ∙ ih ∙ rw m (omega (arith, total-append (cell_fields b size p) (cells_fields b size n (p + total (cell_fields b size p)))))

module _ (k : ℕ) (b : List ℕ) (h : k ≤ length b) where
  pub front-cells : (size n p : ℕ) (c : Past (List Cell)) → raw_cells b size n p ≡ Ok c → p ≤ k → Front k p (cells_fields b size n p) c (raw_cells (take k b) size n p)
  front-cells size zero p c e g = within (omega arith) e
  front-cells size (suc n) p c e g =
      then_use (raw_cell b size p) _ _ e λ f x₁ e₁.
      then_use (raw_cells b size n f.next) _ _ e₁ λ r x₂ e₂.
      let m = cell-next b size p f x₁ in
      front-then _ (p + total (cell_fields b size p)) _ (front-cell k b h size p f x₁) refl λ j.
      let q = p + total (cell_fields b size p) in
      let F : Front k q (cells_fields b size n q) r (raw_cells (take k b) size n f.next) = rw m (front-cells size n q r (rw m at x₂) j) in
      front-last _ F e₂
