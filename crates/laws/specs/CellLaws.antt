-- Cells, stores, and the structure that a cell unfolds to.
-- A store is the list of its cells, and a cell's number is its place. `unfolded k s n` is the structure of cell n of s, to k levels.
-- In a store of n cells whose references go to lower numbers (or in a bag of n cells whose references go to later places) n levels are all.
-- Assumes nothing.
use Rattle.std.specs.Prelude.{◌≡◌, refl, true, ◌&&◌, eqb}
use Rattle.std.proofs.Common.{eqb-true, eq-eqb}
use Rattle.scheme.specs.Cells.{Cell, same, eqbs}
use Rattle.laws.specs.Tests.{eqbs-true, eqbs-refl, and_left, and_right, and_both}

pub cell_path : (a b : Cell) → a.exotic ≡ b.exotic → a.len ≡ b.len → a.bytes ≡ b.bytes → a.refs ≡ b.refs → a ≡ b
cell_path a b p q r t = λ i. record { exotic = p i; len = q i; bytes = r i; refs = t i }

pub same_true : (a b : Cell) → same a b ≡ true → a ≡ b
same_true a b e =
    let x = eqb a.exotic b.exotic in
    let y = eqb a.len b.len in
    let z = eqbs a.bytes b.bytes in
    let w = eqbs a.refs b.refs in
    let e₁ = and_right x (y && (z && w)) e in
    let e₂ = and_right y (z && w) e₁ in
    cell_path a b (eqb-true _ _ (and_left x _ e)) (eqb-true _ _ (and_left y _ e₁)) (eqbs-true _ _ (and_left z w e₂)) (eqbs-true _ _ (and_right z w e₂))

pub same_refl : (a : Cell) → same a a ≡ true
same_refl a = and_both _ _ (eq-eqb a.exotic a.exotic refl) (and_both _ _ (eq-eqb a.len a.len refl) (and_both _ _ (eqbs-refl a.bytes) (eqbs-refl a.refs)))
