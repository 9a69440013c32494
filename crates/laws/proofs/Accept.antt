-- What an accepted read says of its bytes: the theorems over specs/Accept.
-- Assumes nothing.
use Rattle.std.specs.Prelude.{◌≡◌, refl, ℕ, zero, suc, ◌-◌, Bool, not, ◌||◌, length, leb, Ok}
use Rattle.std.proofs.Common.{ap, arith, leb-true}
use mathlib.Core.List.Memᴰ.{head as here}
use mathlib.Core.List.Memᴰ.{tail as there}
use mathlib.Core.List.{List, [], ◌∷◌, Memᴰ as Mem}
use Rattle.scheme.specs.Refusals.{EXTRA, FULL}
use Rattle.scheme.specs.Cells.{Cell}
use Rattle.scheme.specs.Bag.{load, header, raw_cell, raw_cells, links, roots_ok, checksum, read, Got, Counts, Past, root_list, index, bag, Bag}
use Rattle.scheme.specs.Res.{check, refusal}
use Rattle.laws.specs.CellRound.{Fit}
use Rattle.laws.specs.Accept.{then_use, check_inv, Small, cell-fit, links-inv, roots-inv, Whole, Accepted}

pub cells_fit : (b : List ℕ) (size n p : ℕ) (c : Past (List Cell)) → raw_cells b size n p ≡ Ok c → Small b → (length c.it ≡ n) × ((d : Cell) → Mem d c.it → Fit d)
cells_fit b size zero p c e S = let q : [] ≡ c.it = cc in rw (← q) (refl, λ d m. elim m [ ])
cells_fit b size (suc n) p c e S =
    then_use (raw_cell b size p) _ _ e λ f x₁ e₁.
    then_use (raw_cells b size n f.next) _ _ e₁ λ r x₂ e₂.
    let ih = cells_fit b size n f.next r x₂ S in
    let F = cell-fit b size p f x₁ S in
    let q : f.it ∷ r.it ≡ c.it = cc in
    rw (← q) (ap suc ih.0, λ d m. go f.it r.it F ih.1 d m)
  where
    go : (x : Cell) (xs : List Cell) → Fit x → ((d : Cell) → Mem d xs → Fit d) → (d : Cell) → Mem d (x ∷ xs) → Fit d
    go x xs F G d (here e) = rw e F
    go x xs F G d (there m) = G d m

pub bag-inv : (whole : Bool) (scratch room : ℕ) (b : List ℕ) (g : Bag) → Small b → bag whole scratch room b ≡ Ok g → Whole g
unfolding bag
bag-inv whole scratch room b g S e =
    then_use (header scratch room b) _ _ e λ h x₁ e₁.
    then_use (root_list b h) _ _ e₁ λ roots x₂ e₂.
    then_use (index b h roots.next) _ _ e₂ λ p x₃ e₃.
    then_use (raw_cells b h.shape.size h.cells p.next) _ _ e₃ λ c x₄ e₄.
    then_use (checksum h.shape.has_crc b c.next) _ _ e₄ λ end x₅ e₅.
    then_use (check (not whole || leb (length b) end) (refusal EXTRA end)) _ _ e₅ λ u₆ x₆ e₆.
    then_use (links 0 h.cells c.it) _ _ e₆ λ u₇ x₇ e₇.
    then_use (roots_ok 0 h.cells roots.it) _ _ e₇ λ u₈ x₈ e₈.
    let C = cells_fit b h.shape.size h.cells p.next c x₄ S in
    let q₁ : c.it ≡ g.cells = cc in
    let q₂ : roots.it ≡ g.roots = cc in
    rw (← q₁, ← q₂) (record { fit = C.1; linked = links-inv 0 h.cells c.it u₇ x₇ (omega (arith, C.0)); inside = λ r m. rw C.0 (roots-inv 0 h.cells roots.it u₈ x₈ r m) })

pub read-inv : (whole : Bool) (scratch room cap : ℕ) (s : List Cell) (b : List ℕ) (g : Got) → Small b → read whole scratch room cap s b ≡ Ok g → Accepted cap s g
unfolding read
read-inv whole scratch room cap s b g S e =
    then_use (bag whole scratch room b) _ _ e λ a x₁ e₁.
    then_use (check (leb (length (load s 0 a.cells).store) cap) (refusal FULL 0)) _ _ e₁ λ u₂ x₂ e₂.
    let free = leb-true (length (load s 0 a.cells).store) cap (check_inv (leb (length (load s 0 a.cells).store) cap) (refusal FULL 0) u₂ x₂) in
    let q₀ : g.counts ≡ record { used = a.used; cells = length a.cells; roots = length a.roots; added = length (load s 0 a.cells).store - length s } = cc in
    let q₃ : g.store ≡ (load s 0 a.cells).store = cc in
    record {
      bag = a;
      whole = bag-inv whole scratch room b a S x₁;
      cells_is = ap (λ (c : Counts). c.cells) q₀;
      roots-is = ap (λ (c : Counts). c.roots) q₀;
      store_is = q₃;
      names-is = cc;
      added_is = rw q₃ (ap (λ (c : Counts). c.added) q₀);
      free = rw q₃ free;
    }
