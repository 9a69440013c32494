-- Reading the bag that is written from a held cell gives its number and adds nothing: the theorem over specs/Round.
-- Assumes nothing.
use Rattle.std.specs.Prelude.{◌≡◌, refl, ℕ, suc, ◌-◌, ◌<◌, length, get_or}
use Rattle.std.proofs.Common.{sym, ◌∙◌, arith, length-append}
use mathlib.Core.List.Memᴰ.{head as here}
use mathlib.Core.List.Memᴰ.{tail as there}
use mathlib.Core.List.{List, [], ◌∷◌, ◌++◌, map, append_assoc, Memᴰ as Mem}
use Rattle.scheme.specs.Write.{place_of, bag_cell}
use Rattle.scheme.specs.Bag.{link, load}
use Rattle.laws.specs.Distinct.{Nodup}
use Rattle.scheme.specs.Cells.{Cell, at}
use Rattle.laws.specs.CellLaws.{cell_path}
use Rattle.laws.specs.Unique.{Sound, insert-old}
use Rattle.scheme.specs.Order.{kids_of, order_of}
use Rattle.laws.specs.Kahn.{Later}
use Rattle.laws.specs.Reach.{listing, reach-held}
use Rattle.laws.specs.Round.{plain_cells, index_at, find-held, index-later}

map_same : (f : ℕ → ℕ) (l : List ℕ) → ((x : ℕ) → Mem x l → f x ≡ x) → map f l ≡ l
map_same f [] h = refl
map_same f (x ∷ xs) h = let p = h x (here refl) in let q = map_same f xs (λ y m. h y (there m)) in cc

map-twice : (f g : ℕ → ℕ) (l : List ℕ) → map f (map g l) ≡ map (λ (x : ℕ). f (g x)) l
map-twice f g [] = refl
map-twice f g (x ∷ xs) = rw (map-twice f g xs)

module _ (s : List Cell) (S : Sound s) where
  -- the references of the cell at the place behind `pre` come back
  link-back : (pre : List ℕ) (x : ℕ) (suf out : List ℕ) → out ≡ pre ++ x ∷ suf → Nodup out → ((c : ℕ) → Mem c (kids_of s x) → Mem c suf) → link (length pre) (bag_cell s out x) suf ≡ at s x
  link-back pre x suf out e n later = cell_path (link (length pre) (bag_cell s out x) suf) (at s x) refl refl refl (map-twice _ _ (at s x).refs ∙ map_same _ (at s x).refs back)
    where
      back : (r : ℕ) → Mem r (at s x).refs → get_or suf (place_of r out - suc (length pre)) 0 ≡ r
      back r k =
          let m = later r k in
          let q : place_of r out - suc (length pre) ≡ place_of r suf = omega (arith, index-later pre x suf out e n r m) in
          rw q (index_at r suf m)

  load-back : (pre suf out : List ℕ) → out ≡ pre ++ suf → Nodup out → Later (kids_of s) suf → ((x : ℕ) → Mem x out → x < length s)
      → load s (length pre) (map (bag_cell s out) suf) ≡ record { store = s; nums = suf }
  load-back pre [] out e n later held = refl
  load-back pre (x ∷ suf) out e n later held =
      let hx = held x (rw e (in_middle pre)) in
      let len : length (pre ++ x ∷ []) ≡ suc (length pre) = omega (arith, length-append pre (x ∷ [])) in
      let ih = rw len at (load-back (pre ++ x ∷ []) suf out (e ∙ sym (append_assoc pre (x ∷ []) suf)) n later.1 held) in
      let found = find-held s S x hx in
      let old = insert-old s (at s x) (rw found hx) in
      rw (ih, link-back pre x suf out e n later.0, old, found)
    where
      in_middle : (a : List ℕ) → Mem x (a ++ x ∷ suf)
      in_middle [] = here refl
      in_middle (y ∷ ys) = there (in_middle ys)

-- reading the bag that is written from a held cell gives its number as the first bag cell's, and adds nothing
pub round_trip : (s : List Cell) → Sound s → (root : ℕ) → root < length s → load s 0 (plain_cells s (order_of s root)) ≡ record { store = s; nums = order_of s root }
round_trip s S root h =
    let W = listing s S.low root h in
    load-back s S [] (order_of s root) (order_of s root) refl W.once W.later (λ x m. reach-held s S.low root h (W.sound x m))
