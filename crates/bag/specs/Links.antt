-- The links of a bag, one reference, one root and one cell at a time. Assumes nothing.
use Rattle.std.specs.Prelude.{◌≡◌, refl, ℕ, suc, ◌+◌, ◌≤◌, ◌<◌, Bool, not, ◌||◌, take, get_or, leb, ltb, Ok, Err}
use Rattle.std.proofs.Math.Path.{ap}
use Rattle.std.proofs.Common.{sym, ◌∙◌, add-one, add-zero, zero-add, arith, take-suc}
use mathlib.Core.List.{List, [], ◌∷◌, ◌++◌}
use Rattle.std.proofs.Math.ListN.{length}
use Rattle.std.proofs.Math.Seq.{length-take-le}
use borrow.Author.Tests.{lt-ltb, le-ltb}
use Rattle.scheme.specs.Refusals.{BACK, RANGE, ROOT, EXTRA}
use Rattle.scheme.specs.Res.{Res, then, check, refusal}
use Rattle.scheme.specs.declared.Refusal.{Refusal}
use Rattle.scheme.specs.Cells.{Cell}
use Rattle.scheme.specs.Bag.{refs_ok, links, roots_ok}
use Rattle.bits.specs.Field.{number_at, numbers_at}
use Rattle.bag.specs.Places.{cell_at, cells_at}
use Rattle.bag.specs.Scan.{cells-append, cells-length}

-- one reference of the cell at place i of n: BACK, RANGE
unfoldable pub link_ok : ℕ → ℕ → ℕ → Res (Unit {0})
link_ok i n r = then (check (ltb i r) (refusal BACK i)) λ _. check (ltb r n) (refusal RANGE i)

then_assoc : (x y z : Res (Unit {0})) → then (then x λ _. y) (λ _. z) ≡ then x λ _. then y λ _. z
then_assoc (Err r) y z = refl
then_assoc (Ok u) y z = refl

module _ (i n r : ℕ) where
  pub link-back : r ≤ i → link_ok i n r ≡ Err (refusal BACK i)
  unfolding link_ok
  link-back h = rw (le-ltb i r h)

  pub link-range : i < r → n ≤ r → link_ok i n r ≡ Err (refusal RANGE i)
  unfolding link_ok
  link-range h g = rw (lt-ltb i r h, le-ltb r n g)

  pub link-ok : i < r → r < n → link_ok i n r ≡ Ok tt
  unfolding link_ok
  link-ok h g = rw (lt-ltb i r h, lt-ltb r n g)

refs-cons : (i n r : ℕ) (rs : List ℕ) → refs_ok i n (r ∷ rs) ≡ then (link_ok i n r) λ _. refs_ok i n rs
unfolding link_ok
refs-cons i n r rs = sym (then_assoc (check (ltb i r) (refusal BACK i)) (check (ltb r n) (refusal RANGE i)) (refs_ok i n rs))

-- the references of k bytes from p on
module _ (b : List ℕ) (size i n k p : ℕ) where
  pub refs-bad : (r : Refusal) → link_ok i n (number_at b size p) ≡ Err r → refs_ok i n (numbers_at b size (suc k) p) ≡ Err r
  refs-bad r e = refs-cons i n (number_at b size p) (numbers_at b size k (p + size)) ∙ rw e

  pub refs-next : link_ok i n (number_at b size p) ≡ Ok tt → refs_ok i n (numbers_at b size (suc k) p) ≡ refs_ok i n (numbers_at b size k (p + size))
  refs-next e = refs-cons i n (number_at b size p) (numbers_at b size k (p + size)) ∙ rw e

  -- the roots, from place i of the list on
  pub roots-bad : n ≤ number_at b size p → roots_ok i n (numbers_at b size (suc k) p) ≡ Err (refusal ROOT i)
  roots-bad h = rw (le-ltb (number_at b size p) n h)

  pub roots-next : number_at b size p < n → roots_ok i n (numbers_at b size (suc k) p) ≡ roots_ok (suc i) n (numbers_at b size k (p + size))
  roots-next h = rw (lt-ltb (number_at b size p) n h)

-- root k of the list, r, of n cells: ROOT
abbrev pub root_ok : ℕ → ℕ → ℕ → Res (Unit {0})
root_ok n k r = check (ltb r n) (refusal ROOT k)

-- a test f of each of the numbers, which stand at place k and on: the first refusal is the answer
abbrev pub each_ok : (ℕ → ℕ → Res (Unit {0})) → ℕ → List ℕ → Res (Unit {0})
each_ok f k [] = Ok tt
each_ok f k (r ∷ rs) = then (f k r) λ _. each_ok f (suc k) rs

-- a call P of a test answers as f does
abbrev pub Computes : (ℕ → ℕ → Res (Unit {0}) → Type 0) → (ℕ → ℕ → Res (Unit {0})) → Type 0
Computes P f = (k v : ℕ) (t : Res (Unit {0})) → P k v t → t ≡ f k v

-- the answer r for the numbers is that of the test, whatever f its calls P answer as
abbrev pub AreTested : (ℕ → ℕ → Res (Unit {0}) → Type 0) → List ℕ → Res (Unit {0}) → Type 0
AreTested P rs r = (f : ℕ → ℕ → Res (Unit {0})) → Computes P f → r ≡ each_ok f 0 rs

-- in a turn one number is tested, at place p
module _ (f : ℕ → ℕ → Res (Unit {0})) (b : List ℕ) (size k n p : ℕ) where
  pub each-bad : (r : Refusal) → f k (number_at b size p) ≡ Err r → each_ok f k (numbers_at b size (suc n) p) ≡ Err r
  each-bad r e = rw e

  pub each-next : f k (number_at b size p) ≡ Ok tt → each_ok f k (numbers_at b size (suc n) p) ≡ each_ok f (k + 1) (numbers_at b size n (p + size))
  each-next e = rw (e, add-one)

pub refs-each : (i n k : ℕ) (rs : List ℕ) → each_ok (λ _ v. link_ok i n v) k rs ≡ refs_ok i n rs
unfolding link_ok
refs-each i n k [] = refl
refs-each i n k (r ∷ rs) = go (check (ltb i r) (refusal BACK i)) (check (ltb r n) (refusal RANGE i)) (refs-each i n (suc k) rs)
  where
    go : (x y : Res (Unit {0})) {u v : Res (Unit {0})} → u ≡ v → then (then x λ _. y) (λ _. u) ≡ then x λ _. then y λ _. v
    go (Err s) y e = refl
    go (Ok s) (Err t) e = refl
    go (Ok s) (Ok t) e = e

pub roots-each : (n k : ℕ) (rs : List ℕ) → each_ok (root_ok n) k rs ≡ roots_ok k n rs
roots-each n k [] = refl
roots-each n k (r ∷ rs) = ap (λ (x : Res (Unit {0})). then (check (ltb r n) (refusal ROOT k)) λ _. x) (roots-each n (suc k) rs)

then_unit : (x : Res (Unit {0})) → x ≡ then x λ _. Ok tt
then_unit (Err r) = refl
then_unit (Ok u) = refl

-- the last cell is looked at first
pub links-snoc : (i n : ℕ) (cs : List Cell) (c : Cell) → links i n (cs ++ c ∷ []) ≡ then (refs_ok (i + length cs) n c.refs) λ _. links i n cs
links-snoc i n [] c = rw add-zero (then_unit (refs_ok i n c.refs))
links-snoc i n (d ∷ cs) c =
    let q : i + suc (length cs) ≡ suc i + length cs = omega arith in
    rw (links-snoc (suc i) n cs c, q) (then_assoc (refs_ok (suc i + length cs) n c.refs) (links (suc i) n cs) (refs_ok i n d.refs))

module _ (b : List ℕ) (size n : ℕ) (m : List ℕ) (k : ℕ) (h : k < length m) where
  pub links-turn : links 0 n (cells_at b size (take (suc k) m)) ≡ then (refs_ok k n (cell_at b size (get_or m k 0)).refs) λ _. links 0 n (cells_at b size (take k m))
  unfolding cells_at
  links-turn =
      let q : 0 + length (cells_at b size (take k m)) ≡ k = rw (cells-length b size (take k m), length-take-le k m (omega arith)) (zero-add k) in
      ap (λ (l : List ℕ). links 0 n (cells_at b size l)) (take-suc m k 0 h)
      ∙ ap (λ (l : List Cell). links 0 n l) (cells-append b size (take k m) (get_or m k 0 ∷ []))
      ∙ links-snoc 0 n (cells_at b size (take k m)) (cell_at b size (get_or m k 0))
      ∙ ap (λ (j : ℕ). then (refs_ok j n (cell_at b size (get_or m k 0)).refs) λ _. links 0 n (cells_at b size (take k m))) q

  pub links-bad : (r : Refusal) → refs_ok k n (cell_at b size (get_or m k 0)).refs ≡ Err r → links 0 n (cells_at b size (take (suc k) m)) ≡ Err r
  links-bad r e = links-turn ∙ rw e

  pub links-next : refs_ok k n (cell_at b size (get_or m k 0)).refs ≡ Ok tt → links 0 n (cells_at b size (take (suc k) m)) ≡ links 0 n (cells_at b size (take k m))
  links-next e = links-turn ∙ rw e

pub links-none : (b : List ℕ) (size n : ℕ) (m : List ℕ) → links 0 n (cells_at b size (take 0 m)) ≡ Ok tt
unfolding cells_at
links-none b size n m = refl

-- EXTRA: bytes remain behind `end`, and none may
abbrev pub extra_ok : Bool → ℕ → ℕ → Res (Unit {0})
extra_ok whole end len = check (not whole || leb len end) (refusal EXTRA end)
