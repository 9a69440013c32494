-- One cell of a scan, and what a scan that comes to its end has seen. Assumes nothing.
use Rattle.std.specs.Prelude.{◌≡◌, ℕ, zero, suc, ◌+◌, ◌≤◌, ◌<◌, List, [], ◌∷◌, ◌++◌, length, take, drop, get_or, set, Ok, Err}
use Rattle.std.proofs.Math.Path.{refl}
use Rattle.std.proofs.Common.{ap, not-suc-le-zero, le_of_suc-le-suc, arith, take_at}
use Rattle.scheme.specs.Res.{Res, then}
use Rattle.scheme.specs.declared.Refusal.{Refusal}
use Rattle.scheme.specs.Cells.{Cell, at}
use Rattle.scheme.specs.Bag.{Past, raw_cell, raw_cells}
use Rattle.laws.specs.Puts.{puts, puts-start}
use Rattle.laws.specs.Accept.{then_use}
use Rattle.bag.specs.Places.{IsCell, cell_at, cells_at, places, scanned}

module _ (b : List ℕ) (size n p : ℕ) where
  pub scan_cell : (c : Past Cell) → raw_cell b size p ≡ Ok c → scanned b size (suc n) p ≡ scanned b size n c.next
  unfolding scanned
  scan_cell c e = rw e (go (raw_cells b size n c.next))
    where
      go : (r : Res (Past (List Cell))) → then (then r λ cs. Ok (record { it = c.it ∷ cs.it; next = cs.next })) (λ (cs : Past (List Cell)). Ok cs.next) ≡ then r λ cs. Ok cs.next
      go (Err x) = refl
      go (Ok x) = refl

  pub scan_refused : (r : Refusal) → raw_cell b size p ≡ Err r → scanned b size (suc n) p ≡ Err r
  unfolding scanned
  scan_refused r e = rw e

  pub places-cell : (c : Past Cell) → raw_cell b size p ≡ Ok c → places b size (suc n) p ≡ p ∷ places b size n c.next
  unfolding places
  places-cell c e = rw e

  pub places-refused : (r : Refusal) → raw_cell b size p ≡ Err r → places b size (suc n) p ≡ p ∷ []
  unfolding places
  places-refused r e = rw e

  -- the places, written into the scratch from entry i on
  pub marks-cell : (c : Past Cell) (i : ℕ) (s : List ℕ) → raw_cell b size p ≡ Ok c → puts s i (places b size (suc n) p) ≡ puts (set s i p) (i + 1) (places b size n c.next)
  unfolding puts
  marks-cell c i s e = rw (places-cell c e)

  pub marks-refused : (r : Refusal) (i : ℕ) (s : List ℕ) → raw_cell b size p ≡ Err r → puts s i (places b size (suc n) p) ≡ set s i p
  unfolding puts
  marks-refused r i s e = rw (places-refused r e)

pub scan_none : (b : List ℕ) (size p : ℕ) → scanned b size 0 p ≡ Ok p
unfolding scanned
scan_none b size p = refl

pub places-none : (b : List ℕ) (size p : ℕ) → places b size 0 p ≡ []
unfolding places
places-none b size p = refl

pub cell-is : (b : List ℕ) (size p : ℕ) (c : Past Cell) → raw_cell b size p ≡ Ok c → cell_at b size p ≡ c.it
unfolding cell_at
cell-is b size p c e = rw e

pub cells-append : (b : List ℕ) (size : ℕ) (ps qs : List ℕ) → cells_at b size (ps ++ qs) ≡ cells_at b size ps ++ cells_at b size qs
unfolding cells_at
cells-append b size [] qs = refl
cells-append b size (p ∷ ps) qs = ap (λ (l : List Cell). cell_at b size p ∷ l) (cells-append b size ps qs)

pub cells-length : (b : List ℕ) (size : ℕ) (ps : List ℕ) → length (cells_at b size ps) ≡ length ps
unfolding cells_at
cells-length b size [] = refl
cells-length b size (p ∷ ps) = ap suc (cells-length b size ps)

pub cells-get : (b : List ℕ) (size : ℕ) (ps : List ℕ) (i : ℕ) → i < length ps → at (cells_at b size ps) i ≡ cell_at b size (get_or ps i 0)
unfolding cells_at
cells-get b size [] i h = absurd (not-suc-le-zero h)
cells-get b size (p ∷ ps) zero h = refl
cells-get b size (p ∷ ps) (suc i) h = cells-get b size ps i (le_of_suc-le-suc h)

-- a scan that comes to its end: a place for each cell, and the cells there are those that were read
pub record Seen (b : List ℕ) (size n : ℕ) (ps : List ℕ) (cs : List Cell) : Type 0 where
  pub many : length ps ≡ n
  pub cells : cells_at b size ps ≡ cs
  pub whole : (k : ℕ) → k < n → IsCell b size (get_or ps k 0)

pub scan_seen : (b : List ℕ) (size n p : ℕ) (cs : Past (List Cell)) → raw_cells b size n p ≡ Ok cs → Seen b size n (places b size n p) cs.it
unfolding places cells_at
scan_seen b size zero p cs e = let q : [] ≡ cs.it = cc in record { many = refl; cells = q; whole = λ k h. absurd (not-suc-le-zero h) }
scan_seen b size (suc n) p cs e =
    then_use (raw_cell b size p) _ _ e λ c x₁ e₁.
    then_use (raw_cells b size n c.next) _ _ e₁ λ ds x₂ e₂.
    let q : c.it ∷ ds.it ≡ cs.it = cc in
    rw (x₁, ← q) (step c ds.it x₁ (scan_seen b size n c.next ds x₂))
  where
    step : (c : Past Cell) (ds : List Cell) → raw_cell b size p ≡ Ok c → Seen b size n (places b size n c.next) ds → Seen b size (suc n) (p ∷ places b size n c.next) (c.it ∷ ds)
    step c ds e S = record { many = ap suc S.many; cells = rw (cell-is b size p c e, S.cells); whole = whole }
      where
        whole : (k : ℕ) → k < suc n → IsCell b size (get_or (p ∷ places b size n c.next) k 0)
        whole zero h = (c, e)
        whole (suc k) h = S.whole k (le_of_suc-le-suc h)

-- the scratch afterwards begins with the places
pub marks-front : (s ps : List ℕ) (n : ℕ) → length ps ≡ n → n ≤ length s → take n (puts s 0 ps) ≡ ps
marks-front s ps n e h = rw (puts-start s ps (omega arith)) (take_at ps (drop (length ps) s) n e)
