-- Cut replies: no front of a bag is taken for a bag. It is what the library is for.
-- Assumes nothing.
use Rattle.std.specs.Prelude.{◌≡◌, refl, ℕ, ◌≤◌, ◌<◌, Bool, true, false, List, [], length, take, leb, Ok, Err}
use Rattle.std.proofs.Common.{sym, arith, leb-true, leb-false}
use Rattle.std.proofs.Math.Seq.{take-length}
use Rattle.scheme.specs.Refusals.{CUT}
use Rattle.scheme.specs.Res.{Res, then, refusal}
use Rattle.scheme.specs.Cells.{Cell}
use Rattle.scheme.specs.Bag.{Bag, bag, Got, Counts, read}
use Rattle.scheme.specs.Memory.{capacity, held}
use Rattle.scheme.specs.Calls.{read_out, reading, zeroed}
use Rattle.laws.specs.Accept.{then_use}
use Rattle.theorems.specs.Places.{total, cut_place, NotWhole, bag_fields}
use Rattle.theorems.proofs.CutLaws.{bag-read, fields-end, bag-cut, not-whole}

-- Demand 2 (docs/DEMANDS.md): the bytes used are those of the bag's fields, and lie inside the reply; in the whole reading they are all of it.
pub used-fields : (whole : Bool) (scratch room : ℕ) (b : List ℕ) (g : Bag) → bag whole scratch room b ≡ Ok g → g.used ≡ total (bag_fields b)
used-fields whole scratch room b g e = sym (fields-end (bag-read whole scratch room b g e))

pub used-inside : (whole : Bool) (scratch room : ℕ) (b : List ℕ) (g : Bag) → bag whole scratch room b ≡ Ok g → g.used ≤ length b
used-inside whole scratch room b g e = go (leb g.used (length b)) refl
  where
    go : (t : Bool) → leb g.used (length b) ≡ t → g.used ≤ length b
    go true x = leb-true g.used (length b) x
    go false x =
        let h = leb-false g.used (length b) x in
        let R = bag-read whole scratch room b g e in
        let c = bag-cut R (length b) (omega arith) (omega (arith, fields-end R)) whole in
        let c₁ : bag whole scratch room b ≡ Err (refusal CUT (cut_place 0 (length b) (bag_fields b))) = rw (take-length b) at c in
        let z : ◌≡◌ {A = ℕ} 0 1 = cc in absurd (omega arith)

pub used_all : (scratch room : ℕ) (b : List ℕ) (g : Bag) → bag true scratch room b ≡ Ok g → g.used ≡ length b
used_all scratch room b g e =
    let h = leb-true (length b) g.used (bag-read true scratch room b g e).whole-ok in
    omega (arith, used-inside true scratch room b g e)

-- Cut replies: of a bag that some reading accepts, every front without its last used byte is refused CUT by every reading,
-- at the place where the first field that is not whole begins.
pub cut-bag : (w : Bool) (scratch room : ℕ) (b : List ℕ) (g : Bag) → bag w scratch room b ≡ Ok g
    → (k : ℕ) → k < g.used → (whole : Bool) → bag whole scratch room (take k b) ≡ Err (refusal CUT (cut_place 0 k (bag_fields b)))
cut-bag w scratch room b g e k h whole =
    let R = bag-read w scratch room b g e in
    bag-cut R k (omega (arith, used-inside w scratch room b g e)) (omega (arith, fields-end R)) whole

-- Cut replies: if unpack_fully accepts b, every shorter front of b is refused CUT, by unpack_fully and by deserialize.
pub cut_replies : (scratch room : ℕ) (b : List ℕ) (g : Bag) → bag true scratch room b ≡ Ok g
    → (k : ℕ) → k < length b → (whole : Bool) → bag whole scratch room (take k b) ≡ Err (refusal CUT (cut_place 0 k (bag_fields b)))
cut_replies scratch room b g e k h whole = cut-bag true scratch room b g e k (omega (arith, used_all scratch room b g e)) whole

-- Cut replies: the place of the refusal is that of a field of the bag which is not whole; every field before it is.
pub cut-place : (scratch room : ℕ) (b : List ℕ) (g : Bag) → bag true scratch room b ≡ Ok g
    → (k : ℕ) → k < length b → NotWhole (bag_fields b) k (cut_place 0 k (bag_fields b))
cut-place scratch room b g e k h = not-whole k [] (bag_fields b) (omega arith) (omega (arith, used-fields true scratch room b g e, used_all scratch room b g e))

-- Cut replies, of a store: as long as the bag itself would be read, so that CUT is the only reason.
pub cut-read : (scratch room cap : ℕ) (s : List Cell) (b : List ℕ) (g : Got) → read true scratch room cap s b ≡ Ok g
    → (k : ℕ) → k < length b → (whole : Bool) → read whole scratch room cap s (take k b) ≡ Err (refusal CUT (cut_place 0 k (bag_fields b)))
unfolding read
cut-read scratch room cap s b g e k h whole =
    then_use (bag true scratch room b) _ _ e λ a x₁ e₁.
    rw (cut_replies scratch room b a x₁ k h whole)

-- Cut replies, of the calls with all memory: if unpack_fully accepts a reply, both calls refuse every shorter front of it with CUT, and change nothing but the scratch.
pub cut-reading : (n : ℕ) (t d scratch roots b : List ℕ) (c : Counts) → (reading true n t d scratch roots b).answer ≡ Ok c
    → (k : ℕ) → k < length b → (whole : Bool) → reading whole n t d scratch roots (take k b)
    ≡ record { answer = Err (refusal CUT (cut_place 0 k (bag_fields b))); count = n; table = t; bytes = d; scratch = zeroed scratch; roots = roots }
unfolding reading
cut-reading n t d scratch roots b c e k h whole =
    let A = accepted (then (held n t d) λ s. read true (length scratch) (length roots) (capacity t) s b) e in
    then_use (held n t d) _ A.0 A.1 λ s x₁ e₁.
    rw (x₁, cut-read (length scratch) (length roots) (capacity t) s b A.0 e₁ k h whole)
  where
    accepted : (r : Res Got) → (read_out n t d scratch roots r).answer ≡ Ok c → (g : Got) × (r ≡ Ok g)
    accepted (Ok g) e = (g, refl)
    accepted (Err r) e = let z : ◌≡◌ {A = ℕ} 0 1 = cc in absurd (omega arith)
