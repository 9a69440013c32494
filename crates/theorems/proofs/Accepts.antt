-- Demand 2 (docs/DEMANDS.md), the grammar: a bag is accepted exactly when its bytes are a text of the grammar, which is looser than the scheme in three
-- places (specs/Grammar).
-- Assumes nothing.
use Rattle.std.specs.Prelude.{◌≡◌, ◌↔◌, ℕ, Bool, true, List, length, leb, Ok}
use Rattle.std.proofs.Common.{leb-true, le-leb}
use Rattle.scheme.specs.Refusals.{FULL}
use Rattle.scheme.specs.Res.{check, refusal}
use Rattle.scheme.specs.Cells.{Cell}
use Rattle.scheme.specs.Bag.{Bag, bag, Got, Counts, read, load}
use Rattle.scheme.specs.Memory.{capacity, cells_of, sound, held}
use Rattle.scheme.specs.Calls.{reading}
use Rattle.laws.specs.Accept.{Small, then_use, check_inv}
use Rattle.theorems.specs.MeaningLaws.{call-taken}
use Rattle.theorems.specs.Grammar.{Says}
use Rattle.theorems.specs.GrammarBag.{parsed}
use Rattle.theorems.proofs.GrammarBack.{accepted}
use Rattle.theorems.specs.Accepts.{got_of, Fits}

-- Demand 2: deserialize (whole = false) and unpack_fully (whole = true) accept bytes as the bag g exactly when these are a text of the grammar that says g.
pub grammar : (whole : Bool) (scratch room : ℕ) (b : List ℕ) (g : Bag) → Small b → (bag whole scratch room b ≡ Ok g) ↔ Says whole scratch room b g
grammar whole scratch room b g S =
    (parsed whole scratch room b g S, λ P. rw (P.text, P.is) (accepted whole scratch room P.head P.cells P.rest P.admissible P.nothing))

-- Demand 2: no bytes say two bags.
pub says-one : (whole : Bool) (scratch room : ℕ) (b : List ℕ) (g h : Bag) → Small b → Says whole scratch room b g → Says whole scratch room b h → g ≡ h
says-one whole scratch room b g h S x y =
    let p = (grammar whole scratch room b g S).1 x in
    let q = (grammar whole scratch room b h S).1 y in
    cc

-- Demand 2, of a store: a read is accepted exactly when the bytes are a text of the grammar whose new cells have room.
pub accepts_read : (whole : Bool) (scratch room cap : ℕ) (s : List Cell) (b : List ℕ) → Small b
    → ((g : Got) × (read whole scratch room cap s b ≡ Ok g)) ↔ Fits whole scratch room cap s b
unfolding read
accepts_read whole scratch room cap s b S = (λ r. there r, λ F. back F)
  where
    there : (g : Got) × (read whole scratch room cap s b ≡ Ok g) → Fits whole scratch room cap s b
    there r =
        then_use (bag whole scratch room b) _ r.0 r.1 λ a x₁ e₁.
        then_use (check (leb (length (load s 0 a.cells).store) cap) (refusal FULL 0)) _ _ e₁ λ u x₂ e₂.
        record {
          bag-read = a;
          says = (grammar whole scratch room b a S).0 x₁;
          free = leb-true _ cap (check_inv (leb (length (load s 0 a.cells).store) cap) (refusal FULL 0) u x₂);
        }

    back : Fits whole scratch room cap s b → (g : Got) × (read whole scratch room cap s b ≡ Ok g)
    back F =
        let p = (grammar whole scratch room b F.bag-read S).1 F.says in
        (got_of s F.bag-read, rw (p, le-leb (length (load s 0 F.bag-read.cells).store) cap F.free))

-- Demand 2, of the calls with all memory: deserialize and unpack_fully accept exactly when the store is sound, the bytes are a text of the grammar,
-- and its new cells have room.
pub accepts_reading : (whole : Bool) (n : ℕ) (t d scratch roots b : List ℕ) → Small b
    → ((c : Counts) × ((reading whole n t d scratch roots b).answer ≡ Ok c))
    ↔ ((sound n t d ≡ true) × Fits whole (length scratch) (length roots) (capacity t) (cells_of n t d) b)
unfolding reading held
accepts_reading whole n t d scratch roots b S = (λ r. there r, λ F. back F)
  where
    there : (c : Counts) × ((reading whole n t d scratch roots b).answer ≡ Ok c) → (sound n t d ≡ true) × Fits whole (length scratch) (length roots) (capacity t) (cells_of n t d) b
    there r =
        let T = call-taken whole n t d scratch roots b r.0 r.1 in
        (T.1.sound-store, (accepts_read whole (length scratch) (length roots) (capacity t) (cells_of n t d) b S).0 (T.0, T.1.reads))

    back : (sound n t d ≡ true) × Fits whole (length scratch) (length roots) (capacity t) (cells_of n t d) b → (c : Counts) × ((reading whole n t d scratch roots b).answer ≡ Ok c)
    back F =
        let r = (accepts_read whole (length scratch) (length roots) (capacity t) (cells_of n t d) b S).1 F.1 in
        (r.0.counts, rw (F.0, r.1))
