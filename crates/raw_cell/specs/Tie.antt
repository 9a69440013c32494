-- A cell by place is the cell that the definitions read. Assumes nothing.
use Rattle.std.specs.Prelude.{ℕ, ◌+◌, ◌-◌, ◌*◌, ◌/◌, ◌%◌, ◌<◌, ◌≡◌, Bool, true, false, List, drop, get_or, eqb, leb, Ok, Err}
use Rattle.std.proofs.Math.Path.{refl}
use native.Mathlib.Omega.{arith}
use borrow.Author.Tests.{eqb-true}
use Rattle.scheme.specs.Refusals.{REFS}
use Rattle.scheme.specs.Res.{Res, then, check, refusal}
use Rattle.scheme.specs.declared.Refusal.{Refusal}
use Rattle.scheme.specs.Bits.{cropped}
use Rattle.scheme.specs.Bytes.{chunk, field, fields}
use Rattle.scheme.specs.Cells.{Cell}
use Rattle.scheme.specs.Bag.{Past, Bits, bits, hashes, raw_cell}
use Rattle.bits.specs.Field.{byte_at, skip_at, skip_fields_at, numbers_at}
use Rattle.bits.specs.Laws.{chunk-cases, skip-whole, skip-cut, skip-fields-end, fields-are}
use Rattle.raw_cell.specs.Frame.{bits_in, data_at, body_at, frame}
use Rattle.raw_cell.specs.Data.{bits_at}
use Rattle.raw_cell.specs.declared.RawCell.{RawCell}

-- the cell that a frame in the bytes b stands for, in a bag whose references take `size` bytes
abbrev pub cell_in : List ℕ → ℕ → RawCell → Cell
cell_in b size f = record {
  exotic = f.exotic;
  len = f.bits;
  bytes = cropped f.bits (drop f.body b);
  refs = numbers_at b size f.refs f.links;
}

abbrev pub cell_past : List ℕ → ℕ → RawCell → Past Cell
cell_past b size f = record { it = cell_in b size f; next = f.next }

-- hashes that are not whole
pub hashes-cut : (b : List ℕ) (size d1 d2 p : ℕ) (r : Refusal) → skip_at b p (hashes d1) ≡ Err r → Err r ≡ body_at b size d1 d2 p
unfolding body_at
hashes-cut b size d1 d2 p r e = rw e

-- the parts of `raw_cell`: the references at place `links`, the data at place p and what follows it, the hashes at place p and what follows them
abbrev raw_links : List ℕ → ℕ → ℕ → ℕ → Bits → Res (Past Cell)
raw_links b size d1 links w =
    then (fields b size (d1 % 8) links) λ rs.
    Ok (record { it = record { exotic = d1 / 8 % 2; len = w.len; bytes = w.bytes; refs = rs }; next = links + d1 % 8 * size })

abbrev raw_data : List ℕ → ℕ → ℕ → ℕ → ℕ → Res (Past Cell)
raw_data b size d1 d2 p =
    then (chunk b p ((d2 + 1) / 2)) λ xs.
    then (bits (eqb (d2 % 2) 1) p xs) λ w.
    raw_links b size d1 (p + (d2 + 1) / 2) w

abbrev raw_body : List ℕ → ℕ → ℕ → ℕ → ℕ → Res (Past Cell)
raw_body b size d1 d2 p = then (chunk b p (hashes d1)) λ _. raw_data b size d1 d2 (p + hashes d1)

-- the frame's part of the same
abbrev frame_links : List ℕ → ℕ → ℕ → ℕ → ℕ × ℕ → Res RawCell
frame_links b size d1 p w =
    then (skip_fields_at b size (d1 % 8) w.1) λ next.
    Ok (record { exotic = d1 / 8 % 2; refs = d1 % 8; bits = w.0; body = p; links = w.1; next = next })

module _ (b : List ℕ) (size : ℕ) where
  -- a frame, as its cell
  abbrev cells : Res RawCell → Res (Past Cell)
  cells x = then x λ f. Ok (cell_past b size f)

  links_tie : (d1 len p links : ℕ)
      → raw_links b size d1 links (record { len = len; bytes = cropped len (drop p b) }) ≡ cells (frame_links b size d1 p (len, links))
  links_tie d1 len p links = rw (fields-are b size (d1 % 8) links) (go (skip_fields_at b size (d1 % 8) links) refl)
    where
      go : (x : Res ℕ) → skip_fields_at b size (d1 % 8) links ≡ x
          → then (then x λ q. Ok (numbers_at b size (d1 % 8) links))
          (λ rs. Ok (record { it = record { exotic = d1 / 8 % 2; len = len; bytes = cropped len (drop p b); refs = rs }; next = links + d1 % 8 * size }))
          ≡ cells (then x λ next. Ok (record { exotic = d1 / 8 % 2; refs = d1 % 8; bits = len; body = p; links = links; next = next }))
      go (Err r) e = refl
      go (Ok q) e = rw (skip-fields-end b size (d1 % 8) links q e).0

  module _ (small : (i : ℕ) → get_or b i 0 < 256) where
    data_tie : (d1 d2 p : ℕ) → raw_data b size d1 d2 p ≡ cells (then (data_at b p d2) λ w. frame_links b size d1 p w)
    unfolding data_at
    data_tie d1 d2 p =
        chunk-cases b p ((d2 + 1) / 2)
        (λ h e.
        rw (e, skip-whole b p ((d2 + 1) / 2) h, bits_at b p ((d2 + 1) / 2) h small (eqb (d2 % 2) 1) (λ o. let z = eqb-true (d2 % 2) 1 o in omega arith))
        (go (bits_in (eqb (d2 % 2) 1) p ((d2 + 1) / 2) (get_or b (p + (d2 + 1) / 2 - 1) 0))))
        (λ h e. rw (e, skip-cut b p ((d2 + 1) / 2) h))
      where
        go : (x : Res ℕ)
            → then (then x λ len. Ok (record { len = len; bytes = cropped len (drop p b) })) (raw_links b size d1 (p + (d2 + 1) / 2))
            ≡ cells (then (then x λ len. Ok (len, p + (d2 + 1) / 2)) λ w. frame_links b size d1 p w)
        go (Err r) = refl
        go (Ok len) = links_tie d1 len p (p + (d2 + 1) / 2)

    -- a cell of the bag is the cell of its frame
    pub raw-cell-frame : (p : ℕ) → raw_cell b size p ≡ then (frame b size p) λ f. Ok (cell_past b size f)
    unfolding raw_cell frame byte_at body_at
    raw-cell-frame p = first (field b p 1)
      where
        body_tie : (d1 d2 p : ℕ) → raw_body b size d1 d2 p ≡ cells (body_at b size d1 d2 p)
        body_tie d1 d2 p =
            chunk-cases b p (hashes d1)
            (λ h e. rw (e, skip-whole b p (hashes d1) h) (data_tie d1 d2 (p + hashes d1)))
            (λ h e. rw (e, skip-cut b p (hashes d1) h))

        second : (d1 : ℕ) (y : Res ℕ)
            → then y (λ d2. raw_body b size d1 d2 (p + 2))
            ≡ cells (then (then y λ x. Ok (x, p + 1 + 1)) λ (d2 : ℕ × ℕ). body_at b size d1 d2.0 d2.1)
        second d1 (Err r) = refl
        second d1 (Ok d2) = let e : p + 1 + 1 ≡ p + 2 = omega arith in rw e (body_tie d1 d2 (p + 2))

        tested : (d1 : ℕ) (t : Bool)
            → (then (check t (refusal REFS p)) λ _. then (field b (p + 1) 1) λ d2. raw_body b size d1 d2 (p + 2))
            ≡ cells
            (then (check t (refusal REFS p)) λ _.
            then (then (field b (p + 1) 1) λ x. Ok (x, p + 1 + 1)) λ (d2 : ℕ × ℕ). body_at b size d1 d2.0 d2.1)
        tested d1 false = refl
        tested d1 true = second d1 (field b (p + 1) 1)

        first : (x : Res ℕ)
            → (then x λ d1. then (check (leb (d1 % 8) 4) (refusal REFS p)) λ _. then (field b (p + 1) 1) λ d2. raw_body b size d1 d2 (p + 2))
            ≡ cells
            (then (then x λ v. Ok (v, p + 1)) λ (d1 : ℕ × ℕ).
            then (check (leb (d1.0 % 8) 4) (refusal REFS p)) λ _.
            then (then (field b d1.1 1) λ v. Ok (v, d1.1 + 1)) λ (d2 : ℕ × ℕ).
            body_at b size d1.0 d2.0 d2.1)
        first (Err r) = refl
        first (Ok d1) = tested d1 (leb (d1 % 8) 4)
