-- The outcomes of the two calls of the C interface that are more than a call of the library: a cell is added from slices, and a cell's data is copied.
use Rattle.std.specs.Prelude.{ℕ, ◌*◌, List, length, leb, Ok, Err}
use Rattle.scheme.specs.Refusals.{CUT, NOROOM}
use Rattle.scheme.specs.Res.{Res, then, check, refusal}
use Rattle.scheme.specs.Cells.{Cell}
use Rattle.scheme.specs.Calls.{StoreOut, kept, onto, adding, asking}
use Rattle.wire.specs.Wire.{wire_cell}

-- CUT comes before anything else, as where the builder appends the bits
abbrev pub unless : ℕ → List ℕ → List ℕ → Res (Unit {0}) → StoreOut ℕ → StoreOut ℕ
unless n t d (Err r) o = kept n t d (Err r)
unless n t d (Ok u) o = o

unfoldable pub offering : ℕ → List ℕ → List ℕ → ℕ → ℕ → List ℕ → List ℕ → StoreOut ℕ
offering n t d flag bits own refs = unless n t d (check (leb bits (8 * length own)) (refusal CUT 0)) (adding n t d (wire_cell flag bits own refs))

pub record CopyOut : Type 0 where
  pub answer : Res ℕ
  pub out : List ℕ

-- the bytes copied
abbrev pub copy_out : List ℕ → Res (List ℕ) → CopyOut
copy_out out (Err r) = record { answer = Err r; out = out }
copy_out out (Ok xs) = record { answer = Ok (length xs); out = onto xs out }

-- the data of a cell, of at most `room` bytes
abbrev pub data_in : ℕ → Res Cell → Res (List ℕ)
data_in room x =
    then x λ c.
    then (check (leb (length c.bytes) room) (refusal NOROOM (length c.bytes))) λ _.
    Ok c.bytes

unfoldable pub copying : ℕ → List ℕ → List ℕ → ℕ → List ℕ → CopyOut
copying n t d i out = copy_out out (data_in (length out) (asking n t d i))
