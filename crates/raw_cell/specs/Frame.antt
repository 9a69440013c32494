-- One cell of the bytes b by place: what `raw_cell` reads, without its data and its references' values.
use Rattle.std.specs.Prelude.{ℕ, ◌+◌, ◌-◌, ◌*◌, ◌/◌, ◌%◌, Bool, true, false, not, List, get_or, eqb, leb, Ok}
use Rattle.scheme.specs.Refusals.{REFS, PADDING}
use Rattle.scheme.specs.Limits.{max_refs}
use Rattle.scheme.specs.Res.{Res, then, check, refusal}
use Rattle.scheme.specs.Bits.{zeros}
use Rattle.scheme.specs.Bag.{hashes}
use Rattle.bits.specs.Field.{byte_at, skip_at, skip_fields_at}
use Rattle.raw_cell.specs.declared.RawCell.{RawCell}

-- how many bits n data bytes at place p are, of which the last one is `last`; `odd` as d2
unfoldable pub bits_in : Bool → ℕ → ℕ → ℕ → Res ℕ
bits_in false p n last = Ok (8 * n)
bits_in true p n last = then (check (not (eqb last 0)) (refusal PADDING p)) λ _. Ok (8 * n - 1 - zeros 8 last)

-- the bits of the data at place p, and the place behind it
unfoldable pub data_at : List ℕ → ℕ → ℕ → Res (ℕ × ℕ)
data_at b p d2 =
    then (skip_at b p ((d2 + 1) / 2)) λ next.
    then (bits_in (eqb (d2 % 2) 1) p ((d2 + 1) / 2) (get_or b (next - 1) 0)) λ len.
    Ok (len, next)

-- what follows d1 and d2
unfoldable pub body_at : List ℕ → ℕ → ℕ → ℕ → ℕ → Res RawCell
body_at b size d1 d2 p =
    then (skip_at b p (hashes d1)) λ body.
    then (data_at b body d2) λ w.
    then (skip_fields_at b size (d1 % 8) w.1) λ next.
    Ok (record { exotic = d1 / 8 % 2; refs = d1 % 8; bits = w.0; body = body; links = w.1; next = next })

-- the cell at place p
unfoldable pub frame : List ℕ → ℕ → ℕ → Res RawCell
frame b size p =
    then (byte_at b p) λ d1.
    then (check (leb (d1.0 % 8) max_refs) (refusal REFS p)) λ _.
    then (byte_at b d1.1) λ d2.
    body_at b size d1.0 d2.0 d2.1
