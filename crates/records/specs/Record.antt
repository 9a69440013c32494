-- The cell record of the lent table, and the blank one, which stands for what is past the end.
use Rattle.std.specs.Prelude.{ℕ, zero, suc, ◌+◌, ◌*◌, ◌/◌, List, [], ◌∷◌, min, get_or, set}
use Rattle.records.specs.declared.CellRecord.{CellRecord}

abbrev pub blank : CellRecord
blank = record { exotic = 0; len = 0; count = 0; refs = 0 ∷ 0 ∷ 0 ∷ 0 ∷ [] }

-- record n of the flat table: seven numbers, from place 7 * n
abbrev pub record_of : List ℕ → ℕ → CellRecord
record_of xs n = record {
  exotic = get_or xs (7 * n) 0;
  len = get_or xs (7 * n + 1) 0;
  count = get_or xs (7 * n + 2) 0;
  refs = get_or xs (7 * n + 3) 0 ∷ get_or xs (7 * n + 4) 0 ∷ get_or xs (7 * n + 5) 0 ∷ get_or xs (7 * n + 6) 0 ∷ [];
}

-- reference k of a record
abbrev pub ref : CellRecord → ℕ → ℕ
ref r k = get_or r.refs k 0

-- the flat table with r as its record n
abbrev pub put_flat : List ℕ → ℕ → CellRecord → List ℕ
put_flat xs n r =
    set (set (set (set (set (set (set xs (7 * n) r.exotic) (7 * n + 1) r.len) (7 * n + 2) r.count)
    (7 * n + 3) (ref r 0)) (7 * n + 4) (ref r 1)) (7 * n + 5) (ref r 2)) (7 * n + 6) (ref r 3)

-- how many of n records are whole in a flat table of a numbers and have a place among b
abbrev pub room_for : ℕ → ℕ → ℕ → ℕ
room_for a b n = min (min n (a / 7)) b

-- the table ys with the first n records of the flat table in their places
abbrev pub export_recs : List ℕ → ℕ → List CellRecord → List CellRecord
export_recs xs zero ys = ys
export_recs xs (suc n) ys = set (export_recs xs n ys) n (record_of xs n)

-- the flat table xs with the first n records of ys in their places
abbrev pub import_recs : List CellRecord → ℕ → List ℕ → List ℕ
import_recs ys zero xs = xs
import_recs ys (suc n) xs = put_flat (import_recs ys n xs) n (get_or ys n blank)
