-- A record that is appended and then copied to the flat table is the store's next row: stated of what `append_record` and `import_records` promise.
-- Assumes nothing.
use Rattle.std.specs.Prelude.{ℕ, ◌+◌, ◌*◌, ◌/◌, ◌<◌, ◌≤◌, ◌≡◌, refl, List, [], ◌∷◌, ◌++◌, ltb, length, get_or, take, drop, set, Ok}
use Rattle.std.proofs.Common.{add-one, arith, sym, ap, ◌∙◌, append_assoc, length-set, take-append-drop, get_or-set_same, get_or-set_other, length-take-le, take_at, drop_at}
use Rattle.scheme.specs.Bits.{bytes_for}
use Rattle.scheme.specs.Cells.{Cell}
use Rattle.scheme.specs.Memory.{cells_of, row_of, block_of, lay_table}
use Rattle.laws.specs.Puts.{puts-parts}
use Rattle.laws.specs.Records.{SoundMemory}
use Rattle.laws.specs.RoundLaws.{cell-back}
use Rattle.laws.specs.Lay.{lay-table-put}
use Rattle.records.specs.declared.CellRecord.{CellRecord}
use Rattle.records.specs.Record.{blank, record_of, put_flat, room_for, export_recs, import_recs}
use Rattle.records.specs.Laws.{room-all, length_export, length_import}
use Rattle.records.specs.Answers.{added_of, added-held}
use Rattle.records.specs.Cells.{record_cell, record_cell_lem, numbers, put_is, import_into, export_at}

-- the record of a cell: flag, bit length, number of references, references, unused ones 0
abbrev pub record_for : Cell → CellRecord
record_for c = record {
  exotic = c.exotic;
  len = c.len;
  count = length c.refs;
  refs = get_or c.refs 0 0 ∷ get_or c.refs 1 0 ∷ get_or c.refs 2 0 ∷ get_or c.refs 3 0 ∷ [];
}

-- it stands for the cell, whose data is at the front of its block
pub cell_for : (c : Cell) (x : List ℕ) → length c.refs ≤ 4 → length c.bytes ≡ bytes_for c.len → record_cell (record_for c) (block_of c ++ x) ≡ c
cell_for c x few size = record_cell_lem (row_of [] c) (block_of c ++ x) 0 (omega arith) few ∙ cell-back c 0 few size [] [] [] x refl refl

-- a record put in the flat table is there
put-at : (zs : List ℕ) (n : ℕ) (r : CellRecord) → 7 * n + 7 ≤ length zs → take 7 (drop (7 * n) (put_flat zs n r)) ≡ numbers r
put-at zs n r h =
    ap (λ (l : List ℕ). take 7 (drop (7 * n) l)) (put_is zs n r h ∙ append_assoc (take (7 * n) zs) (numbers r) (drop (7 * n + 7) zs))
    ∙ ap (λ (l : List ℕ). take 7 l) (drop_at (take (7 * n) zs) (numbers r ++ drop (7 * n + 7) zs) (7 * n) (length-take-le (7 * n) zs (omega arith)))
    ∙ take_at (numbers r) (drop (7 * n + 7) zs) 7 refl

-- a record r is appended behind the first count of the table ys: the answer is n, and ys' the table afterwards.
-- Then the first count + 1 are copied to xs, which has room: the answer is m, and xs' the flat table afterwards
module _ (ys : List CellRecord) (count : ℕ) (r : CellRecord) (n : ℕ) (ys' : List CellRecord) (xs : List ℕ) (m : ℕ) (xs' : List ℕ)
    (appended : (Ok n ≡ added_of (ltb count (length ys)) count) × (ys' ≡ set ys count r))
    (copied : (m ≡ room_for (length xs) (length ys') (count + 1)) × (xs' ≡ import_recs ys' (room_for (length xs) (length ys') (count + 1)) xs))
    (room : 7 * (count + 1) ≤ length xs) where
  all-copied : room_for (length xs) (length ys') (count + 1) ≡ count + 1
  all-copied =
      let l : length ys' ≡ length ys = ap length appended.1 ∙ length-set ys count r in
      room-all (length xs) (length ys') (count + 1) room (omega (arith, l, (added-held ys count n appended.0).0))

  put_last : xs' ≡ put_flat (import_recs ys' count xs) count r
  put_last =
      let e : get_or ys' count blank ≡ r =
      ap (λ (l : List CellRecord). get_or l count blank) appended.1 ∙ get_or-set_same ys count r blank (added-held ys count n appended.0).0 in
      copied.1 ∙ ap (λ (k : ℕ). import_recs ys' k xs) (all-copied ∙ add-one count) ∙ ap (λ (x : CellRecord). put_flat (import_recs ys' count xs) count x) e

  -- the record has the number count, count + 1 are copied, and its seven numbers are the next ones of the flat table
  pub appended-numbers : (n ≡ count) × (m ≡ count + 1) × (take 7 (drop (7 * count) xs') ≡ numbers r)
  appended-numbers = (
    (added-held ys count n appended.0).1,
    copied.0 ∙ all-copied,
    ap (λ (l : List ℕ). take 7 (drop (7 * count) l)) put_last
        ∙ put-at (import_recs ys' count xs) count r (omega (arith, length_import ys' count xs)),
  )

  module _ (c : Cell) (of-cell : r ≡ record_for c) where
    -- of a cell: they are its row, whatever cells stand before it
    pub appended-row : (before : List Cell) → take 7 (drop (7 * count) xs') ≡ row_of before c
    appended-row before = appended-numbers.2 ∙ ap (λ (x : CellRecord). numbers x) of-cell

    -- where the first count records of ys were copied from the table xs of a sound store, xs' is the table of the store with the cell behind the others
    pub appended-lay : (d : List ℕ) → SoundMemory count xs d → (zs : List CellRecord) (k : ℕ)
        → (k ≡ room_for (length xs) (length zs) count) × (ys ≡ export_recs xs (room_for (length xs) (length zs) count) zs)
        → xs' ≡ lay_table (length xs / 7) (cells_of count xs d ++ c ∷ [])
    appended-lay d s zs k exported =
        let in_table : count < length ys = (added-held ys count n appended.0).0 in
        let long : length ys ≡ length zs = ap length exported.1 ∙ length_export xs (room_for (length xs) (length zs) count) zs in
        let all : room_for (length xs) (length zs) count ≡ count = room-all (length xs) (length zs) count (omega arith) (omega arith) in
        let are : ys ≡ export_recs xs count zs = exported.1 ∙ ap (λ (j : ℕ). export_recs xs j zs) all in
        let old : (i : ℕ) → i < count → get_or ys' i blank ≡ record_of xs i = λ i l.
        ap (λ (w : List CellRecord). get_or w i blank) appended.1 ∙ get_or-set_other ys count i r blank (λ (e : i ≡ count). omega arith)
        ∙ ap (λ (w : List CellRecord). get_or w i blank) are ∙ export_at xs count zs i l (omega arith) in
        let same : import_recs ys' count xs ≡ xs = import_into xs xs ys' count (omega arith) (omega arith) old ∙ take-append-drop (7 * count) xs in
        let place : 7 * count ≡ count * 7 = omega arith in
        put_last
        ∙ ap (λ (l : List ℕ). put_flat l count r) same
        ∙ ap (λ (x : CellRecord). put_flat xs count x) of-cell
        ∙ put_is xs count (record_for c) (omega arith)
        ∙ ap (λ (j : ℕ). take j xs ++ row_of [] c ++ drop (j + 7) xs) place
        ∙ sym (puts-parts xs (count * 7) (row_of [] c) (omega arith))
        ∙ lay-table-put count xs d s c (omega arith)
