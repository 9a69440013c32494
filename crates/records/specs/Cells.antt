-- A record and the cell that it is: the same cell of the definitions as the flat table's, and the two copies undo each other. Assumes nothing.
use Rattle.std.specs.Prelude.{ℕ, zero, suc, ◌+◌, ◌*◌, ◌<◌, ◌≤◌, ◌≡◌, refl, List, [], ◌∷◌, ◌++◌, length, get_or, take, drop, set}
use Rattle.std.proofs.Common.{sym, ap, ◌∙◌, ⊎_elim, append-nil, eq-or-lt_of_le, le_of_suc-le-suc, arith, drop_of_length-le, drop-cons, get_or-set_same, get_or-set_other, length-take-le, take_all, take_at, drop_at, drop-drop, take-add}
use Rattle.std.proofs.lemmas.List.Edits.{sets-eq}
use Rattle.std.proofs.Math.Seq.{length_front}
use Rattle.scheme.specs.Bits.{bytes_for}
use Rattle.scheme.specs.Cells.{Cell}
use Rattle.scheme.specs.Memory.{cell_at}
use Rattle.records.specs.declared.CellRecord.{CellRecord}
use Rattle.records.specs.Record.{blank, ref, record_of, put_flat, room_for, export_recs, import_recs}
use Rattle.records.specs.Laws.{room-places, room-numbers, room-all, length_export}

-- the cell of a record, whose data starts at the front of b
abbrev pub record_cell : CellRecord → List ℕ → Cell
record_cell r b = record { exotic = r.exotic; len = r.len; bytes = take (bytes_for r.len) b; refs = take r.count (ref r 0 ∷ ref r 1 ∷ ref r 2 ∷ ref r 3 ∷ []) }

four : (m a b c d : ℕ) (x : List ℕ) → m ≤ 4 → take m (a ∷ b ∷ c ∷ d ∷ []) ≡ take m (a ∷ b ∷ c ∷ d ∷ x)
four zero a b c d x h = refl
four (suc zero) a b c d x h = refl
four (suc (suc zero)) a b c d x h = refl
four (suc (suc (suc zero))) a b c d x h = refl
four (suc (suc (suc (suc zero)))) a b c d x h = refl
four (suc (suc (suc (suc (suc m))))) a b c d x h = absurd (omega arith)

next-is : (t : List ℕ) (p q : ℕ) → p < length t → suc p ≡ q → drop p t ≡ get_or t p 0 ∷ drop q t
next-is t p q h e = drop-cons t p 0 h ∙ ap (λ (k : ℕ). get_or t p 0 ∷ drop k t) e

drop-four : (t : List ℕ) (p : ℕ) → p + 7 ≤ length t → drop (p + 3) t ≡ get_or t (p + 3) 0 ∷ get_or t (p + 4) 0 ∷ get_or t (p + 5) 0 ∷ get_or t (p + 6) 0 ∷ drop (p + 7) t
drop-four t p h =
    let e₃ : suc (p + 3) ≡ p + 4 = omega arith in
    let e₄ : suc (p + 4) ≡ p + 5 = omega arith in
    let e₅ : suc (p + 5) ≡ p + 6 = omega arith in
    let e₆ : suc (p + 6) ≡ p + 7 = omega arith in
    next-is t (p + 3) (p + 4) (omega arith) e₃
    ∙ ap (λ (l : List ℕ). get_or t (p + 3) 0 ∷ l) (next-is t (p + 4) (p + 5) (omega arith) e₄)
    ∙ ap (λ (l : List ℕ). get_or t (p + 3) 0 ∷ get_or t (p + 4) 0 ∷ l) (next-is t (p + 5) (p + 6) (omega arith) e₅)
    ∙ ap (λ (l : List ℕ). get_or t (p + 3) 0 ∷ get_or t (p + 4) 0 ∷ get_or t (p + 5) 0 ∷ l) (next-is t (p + 6) (p + 7) (omega arith) e₆)

-- record i of the flat table is cell i of the store
pub record_cell_lem : (t d : List ℕ) (i : ℕ) → i * 7 + 7 ≤ length t → get_or t (i * 7 + 2) 0 ≤ 4 → record_cell (record_of t i) (drop (i * 128) d) ≡ cell_at t d i
unfolding cell_at
record_cell_lem t d i h few =
    let q : 7 * i ≡ i * 7 = omega arith in
    let m : ℕ = get_or t (i * 7 + 2) 0 in
    let r : take (get_or t (i * 7 + 2) 0) (get_or t (i * 7 + 3) 0 ∷ get_or t (i * 7 + 4) 0 ∷ get_or t (i * 7 + 5) 0 ∷ get_or t (i * 7 + 6) 0 ∷ []) ≡ take (get_or t (i * 7 + 2) 0)
    (drop (i * 7 + 3) t) =
    four m (get_or t (i * 7 + 3) 0) (get_or t (i * 7 + 4) 0) (get_or t (i * 7 + 5) 0) (get_or t (i * 7 + 6) 0) (drop (i * 7 + 7) t) few ∙ ap (λ (l : List ℕ). take m l)
    (sym (drop-four t (i * 7) h)) in
    ap (λ (p : ℕ). record_cell (record {
      exotic = get_or t p 0;
      len = get_or t (p + 1) 0;
      count = get_or t (p + 2) 0;
      refs = get_or t (p + 3) 0 ∷ get_or t (p + 4) 0 ∷ get_or t (p + 5) 0 ∷ get_or t (p + 6) 0 ∷ [];
    }) (drop (i * 128) d)) q
    ∙ ap (λ (l : List ℕ). record { exotic = get_or t (i * 7) 0; len = get_or t (i * 7 + 1) 0; bytes = take (bytes_for (get_or t (i * 7 + 1) 0)) (drop (i * 128) d); refs = l }) r

-- ---- the copies

-- what stands in the records after a copy from the flat table, and the cell that it is
pub export_at : (t : List ℕ) (k : ℕ) (ys : List CellRecord) (i : ℕ) → i < k → k ≤ length ys → get_or (export_recs t k ys) i blank ≡ record_of t i
export_at t zero ys i h l = absurd (omega arith)
export_at t (suc k) ys i h l =
    let n : k < length (export_recs t k ys) = rw (length_export t k ys) (omega arith) in
    ⊎_elim
    (λ (e : i ≡ k). ap (λ (j : ℕ). get_or (set (export_recs t k ys) k (record_of t k)) j blank) e ∙ get_or-set_same (export_recs t k ys) k (record_of t k) blank n ∙ ap
    (λ (j : ℕ). record_of t j) (sym e))
    (λ (g : i < k). get_or-set_other (export_recs t k ys) k i (record_of t k) blank (λ (e : i ≡ k). omega arith) ∙ export_at t k ys i g (omega arith))
    (eq-or-lt_of_le (le_of_suc-le-suc h))

pub exported_cell : (t d : List ℕ) (k : ℕ) (ys : List CellRecord) (i : ℕ) → i < k → k ≤ length ys → i * 7 + 7 ≤ length t → get_or t (i * 7 + 2) 0 ≤ 4
    → record_cell (get_or (export_recs t k ys) i blank) (drop (i * 128) d) ≡ cell_at t d i
exported_cell t d k ys i h l w few = ap (λ (r : CellRecord). record_cell r (drop (i * 128) d)) (export_at t k ys i h l) ∙ record_cell_lem t d i w few

-- the seven numbers of a record, and where they stand in the flat table
abbrev pub numbers : CellRecord → List ℕ
numbers r = r.exotic ∷ r.len ∷ r.count ∷ ref r 0 ∷ ref r 1 ∷ ref r 2 ∷ ref r 3 ∷ []

numbers_of_lem : (t : List ℕ) (n : ℕ) → 7 * n + 7 ≤ length t → take 7 (drop (7 * n) t) ≡ numbers (record_of t n)
numbers_of_lem t n h =
    let e₀ : suc (7 * n) ≡ 7 * n + 1 = omega arith in
    let e₁ : suc (7 * n + 1) ≡ 7 * n + 2 = omega arith in
    let e₂ : suc (7 * n + 2) ≡ 7 * n + 3 = omega arith in
    rw (
      next-is t (7 * n) (7 * n + 1) (omega arith) e₀,
      next-is t (7 * n + 1) (7 * n + 2) (omega arith) e₁,
      next-is t (7 * n + 2) (7 * n + 3) (omega arith) e₂,
      drop-four t
          (7 * n) h,
    ) refl

pub put_is : (xs : List ℕ) (n : ℕ) (r : CellRecord) → 7 * n + 7 ≤ length xs → put_flat xs n r ≡ take (7 * n) xs ++ numbers r ++ drop (7 * n + 7) xs
put_is xs n r h =
    let e₁ : 7 * n + 1 ≡ suc (7 * n) = omega arith in
    let e₂ : 7 * n + 2 ≡ suc (suc (7 * n)) = omega arith in
    let e₃ : 7 * n + 3 ≡ suc (suc (suc (7 * n))) = omega arith in
    let e₄ : 7 * n + 4 ≡ suc (suc (suc (suc (7 * n)))) = omega arith in
    let e₅ : 7 * n + 5 ≡ suc (suc (suc (suc (suc (7 * n))))) = omega arith in
    let e₆ : 7 * n + 6 ≡ suc (suc (suc (suc (suc (suc (7 * n)))))) = omega arith in
    rw (e₁, e₂, e₃, e₄, e₅, e₆) (sets-eq (numbers r) xs (7 * n) h)

-- records that are those of a flat table t, copied to a flat table xs: the first numbers of t, and the others as they were
pub import_into : (t xs : List ℕ) (zs : List CellRecord) (k : ℕ) → 7 * k ≤ length t → 7 * k ≤ length xs → ((i : ℕ) → i < k → get_or zs i blank ≡ record_of t i)
    → import_recs zs k xs ≡ take (7 * k) t ++ drop (7 * k) xs
import_into t xs zs zero ht hx f = refl
import_into t xs zs (suc k) ht hx f =
    let m : 7 * suc k ≡ 7 * k + 7 = omega arith in
    let l : length (take (7 * k) t) ≡ 7 * k = length-take-le (7 * k) t (omega arith) in
    let a : length (take (7 * k) t ++ drop (7 * k) xs) ≡ length xs = length_front xs (take (7 * k) t) (7 * k) (l ∙ sym (length-take-le (7 * k) xs (omega arith))) in
    let d : drop (7 * k + 7) (take (7 * k) t ++ drop (7 * k) xs) ≡ drop (7 * k + 7) xs =
    sym (drop-drop 7 (7 * k) (take (7 * k) t ++ drop (7 * k) xs)) ∙ ap (λ (x : List ℕ). drop 7 x) (drop_at (take (7 * k) t) (drop (7 * k) xs) (7 * k) l) ∙ drop-drop 7
    (7 * k) xs in
    ap (λ (x : List ℕ). put_flat x k (get_or zs k blank)) (import_into t xs zs k (omega arith) (omega arith) (λ i h. f i (omega arith)))
    ∙ ap (λ (r : CellRecord). put_flat (take (7 * k) t ++ drop (7 * k) xs) k r) (f k (omega arith))
    ∙ put_is (take (7 * k) t ++ drop (7 * k) xs) k (record_of t k) (omega (arith, a))
    ∙ ap (λ (x : List ℕ). x ++ numbers (record_of t k) ++ drop (7 * k + 7) (take (7 * k) t ++ drop (7 * k) xs)) (take_at (take (7 * k) t) (drop (7 * k) xs) (7 * k) l)
    ∙ ap (λ (x : List ℕ). take (7 * k) t ++ numbers (record_of t k) ++ x) d
    ∙ ap (λ (x : List ℕ). take (7 * k) t ++ x ++ drop (7 * k + 7) xs) (sym (numbers_of_lem t k (omega arith)))
    ∙ ap (λ (x : List ℕ). x ++ drop (7 * k + 7) xs) (sym (take-add (7 * k) 7 t))
    ∙ ap (λ (j : ℕ). take j t ++ drop j xs) (sym m)

-- the flat table t, copied to records and on to a flat table xs: the first numbers of t, and the others of xs
pub round_trip : (t xs : List ℕ) (ys : List CellRecord) (k : ℕ) → k ≤ length ys → 7 * k ≤ length t → 7 * k ≤ length xs
    → import_recs (export_recs t k ys) k xs ≡ take (7 * k) t ++ drop (7 * k) xs
round_trip t xs ys k h ht hx = import_into t xs (export_recs t k ys) k ht hx (λ i l. export_at t k ys i l h)

-- where all n records have room, all are copied each way, and xs is then t
pub round_trip_whole : (t xs : List ℕ) (ys : List CellRecord) (n : ℕ) → 7 * n ≡ length t → length xs ≡ length t → n ≤ length ys
    → (room_for (length t) (length ys) n ≡ n) × (room_for (length xs) (length (export_recs t n ys)) n ≡ n) × (import_recs (export_recs t n ys) n xs ≡ t)
round_trip_whole t xs ys n e l h =
    let d : length xs ≤ 7 * n = omega arith in (
      room-all (length t) (length ys) n (omega arith) h,
      room-all (length xs) (length (export_recs t n ys)) n (omega arith) (omega (arith, length_export t n ys)),
      round_trip t xs ys n h (omega arith) (omega arith)
          ∙ ap (λ (x : List ℕ). x ++ drop (7 * n) xs) (take_all (7 * n) t (omega arith)) ∙ ap (λ (x : List ℕ). t ++ x) (drop_of_length-le xs d) ∙ append-nil t,
    )

-- what the two copies promise, one after the other: r records of t stand in xs', where xs is as long as t
pub there_and_back : (t xs : List ℕ) (ys : List CellRecord) (n c r : ℕ) (zs : List CellRecord) (xs' : List ℕ)
    → (c ≡ room_for (length t) (length ys) n) × (zs ≡ export_recs t (room_for (length t) (length ys) n) ys)
    → (r ≡ room_for (length xs) (length zs) c) × (xs' ≡ import_recs zs (room_for (length xs) (length zs) c) xs) → length t ≤ length xs
    → xs' ≡ take (7 * r) t ++ drop (7 * r) xs
there_and_back t xs ys n c r zs xs' (e, f) (g, h) l =
    let z : zs ≡ export_recs t c ys = f ∙ ap (λ (k : ℕ). export_recs t k ys) (sym e) in
    let w : length zs ≡ length ys = ap length z ∙ length_export t c ys in
    let m : 7 * c ≤ length t = rw e (room-numbers (length t) (length ys) n) in
    let p : c ≤ length ys = rw e (room-places (length t) (length ys) n) in
    let q : room_for (length xs) (length zs) c ≡ c = room-all (length xs) (length zs) c (omega arith) (omega arith) in
    h ∙ ap (λ (k : ℕ). import_recs zs k xs) q ∙ ap (λ (ws : List CellRecord). import_recs ws c xs) z ∙ round_trip t xs ys c p m (omega arith)
    ∙ ap (λ (k : ℕ). take (7 * k) t ++ drop (7 * k) xs) (sym (g ∙ q))
