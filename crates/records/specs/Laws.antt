-- Laws of the copies' lengths and of how many records are copied. Assumes nothing.
use Rattle.std.specs.Prelude.{◌≡◌, refl, ℕ, zero, suc, ◌+◌, ◌*◌, ◌<◌, ◌≤◌, min, List, length, get_or}
use Rattle.std.proofs.Common.{◌∙◌, arith, length-set}
use Rattle.records.specs.declared.CellRecord.{CellRecord}
use Rattle.records.specs.Record.{blank, record_of, put_flat, room_for, export_recs, import_recs}

-- the lesser of two is at most each
pub lesser-le : (x y : ℕ) → (min x y ≤ x) × (min x y ≤ y)
lesser-le x y = (omega arith, omega arith)

pub room-places : (a b n : ℕ) → room_for a b n ≤ b
room-places a b n = omega arith

pub room-numbers : (a b n : ℕ) → 7 * room_for a b n ≤ a
room-numbers a b n = omega arith

pub room_whole : (a b n i : ℕ) → i < room_for a b n → 7 * i + 7 ≤ a
room_whole a b n i l = omega (arith, l, room-numbers a b n)

-- all n have room
pub room-all : (a b n : ℕ) → 7 * n ≤ a → n ≤ b → room_for a b n ≡ n
room-all a b n l k = omega arith

pub length_export : (xs : List ℕ) (n : ℕ) (ys : List CellRecord) → length (export_recs xs n ys) ≡ length ys
length_export xs zero ys = refl
length_export xs (suc n) ys = length-set (export_recs xs n ys) n (record_of xs n) ∙ length_export xs n ys

length-put : (xs : List ℕ) (n : ℕ) (r : CellRecord) → length (put_flat xs n r) ≡ length xs
length-put xs n r = simp length-set

pub length_import : (ys : List CellRecord) (n : ℕ) (xs : List ℕ) → length (import_recs ys n xs) ≡ length xs
length_import ys zero xs = refl
length_import ys (suc n) xs = length-put (import_recs ys n xs) n (get_or ys n blank) ∙ length_import ys n xs
