-- The index and the checksum where they are asked for, and the length of the bag. Assumes nothing.
use mathlib.Core.Path.{◌≡◌, refl, sym, ap, ◌∙◌}
use mathlib.Core.Bool.{Bool, true, false, cond}
use mathlib.Core.List.{List, [], ◌∷◌, ◌++◌}
use Prim.Native.Nat.{ℕ, suc, ◌+◌, ◌*◌, ◌≤◌}
use native.Mathlib.Nat.{zero-add}
use native.Mathlib.Omega.{arith}
use lib.ListN.{length, take, drop, length-append}
use lib.Seq.{take_at}
use Rattle.scheme.specs.Bytes.{be, le}
use Rattle.scheme.specs.Crc.{crc_of}
use Rattle.scheme.specs.Write.{entry}
use Rattle.laws.specs.Fields.{length-be}
use Rattle.laws.specs.Puts.{puts, puts-on, puts-start}
use Rattle.writer.specs.Bytes.{cell_size, index_of, head_bytes}
use Rattle.writer.specs.Bag.{index_if, checksum_of, sealed_of}

pub index_yes : (has_idx : Bool) (t : List ℕ) (size off : ℕ) (l : List ℕ) → has_idx ≡ true → index_if has_idx t size off l ≡ index_of t size off 0 l
unfolding index_if
index_yes has_idx t size off l e = rw e refl

pub index-no : (has_idx : Bool) (t : List ℕ) (size off : ℕ) (l : List ℕ) → has_idx ≡ false → index_if has_idx t size off l ≡ []
unfolding index_if
index-no has_idx t size off l e = rw e refl

pub checksum_yes : (has_crc : Bool) (o : List ℕ) (at : ℕ) → has_crc ≡ true → checksum_of has_crc o at ≡ le 4 (crc_of (take at o))
unfolding checksum_of
checksum_yes has_crc o at e = rw e refl

pub checksum-no : (has_crc : Bool) (o : List ℕ) (at : ℕ) → has_crc ≡ false → checksum_of has_crc o at ≡ []
unfolding checksum_of
checksum-no has_crc o at e = rw e refl

-- the body and then the checksum of the bytes before
pub sealed_is : (has_crc : Bool) (o body o₁ : List ℕ) (at : ℕ) → at ≡ length body → length body ≤ length o → o₁ ≡ puts o 0 body → puts o₁ at (checksum_of has_crc o₁ at) ≡ puts o 0 (sealed_of has_crc body)
unfolding checksum_of sealed_of
sealed_is has_crc o body o₁ at q h e =
    let x : take at o₁ ≡ body = ap (take at) (e ∙ puts-start o body h) ∙ take_at body (drop (length body) o) at (sym q) in
    rw x (puts-on o o₁ 0 at body (cond has_crc (le 4 (crc_of body)) []) e (q ∙ sym (zero-add (length body))))

pub sealed_length : (has_crc : Bool) (body : List ℕ) → length (sealed_of has_crc body) ≡ length body + cond has_crc 4 0
unfolding sealed_of
sealed_length true body = length-append body (le 4 (crc_of body))
sealed_length false body = length-append body []

index-of-length : (t : List ℕ) (size off start : ℕ) (l : List ℕ) → length (index_of t size off start l) ≡ off * length l
unfolding index_of
index-of-length t size off start [] = omega arith
index-of-length t size off start (x ∷ l) = length-append (be off (entry start (start + cell_size t size x))) _ ∙ rw (length-be off (entry start (start + cell_size t size x)), index-of-length t size off (start + cell_size t size x) l) (times off (length l))
  where
    times : (a b : ℕ) → a + a * b ≡ a * suc b
    times a b = omega arith

pub index-length-is : (has_idx : Bool) (t : List ℕ) (size off : ℕ) (l : List ℕ) → length (index_if has_idx t size off l) ≡ cond has_idx (off * length l) 0
unfolding index_if
index-length-is true t size off l = index-of-length t size off 0 l
index-length-is false t size off l = refl

pub head-length : (flags m size off total : ℕ) → length (head_bytes flags m size off total) ≡ 6 + 4 * size + off
unfolding head_bytes
head-length flags m size off total =
    let a = length-append (be off total) (be size 0) in
    let b = length-append (be size 0) (be off total ++ be size 0) in
    let c = length-append (be size 1) (be size 0 ++ (be off total ++ be size 0)) in
    let d = length-append (be size m) (be size 1 ++ (be size 0 ++ (be off total ++ be size 0))) in
    omega (arith, length-be size m, length-be size 1, length-be size 0, length-be off total)
