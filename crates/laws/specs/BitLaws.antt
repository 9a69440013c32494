-- Bits in bytes: bits packed and taken back, one bit read and set, bits put in behind others; what the steps of a builder keep; cropped
-- bytes, and when two cells are equal. Assumes nothing.
use Rattle.std.specs.Prelude.{◌≡◌, refl, ◌↔◌, Bool, true, false, ◌&&◌, not, List, [], ◌∷◌, ◌++◌, eqb, leb, ltb, get_or, take, drop, set, replicate, Ok}
use Rattle.std.proofs.Common.{sym, ap, ap₂, ◌∙◌, append_assoc, append-nil, pow-suc, zero-add, suc-add, mod-lt, zero-lt-suc, not-suc-le-zero, le_of_suc-le-suc, pow_pos, lit<, lit≤, take-append-drop, length-set, get_or-append-add, get_or-drop, length-take-le, take_at, drop_at, drop-drop, drop-set-lt, drop-cons, take-add, take_all, add-one, eqb-true, leb-true, ltb-true}
use Prim.Native.Nat.{ℕ, zero, suc, ◌+◌, ◌-◌, ◌*◌, ◌/◌, ◌%◌, ◌^◌, ◌<◌, ◌≤◌}
use Rattle.std.proofs.Math.Nat.{sub-zero, zero-sub, suc-sub-suc, mul-mod_left}
use native.Mathlib.Omega.{arith}
use Rattle.std.specs.Int.Bits.{block_half, block_odd, bit_and, bit_or}
use Rattle.std.proofs.Math.Pow.{split}
use Rattle.std.proofs.Math.ListN.{length, length-append, length-drop, get_or-append}
use Rattle.std.proofs.lemmas.List.{length-replicate, get_or-replicate, set-append_left, take-append-le, get_or_at}
use Rattle.std.proofs.Math.Seq.{take-suc, take-length}
use Rattle.std.proofs.lemmas.Bool.{eqb-false}
use Rattle.scheme.specs.Bits.{bit_of, bytes_for, low_bits, bits_of, first_bits, number, pack, mask, cropped}
use Rattle.scheme.specs.Cells.{Cell, eqbs}
use Rattle.scheme.specs.Refusals.{CUT, BITS, REFS}
use Rattle.scheme.specs.Limits.{max_bits, max_refs}
use Rattle.scheme.specs.Res.{Res, then, check, refusal}
use Rattle.scheme.specs.declared.Refusal.{Refusal}
use Rattle.scheme.specs.Builder.{Builder, new_builder, put_bits, bits_fit, with_bits, cell_in, appended, repeated, referred}
use Rattle.laws.specs.Puts.{puts, puts_one, puts-append, puts-parts}
use Rattle.laws.specs.Tests.{eqbs-true, and_left, and_right}
use Rattle.laws.specs.CellLaws.{cell_path}
use Rattle.laws.specs.CellRound.{all_below, all_below-true, length-mask}
use Rattle.laws.specs.Accept.{then_use, check_inv}

-- every number of a list is a byte; is a bit
abbrev pub AllBytes : List ℕ → Type 0
AllBytes bs = (i : ℕ) → get_or bs i 0 < 256

abbrev pub AllBits : List ℕ → Type 0
AllBits xs = (i : ℕ) → get_or xs i 0 < 2

pub bits-append : (xs ys : List ℕ) → AllBits xs → AllBits ys → AllBits (xs ++ ys)
bits-append [] ys h g i = g i
bits-append (x ∷ xs) ys h g zero = h zero
bits-append (x ∷ xs) ys h g (suc i) = bits-append xs ys (λ j. h (suc j)) g i

bit_alone : (x : ℕ) → AllBits (x % 2 ∷ [])
bit_alone x zero = mod-lt x (zero-lt-suc 1)
bit_alone x (suc i) = lit< tt

pub low-are-bits : (k x : ℕ) → AllBits (low_bits k x)
low-are-bits zero x i = lit< tt
low-are-bits (suc k) x i = bits-append (low_bits k (x / 2)) (x % 2 ∷ []) (low-are-bits k (x / 2)) (bit_alone x) i

pub bits-are-bits : (bs : List ℕ) → AllBits (bits_of bs)
bits-are-bits [] i = lit< tt
bits-are-bits (b ∷ bs) i = bits-append (low_bits 8 b) (bits_of bs) (low-are-bits 8 b) (bits-are-bits bs) i

-- a byte has eight bits
pub length-bits : (bs : List ℕ) → length (bits_of bs) ≡ 8 * length bs
length-bits [] = refl
length-bits (b ∷ bs) = omega (arith, length-bits bs)

-- a high bit put before k low ones
high_bit : (x k r : ℕ) → x < 2 → r < 2 ^ k → low_bits (suc k) (x * 2 ^ k + r) ≡ x ∷ low_bits k r
high_bit x zero r h g =
    let e : (x * 2 ^ 0 + r) % 2 ≡ x = omega arith in
    ap (λ (y : ℕ). y ∷ []) e
high_bit x (suc k) r h g =
    let half : r / 2 < 2 ^ k = omega (arith, pow-suc 2 k) in
    ap₂ (λ (u v : ℕ). low_bits (suc k) u ++ v ∷ []) (block_half x k r) (block_odd x k r) ∙ ap (λ (l : List ℕ). l ++ r % 2 ∷ []) (high_bit x k (r / 2) h half)

number_lt : (k : ℕ) (xs : List ℕ) → AllBits xs → number k xs < 2 ^ k
number_lt zero xs h = lit< tt
number_lt (suc k) [] h = pow_pos (suc k)
number_lt (suc k) (x ∷ xs) h = below x (2 ^ k) (number k xs) (2 ^ suc k) (h zero) (number_lt k xs (λ j. h (suc j))) (pow-suc 2 k)
  where
    below : (x m r n : ℕ) → x < 2 → r < m → n ≡ m * 2 → x * m + r < n
    below zero m r n h g e = omega arith
    below (suc zero) m r n h g e = omega arith
    below (suc (suc x)) m r n h g e = absurd (omega arith)

-- the bits of the number of k bits are these
pub bits-number : (k : ℕ) (xs : List ℕ) → k ≤ length xs → AllBits xs → low_bits k (number k xs) ≡ take k xs
bits-number zero xs h b = refl
bits-number (suc k) [] h b = absurd (not-suc-le-zero h)
bits-number (suc k) (x ∷ xs) h b =
    high_bit x k (number k xs) (b zero) (number_lt k xs (λ j. b (suc j)))
    ∙ ap (λ (l : List ℕ). x ∷ l) (bits-number k xs (le_of_suc-le-suc h) (λ j. b (suc j)))

pub bits-drop : (n : ℕ) (xs : List ℕ) → AllBits xs → AllBits (drop n xs)
bits-drop n xs h i = rw (get_or-drop n xs i 0) (h (n + i))

-- the bits of packed bits are these
pub bits-pack : (n : ℕ) (xs : List ℕ) → length xs ≡ 8 * n → AllBits xs → bits_of (pack n xs) ≡ xs
bits-pack zero [] e b = refl
bits-pack zero (x ∷ xs) e b = absurd (omega arith)
bits-pack (suc n) xs e b =
    ap₂ (λ (s t : List ℕ). s ++ t) (bits-number 8 xs (omega arith) b) (bits-pack n (drop 8 xs) (omega (arith, length-drop 8 xs)) (bits-drop 8 xs b))
    ∙ take-append-drop 8 xs

pub length-pack : (n : ℕ) (xs : List ℕ) → length (pack n xs) ≡ n
length-pack zero xs = refl
length-pack (suc n) xs = ap suc (length-pack n (drop 8 xs))

pub pack-bytes : (n : ℕ) (xs : List ℕ) → AllBits xs → AllBytes (pack n xs)
pack-bytes zero xs b i = lit< tt
pack-bytes (suc n) xs b zero = number_lt 8 xs b
pack-bytes (suc n) xs b (suc i) = pack-bytes n (drop 8 xs) (bits-drop 8 xs b) i

-- the bits of bytes, packed, are the bytes
byte_tests : all_below 256 (λ x. eqb (number 8 (low_bits 8 x)) x) ≡ true
byte_tests = refl

number-byte : (x : ℕ) → x < 256 → number 8 (low_bits 8 x) ≡ x
number-byte x h = eqb-true _ _ (all_below-true 256 (λ x. eqb (number 8 (low_bits 8 x)) x) byte_tests x h)

pub pack-bits : (bs : List ℕ) → AllBytes bs → pack (length bs) (bits_of bs) ≡ bs
pack-bits [] h = refl
pack-bits (b ∷ bs) h = ap₂ (λ (x : ℕ) (l : List ℕ). x ∷ l) (number-byte b (h zero)) (pack-bits bs (λ j. h (suc j)))

-- bytes with equal bits are equal
pub bytes_same : (a b : List ℕ) → AllBytes a → AllBytes b → bits_of a ≡ bits_of b → a ≡ b
bytes_same a b h g e =
    let n : length a ≡ length b = omega (arith, length-bits a, length-bits b, ap length e) in
    sym (pack-bits a h) ∙ ap₂ pack n e ∙ pack-bits b g

set-append-add : (xs ys : List ℕ) (j a : ℕ) → set (xs ++ ys) (length xs + j) a ≡ xs ++ set ys j a
set-append-add [] ys j a = rw zero-add
set-append-add (x ∷ xs) ys j a = rw suc-add (ap (λ (l : List ℕ). x ∷ l) (set-append-add xs ys j a))

-- bit k of byte i, and the bits with another there
pub bit_at : (bs : List ℕ) (i k : ℕ) → k < 8 → get_or (bits_of bs) (8 * i + k) 0 ≡ get_or (low_bits 8 (get_or bs i 0)) k 0
bit_at [] i k h = sym (get_or-replicate 8 k 0 0 h)
bit_at (b ∷ bs) zero k h = rw zero-add (get_or-append (low_bits 8 b) (bits_of bs) 0 k h)
bit_at (b ∷ bs) (suc i) k h =
    let e : 8 * suc i + k ≡ 8 + (8 * i + k) = omega arith in
    rw e (get_or-append-add (low_bits 8 b) (bits_of bs) (8 * i + k) 0 ∙ bit_at bs i k h)

pub bit_set : (bs : List ℕ) (i k y v : ℕ) → i < length bs → k < 8 → low_bits 8 y ≡ set (low_bits 8 (get_or bs i 0)) k v → bits_of (set bs i y) ≡ set (bits_of bs) (8 * i + k) v
bit_set [] i k y v l h e = absurd (not-suc-le-zero l)
bit_set (b ∷ bs) zero k y v l h e =
    rw zero-add (ap (λ (s : List ℕ). s ++ bits_of bs) e ∙ sym (set-append_left (low_bits 8 b) (bits_of bs) k v h))
bit_set (b ∷ bs) (suc i) k y v l h e =
    let n : 8 * suc i + k ≡ 8 + (8 * i + k) = omega arith in
    rw n (ap (λ (s : List ℕ). low_bits 8 b ++ s) (bit_set bs i k y v (le_of_suc-le-suc l) h e) ∙ sym (set-append-add (low_bits 8 b) (bits_of bs) (8 * i + k) v))

-- of one byte, over all bytes and all places: its bit, the byte with that bit 1, and the byte with that bit 0
abbrev bit_test : ℕ → ℕ → Bool
bit_test x k =
    eqb (bit_of (not (eqb (bit_and x (128 / 2 ^ k)) 0))) (get_or (low_bits 8 x) k 0)
    && (eqbs (low_bits 8 (bit_or x (128 / 2 ^ k))) (set (low_bits 8 x) k 1)
    && eqbs (low_bits 8 (bit_and x (255 - 128 / 2 ^ k))) (set (low_bits 8 x) k 0))

bit_tests : all_below 256 (λ x. all_below 8 (λ k. bit_test x k)) ≡ true
bit_tests = refl

module _ (x k : ℕ) (hx : x < 256) (hk : k < 8) where
  abbrev read_test : Bool
  read_test = eqb (bit_of (not (eqb (bit_and x (128 / 2 ^ k)) 0))) (get_or (low_bits 8 x) k 0)

  abbrev on_test : Bool
  on_test = eqbs (low_bits 8 (bit_or x (128 / 2 ^ k))) (set (low_bits 8 x) k 1)

  abbrev off_test : Bool
  off_test = eqbs (low_bits 8 (bit_and x (255 - 128 / 2 ^ k))) (set (low_bits 8 x) k 0)

  tested : bit_test x k ≡ true
  tested = all_below-true 8 (λ k. bit_test x k) (all_below-true 256 (λ x. all_below 8 (λ k. bit_test x k)) bit_tests x hx) k hk

  byte-read : bit_of (not (eqb (bit_and x (128 / 2 ^ k)) 0)) ≡ get_or (low_bits 8 x) k 0
  byte-read = eqb-true _ _ (and_left read_test (on_test && off_test) tested)

  byte-on : low_bits 8 (bit_or x (128 / 2 ^ k)) ≡ set (low_bits 8 x) k 1
  byte-on = eqbs-true _ _ (and_left on_test off_test (and_right read_test (on_test && off_test) tested))

  byte-off : low_bits 8 (bit_and x (255 - 128 / 2 ^ k)) ≡ set (low_bits 8 x) k 0
  byte-off = eqbs-true _ _ (and_right on_test off_test (and_right read_test (on_test && off_test) tested))

-- bit p of bytes by the byte that holds it: read, set to 1, set to 0
module _ (bs : List ℕ) (p : ℕ) (hp : p < 8 * length bs) (hb : get_or bs (p / 8) 0 < 256) where
  place : 8 * (p / 8) + p % 8 ≡ p
  place = omega arith

  pub bit_read : bit_of (not (eqb (bit_and (get_or bs (p / 8) 0) (128 / 2 ^ (p % 8))) 0)) ≡ get_or (bits_of bs) p 0
  bit_read =
      byte-read (get_or bs (p / 8) 0) (p % 8) hb (omega arith) ∙ sym (bit_at bs (p / 8) (p % 8) (omega arith))
      ∙ ap (λ (n : ℕ). get_or (bits_of bs) n 0) place

  pub bit_on : bits_of (set bs (p / 8) (bit_or (get_or bs (p / 8) 0) (128 / 2 ^ (p % 8)))) ≡ set (bits_of bs) p 1
  bit_on =
      bit_set bs (p / 8) (p % 8) (bit_or (get_or bs (p / 8) 0) (128 / 2 ^ (p % 8))) 1 (omega arith) (omega arith)
      (byte-on (get_or bs (p / 8) 0) (p % 8) hb (omega arith))
      ∙ ap (λ (n : ℕ). set (bits_of bs) n 1) place

  pub bit_off : bits_of (set bs (p / 8) (bit_and (get_or bs (p / 8) 0) (255 - 128 / 2 ^ (p % 8)))) ≡ set (bits_of bs) p 0
  bit_off =
      bit_set bs (p / 8) (p % 8) (bit_and (get_or bs (p / 8) 0) (255 - 128 / 2 ^ (p % 8))) 0 (omega arith) (omega arith)
      (byte-off (get_or bs (p / 8) 0) (p % 8) hb (omega arith))
      ∙ ap (λ (n : ℕ). set (bits_of bs) n 0) place

-- bits put in one by one: one more, and all of them
pub put_next : (B : List ℕ) (p i : ℕ) (xs c d : List ℕ) (v : ℕ) → i < length xs → v ≡ get_or xs i 0 → c ≡ puts B p (take i xs) → d ≡ set c (p + i) v → d ≡ puts B p (take (i + 1) xs)
put_next B p i xs c d v h e f g =
    let n : p + i ≡ p + length (take i xs) = omega (arith, length-take-le i xs (omega arith)) in
    let s : set c (p + i) v ≡ puts (puts B p (take i xs)) (p + length (take i xs)) (get_or xs i 0 ∷ []) =
    rw (e, n, f) (puts_one (puts B p (take i xs)) (p + length (take i xs)) (get_or xs i 0)) in
    rw (add-one i, take-suc xs i 0 h) (g ∙ s ∙ puts-append B p (take i xs) (get_or xs i 0 ∷ []))

pub put_all : (bs d : List ℕ) (p n : ℕ) (xs : List ℕ) → length d ≡ length bs → AllBytes d → n ≡ length xs → p + n ≤ 8 * length bs
    → bits_of d ≡ puts (bits_of bs) p (take n xs) → d ≡ put_bits bs p xs
unfolding put_bits
put_all bs d p n xs l h e f g =
    let m : p + length xs ≤ length (bits_of bs) = omega (arith, length-bits bs) in
    let q : bits_of d ≡ take p (bits_of bs) ++ (xs ++ drop (p + length xs) (bits_of bs)) =
    g ∙ rw (e, take-length xs) (puts-parts (bits_of bs) p xs m ∙ append_assoc (take p (bits_of bs)) xs (drop (p + length xs) (bits_of bs))) in
    sym (pack-bits d h) ∙ ap₂ pack l q

pub length-first : (n : ℕ) (bs : List ℕ) → n ≤ 8 * length bs → length (first_bits n bs) ≡ n
length-first n bs h = length-take-le n (bits_of bs) (omega (arith, length-bits bs))

pub bits-take : (n : ℕ) (xs : List ℕ) → AllBits xs → AllBits (take n xs)
bits-take zero xs h i = lit< tt
bits-take (suc n) [] h i = lit< tt
bits-take (suc n) (x ∷ xs) h zero = h zero
bits-take (suc n) (x ∷ xs) h (suc i) = bits-take n xs (λ j. h (suc j)) i

pub bits-replicate : (n v : ℕ) → v < 2 → AllBits (replicate n v)
bits-replicate zero v h i = lit< tt
bits-replicate (suc n) v h zero = h
bits-replicate (suc n) v h (suc i) = bits-replicate n v h i

pub bit_small : (b : Bool) → bit_of b < 2
bit_small true = lit< tt
bit_small false = lit< tt

-- with bits put in from bit p on: the bits of the bytes, those up to the last of them, and those behind it
module _ (bs : List ℕ) (p : ℕ) (xs : List ℕ) (h : p + length xs ≤ 8 * length bs) (x : AllBits xs) where
  abbrev front : List ℕ
  front = take p (bits_of bs)

  abbrev rest : List ℕ
  rest = drop (p + length xs) (bits_of bs)

  long : length (front ++ xs) ≡ p + length xs
  long = omega (arith, length-append front xs, length-take-le p (bits_of bs) (omega (arith, length-bits bs)))

  pub put_is : bits_of (put_bits bs p xs) ≡ front ++ (xs ++ rest)
  unfolding put_bits
  put_is =
      let n : length (front ++ (xs ++ rest)) ≡ 8 * length bs =
      omega (arith, long, length-append front xs, length-append front (xs ++ rest), length-append xs rest, length-drop (p + length xs) (bits_of bs), length-bits bs) in
      bits-pack (length bs) (front ++ (xs ++ rest)) n
      (bits-append front (xs ++ rest) (bits-take p (bits_of bs) (bits-are-bits bs)) (bits-append xs rest x (bits-drop (p + length xs) (bits_of bs) (bits-are-bits bs))))

  joined : bits_of (put_bits bs p xs) ≡ (front ++ xs) ++ rest
  joined = put_is ∙ sym (append_assoc front xs rest)

  pub put_first : first_bits (p + length xs) (put_bits bs p xs) ≡ first_bits p bs ++ xs
  put_first = ap (take (p + length xs)) joined ∙ take_at (front ++ xs) rest (p + length xs) long

  pub put-behind : drop (p + length xs) (bits_of (put_bits bs p xs)) ≡ rest
  put-behind = ap (drop (p + length xs)) joined ∙ drop_at (front ++ xs) rest (p + length xs) long

  pub put-length : length (put_bits bs p xs) ≡ length bs
  unfolding put_bits
  put-length = length-pack (length bs) (front ++ (xs ++ rest))

  pub put-bytes : AllBytes (put_bits bs p xs)
  unfolding put_bits
  put-bytes =
      pack-bytes (length bs) (front ++ (xs ++ rest))
      (bits-append front (xs ++ rest) (bits-take p (bits_of bs) (bits-are-bits bs)) (bits-append xs rest x (bits-drop (p + length xs) (bits_of bs) (bits-are-bits bs))))

-- a step that is not refused: its tests pass, and this is the builder
pub record Appends (b : Builder) (n : ℕ) (xs : List ℕ) (c : Builder) : Type 0 where
  pub fits : b.len + n ≤ 1023
  pub bits : AllBits xs
  pub as_many : length xs ≡ n
  pub is : with_bits b n xs ≡ c

check_use : {B C : Type 0} (t : Bool) (r : Refusal) (f : Unit {0} → Res B) (c : B) → then (check t r) f ≡ Ok c → (t ≡ true → f tt ≡ Ok c → C) → C
check_use t r f c e k = then_use (check t r) f c e λ a p q. k (check_inv t r a p) q

ok_inj : {A : Type 0} (a b : A) → ◌≡◌ {A = Res A} (Ok a) (Ok b) → a ≡ b
ok_inj a b e = cc

pub appended-is : (b : Builder) (n : ℕ) (from : List ℕ) (c : Builder) → appended b n from ≡ Ok c → Appends b n (first_bits n from) c
unfolding appended
appended-is b n from c e =
    check_use (leb n (8 * length from)) (refusal CUT 0) (λ _. then (bits_fit b n) λ _. Ok (with_bits b n (first_bits n from))) c e λ t e₁.
    check_use (leb (b.len + n) max_bits) (refusal BITS 0) (λ _. Ok (with_bits b n (first_bits n from))) c e₁ λ u e₂.
    record {
      fits = leb-true (b.len + n) 1023 u;
      bits = bits-take n (bits_of from) (bits-are-bits from);
      as_many = length-first n from (leb-true n (8 * length from) t);
      is = ok_inj (with_bits b n (first_bits n from)) c e₂;
    }

pub repeated-is : (b : Builder) (n : ℕ) (bit : Bool) (c : Builder) → repeated b n bit ≡ Ok c → Appends b n (replicate n (bit_of bit)) c
unfolding repeated
repeated-is b n bit c e =
    check_use (leb (b.len + n) max_bits) (refusal BITS 0) (λ _. Ok (with_bits b n (replicate n (bit_of bit)))) c e λ u e₂.
    record {
      fits = leb-true (b.len + n) 1023 u;
      bits = bits-replicate n (bit_of bit) (bit_small bit);
      as_many = length-replicate n (bit_of bit);
      is = ok_inj (with_bits b n (replicate n (bit_of bit))) c e₂;
    }

-- the bits before, followed by the new ones
pub bits_followed : (b : Builder) (n : ℕ) (xs : List ℕ) (c : Builder) → length b.bytes ≡ 128 → Appends b n xs c
    → first_bits c.len c.bytes ≡ first_bits b.len b.bytes ++ xs
bits_followed b n xs c w a =
    let h : b.len + length xs ≤ 8 * length b.bytes = omega (arith, a.fits, a.as_many) in
    let e : b.len + n ≡ b.len + length xs = omega (arith, a.as_many) in
    ap (λ (d : Builder). first_bits d.len d.bytes) (sym a.is)
    ∙ ap (λ (k : ℕ). first_bits k (put_bits b.bytes b.len xs)) e ∙ put_first b.bytes b.len xs h a.bits

pub appended-bits : (b : Builder) (n : ℕ) (from : List ℕ) (c : Builder) → length b.bytes ≡ 128 → appended b n from ≡ Ok c
    → first_bits c.len c.bytes ≡ first_bits b.len b.bytes ++ first_bits n from
appended-bits b n from c w e = bits_followed b n (first_bits n from) c w (appended-is b n from c e)

pub repeated-bits : (b : Builder) (n : ℕ) (bit : Bool) (c : Builder) → length b.bytes ≡ 128 → repeated b n bit ≡ Ok c
    → first_bits c.len c.bytes ≡ first_bits b.len b.bytes ++ replicate n (bit_of bit)
repeated-bits b n bit c w e = bits_followed b n (replicate n (bit_of bit)) c w (repeated-is b n bit c e)

-- what steps from a new builder keep: the lengths, and 0 behind the bits and the references in use
pub record Clean (b : Builder) : Type 0 where
  pub short : b.len ≤ 1023
  pub whole : length b.bytes ≡ 128
  pub bytes : AllBytes b.bytes
  pub zeros : drop b.len (bits_of b.bytes) ≡ replicate (1024 - b.len) 0
  pub few : b.count ≤ 4
  pub four : length b.refs ≡ 4
  pub unused : drop b.count b.refs ≡ replicate (4 - b.count) 0

drop-replicate : (k n v : ℕ) → drop k (replicate n v) ≡ replicate (n - k) v
drop-replicate zero n v = rw sub-zero
drop-replicate (suc k) zero v = rw zero-sub
drop-replicate (suc k) (suc n) v = rw suc-sub-suc (drop-replicate k n v)

zero-bytes : (n : ℕ) → AllBytes (replicate n 0)
zero-bytes zero i = lit< tt
zero-bytes (suc n) zero = lit< tt
zero-bytes (suc n) (suc i) = zero-bytes n i

pub new-clean : (exotic : Bool) → Clean (new_builder exotic)
new-clean exotic = record { short = lit≤ tt; whole = refl; bytes = zero-bytes 128; zeros = refl; few = lit≤ tt; four = refl; unused = refl }

pub appends-clean : (b : Builder) (n : ℕ) (xs : List ℕ) (c : Builder) → Clean b → Appends b n xs c → Clean c
appends-clean b n xs c C a =
    let h : b.len + length xs ≤ 8 * length b.bytes = omega (arith, a.fits, a.as_many, C.whole) in
    let e : b.len + n ≡ b.len + length xs = omega (arith, a.as_many) in
    let m : 1024 - b.len - n ≡ 1024 - (b.len + n) = omega arith in
    let z : drop (b.len + n) (bits_of (put_bits b.bytes b.len xs)) ≡ replicate (1024 - (b.len + n)) 0 =
    ap (λ (k : ℕ). drop k (bits_of (put_bits b.bytes b.len xs))) e ∙ put-behind b.bytes b.len xs h a.bits
    ∙ ap (λ (k : ℕ). drop k (bits_of b.bytes)) (sym e) ∙ sym (drop-drop n b.len (bits_of b.bytes))
    ∙ ap (drop n) C.zeros ∙ drop-replicate n (1024 - b.len) 0 ∙ ap (λ (k : ℕ). replicate k 0) m in
    rw a.is at (grown z h)
  where
    grown : drop (b.len + n) (bits_of (put_bits b.bytes b.len xs)) ≡ replicate (1024 - (b.len + n)) 0 → b.len + length xs ≤ 8 * length b.bytes → Clean (with_bits b n xs)
    grown z h = record {
      short = a.fits;
      whole = put-length b.bytes b.len xs h a.bits ∙ C.whole;
      bytes = put-bytes b.bytes b.len xs h a.bits;
      zeros = z;
      few = C.few;
      four = C.four;
      unused = C.unused;
    }

pub referred-clean : (b : Builder) (r : ℕ) (c : Builder) → Clean b → referred b r ≡ Ok c → Clean c
unfolding referred
referred-clean b r c C e =
    check_use (ltb b.count max_refs) (refusal REFS 0)
    (λ _. Ok (record { exotic = b.exotic; len = b.len; bytes = b.bytes; count = suc b.count; refs = set b.refs b.count r })) c e λ t e₁.
    let l = ltb-true b.count 4 t in
    let m : 4 - b.count - 1 ≡ 4 - suc b.count = omega arith in
    let z : drop (suc b.count) (set b.refs b.count r) ≡ replicate (4 - suc b.count) 0 =
    drop-set-lt (suc b.count) b.refs b.count r (omega arith)
    ∙ ap (λ (k : ℕ). drop k b.refs) (sym (add-one b.count)) ∙ sym (drop-drop 1 b.count b.refs)
    ∙ ap (drop 1) C.unused ∙ drop-replicate 1 (4 - b.count) 0 ∙ ap (λ (k : ℕ). replicate k 0) m in
    let g : Clean (record { exotic = b.exotic; len = b.len; bytes = b.bytes; count = suc b.count; refs = set b.refs b.count r }) =
    record {
      short = C.short;
      whole = C.whole;
      bytes = C.bytes;
      zeros = C.zeros;
      few = l;
      four = length-set b.refs b.count r ∙ C.four;
      unused = z;
    } in
    rw (ok_inj _ c e₁) at g

-- a builder that steps make of a new one
pub data Made : Builder → Type 0 where
  start : (exotic : Bool) → Made (new_builder exotic)
  written : {b c : Builder} (n : ℕ) (from : List ℕ) → Made b → appended b n from ≡ Ok c → Made c
  filled : {b c : Builder} (n : ℕ) (bit : Bool) → Made b → repeated b n bit ≡ Ok c → Made c
  linked : {b c : Builder} (r : ℕ) → Made b → referred b r ≡ Ok c → Made c

pub made-clean : {b : Builder} → Made b → Clean b
made-clean (start exotic) = new-clean exotic
made-clean (written {b} {c} n from m e) = appends-clean b n (first_bits n from) c (made-clean m) (appended-is b n from c e)
made-clean (filled {b} {c} n bit m e) = appends-clean b n (replicate n (bit_of bit)) c (made-clean m) (repeated-is b n bit c e)
made-clean (linked {b} {c} r m e) = referred-clean b r c (made-clean m) e

-- bits of a list of bytes by its parts
pub bits-of-append : (a b : List ℕ) → bits_of (a ++ b) ≡ bits_of a ++ bits_of b
bits-of-append [] b = refl
bits-of-append (x ∷ a) b = ap (λ (l : List ℕ). low_bits 8 x ++ l) (bits-of-append a b)

module _ (bs : List ℕ) (q : ℕ) (h : q ≤ length bs) where
  parts : bits_of bs ≡ bits_of (take q bs) ++ bits_of (drop q bs)
  parts = ap bits_of (sym (take-append-drop q bs)) ∙ bits-of-append (take q bs) (drop q bs)

  long-front : length (bits_of (take q bs)) ≡ 8 * q
  long-front = omega (arith, length-bits (take q bs), length-take-le q bs h)

  pub bits-of-take : take (8 * q) (bits_of bs) ≡ bits_of (take q bs)
  bits-of-take = ap (take (8 * q)) parts ∙ take_at (bits_of (take q bs)) (bits_of (drop q bs)) (8 * q) long-front

  pub bits-of-drop : drop (8 * q) (bits_of bs) ≡ bits_of (drop q bs)
  bits-of-drop = ap (drop (8 * q)) parts ∙ drop_at (bits_of (take q bs)) (bits_of (drop q bs)) (8 * q) long-front

-- of one byte whose first r bits are kept
abbrev crop_test : ℕ → ℕ → Bool
crop_test x r = eqbs (low_bits 8 (x / 2 ^ (8 - r) * 2 ^ (8 - r))) (take r (low_bits 8 x) ++ replicate (8 - r) 0)

crop_tests : all_below 256 (λ x. all_below 8 (λ r. crop_test x r)) ≡ true
crop_tests = refl

byte_crop : (x r : ℕ) → x < 256 → r < 8 → low_bits 8 (x / 2 ^ (8 - r) * 2 ^ (8 - r)) ≡ take r (low_bits 8 x) ++ replicate (8 - r) 0
byte_crop x r hx hr = eqbs-true _ _ (all_below-true 8 (λ r. crop_test x r) (all_below-true 256 (λ x. all_below 8 (λ r. crop_test x r)) crop_tests x hx) r hr)

mask-none : (l : List ℕ) → mask 0 l ≡ l
mask-none [] = refl
mask-none (x ∷ []) = let e : x / 2 ^ 0 * 2 ^ 0 ≡ x = omega arith in ap (λ (y : ℕ). y ∷ []) e
mask-none (x ∷ y ∷ ys) = ap (λ (l : List ℕ). x ∷ l) (mask-none (y ∷ ys))

mask-last : (k : ℕ) (l : List ℕ) (x : ℕ) → mask k (l ++ x ∷ []) ≡ l ++ (x / 2 ^ k * 2 ^ k) ∷ []
mask-last k [] x = refl
mask-last k (a ∷ []) x = refl
mask-last k (a ∷ b ∷ l) x = ap (λ (m : List ℕ). a ∷ m) (mask-last k (b ∷ l) x)

-- the bytes of the first len bits: whole ones, or with a last one of which r bits are kept
module _ (len : ℕ) (bs : List ℕ) (h : len ≤ 8 * length bs) where
  cropped-whole : len % 8 ≡ 0 → cropped len bs ≡ take (len / 8) bs
  unfolding cropped
  cropped-whole e =
      let k : (8 - len % 8) % 8 ≡ 0 = rw e in
      let n : (len + 7) / 8 ≡ len / 8 = omega arith in
      rw (k, n) (mask-none (take (len / 8) bs))

  cropped-part : (len % 8 ≡ 0 → ⊥) → cropped len bs ≡ take (len / 8) bs ++ (get_or bs (len / 8) 0 / 2 ^ (8 - len % 8) * 2 ^ (8 - len % 8)) ∷ []
  unfolding cropped
  cropped-part d =
      let k : (8 - len % 8) % 8 ≡ 8 - len % 8 = omega arith in
      let n : (len + 7) / 8 ≡ suc (len / 8) = omega arith in
      rw (k, n, take-suc bs (len / 8) 0 (omega arith)) (mask-last (8 - len % 8) (take (len / 8) bs) (get_or bs (len / 8) 0))

-- cropped bytes hold the first len bits, with 0 behind them
module _ (len : ℕ) (bs : List ℕ) (h : len ≤ 8 * length bs) (b : AllBytes bs) where
  abbrev left : ℕ
  left = get_or bs (len / 8) 0

  first_part : (len % 8 ≡ 0 → ⊥) → first_bits len bs ≡ bits_of (take (len / 8) bs) ++ take (len % 8) (low_bits 8 left)
  first_part d =
      let n : len ≡ 8 * (len / 8) + len % 8 = omega arith in
      let o : drop (8 * (len / 8)) (bits_of bs) ≡ low_bits 8 left ++ bits_of (drop (suc (len / 8)) bs) =
      bits-of-drop bs (len / 8) (omega arith) ∙ ap bits_of (drop-cons bs (len / 8) 0 (omega arith)) in
      ap (λ (k : ℕ). take k (bits_of bs)) n ∙ take-add (8 * (len / 8)) (len % 8) (bits_of bs)
      ∙ ap₂ (λ (u v : List ℕ). u ++ v) (bits-of-take bs (len / 8) (omega arith))
      (ap (take (len % 8)) o ∙ take-append-le (len % 8) (low_bits 8 left) (bits_of (drop (suc (len / 8)) bs)) (omega arith))

  pub bits-cropped : bits_of (cropped len bs) ≡ first_bits len bs ++ replicate (8 * bytes_for len - len) 0
  bits-cropped = go (eqb (len % 8) 0) refl
    where
      go : (t : Bool) → eqb (len % 8) 0 ≡ t → bits_of (cropped len bs) ≡ first_bits len bs ++ replicate (8 * bytes_for len - len) 0
      go true e =
          let w = eqb-true (len % 8) 0 e in
          let z : 0 ≡ 8 * bytes_for len - len = omega arith in
          let n : 8 * (len / 8) ≡ len = omega arith in
          ap bits_of (cropped-whole len bs h w) ∙ sym (bits-of-take bs (len / 8) (omega arith)) ∙ ap (λ (k : ℕ). take k (bits_of bs)) n
          ∙ sym (append-nil (take len (bits_of bs))) ∙ ap (λ (k : ℕ). take len (bits_of bs) ++ replicate k 0) z
      go false e =
          let d = eqb-false (len % 8) 0 e in
          let z : 8 - len % 8 ≡ 8 * bytes_for len - len = omega arith in
          ap bits_of (cropped-part len bs h d) ∙ bits-of-append (take (len / 8) bs) ((left / 2 ^ (8 - len % 8) * 2 ^ (8 - len % 8)) ∷ [])
          ∙ ap (λ (l : List ℕ). bits_of (take (len / 8) bs) ++ l) (byte_crop left (len % 8) (b (len / 8)) (omega arith))
          ∙ sym (append_assoc (bits_of (take (len / 8) bs)) (take (len % 8) (low_bits 8 left)) (replicate (8 - len % 8) 0))
          ∙ ap₂ (λ (l : List ℕ) (k : ℕ). l ++ replicate k 0) (sym (first_part d)) z

mask-bytes : (k : ℕ) (l : List ℕ) → AllBytes l → AllBytes (mask k l)
mask-bytes k [] b i = lit< tt
mask-bytes k (x ∷ []) b zero = omega (arith, split x k, b zero)
mask-bytes k (x ∷ []) b (suc i) = lit< tt
mask-bytes k (x ∷ y ∷ ys) b zero = b zero
mask-bytes k (x ∷ y ∷ ys) b (suc i) = mask-bytes k (y ∷ ys) (λ j. b (suc j)) i

take-bytes : (n : ℕ) (l : List ℕ) → AllBytes l → AllBytes (take n l)
take-bytes zero l b i = lit< tt
take-bytes (suc n) [] b i = lit< tt
take-bytes (suc n) (x ∷ l) b zero = b zero
take-bytes (suc n) (x ∷ l) b (suc i) = take-bytes n l (λ j. b (suc j)) i

pub crop_length : (len : ℕ) (bs : List ℕ) → len ≤ 8 * length bs → length (cropped len bs) ≡ bytes_for len
unfolding cropped
crop_length len bs h = length-mask ((8 - len % 8) % 8) (take (bytes_for len) bs) ∙ length-take-le (bytes_for len) bs (omega arith)

pub cropped-bytes : (len : ℕ) (bs : List ℕ) → AllBytes bs → AllBytes (cropped len bs)
unfolding cropped
cropped-bytes len bs b = mask-bytes ((8 - len % 8) % 8) (take (bytes_for len) bs) (take-bytes (bytes_for len) bs b)

-- the bytes of len bits, with the bits past them 0
pub record Tidy (len : ℕ) (bs : List ℕ) : Type 0 where
  pub size : length bs ≡ bytes_for len
  pub bytes : AllBytes bs
  pub tail : get_or bs (len / 8) 0 % 2 ^ ((8 - len % 8) % 8) ≡ 0

-- cropped bytes are such, and such bytes are cropped already
pub cropped-tidy : (len : ℕ) (bs : List ℕ) → len ≤ 8 * length bs → AllBytes bs → Tidy len (cropped len bs)
cropped-tidy len bs h b = record { size = crop_length len bs h; bytes = cropped-bytes len bs b; tail = go (eqb (len % 8) 0) refl }
  where
    go : (t : Bool) → eqb (len % 8) 0 ≡ t → get_or (cropped len bs) (len / 8) 0 % 2 ^ ((8 - len % 8) % 8) ≡ 0
    go true e =
        let w = eqb-true (len % 8) 0 e in
        let k : (8 - len % 8) % 8 ≡ 0 = rw w in
        rw k (omega arith)
    go false e =
        let d = eqb-false (len % 8) 0 e in
        let k : (8 - len % 8) % 8 ≡ 8 - len % 8 = omega arith in
        let y = get_or bs (len / 8) 0 / 2 ^ (8 - len % 8) in
        rw (k, cropped-part len bs h d, get_or_at (take (len / 8) bs) (y * 2 ^ (8 - len % 8)) [] 0 (len / 8) (length-take-le (len / 8) bs (omega arith)))
        (mul-mod_left y (2 ^ (8 - len % 8)))

pub tidy-cropped : (len : ℕ) (bs : List ℕ) → Tidy len bs → cropped len bs ≡ bs
tidy-cropped len bs T = go (eqb (len % 8) 0) refl
  where
    h : len ≤ 8 * length bs
    h = omega (arith, T.size)

    go : (t : Bool) → eqb (len % 8) 0 ≡ t → cropped len bs ≡ bs
    go true e = let w = eqb-true (len % 8) 0 e in cropped-whole len bs h w ∙ take_all (len / 8) bs (omega (arith, T.size))
    go false e =
        let d = eqb-false (len % 8) 0 e in
        let k : (8 - len % 8) % 8 ≡ 8 - len % 8 = omega arith in
        let x = get_or bs (len / 8) 0 in
        let z : x % 2 ^ (8 - len % 8) ≡ 0 = rw k at T.tail in
        let same : x / 2 ^ (8 - len % 8) * 2 ^ (8 - len % 8) ≡ x = omega (arith, split x (8 - len % 8)) in
        cropped-part len bs h d ∙ ap (λ (y : ℕ). take (len / 8) bs ++ y ∷ []) same
        ∙ sym (take-suc bs (len / 8) 0 (omega (arith, T.size))) ∙ take_all (suc (len / 8)) bs (omega (arith, T.size))

pub tidy-bits : (len : ℕ) (bs : List ℕ) → Tidy len bs → bits_of bs ≡ first_bits len bs ++ replicate (8 * bytes_for len - len) 0
tidy-bits len bs T = ap bits_of (sym (tidy-cropped len bs T)) ∙ bits-cropped len bs (omega (arith, T.size)) T.bytes

-- two cells are equal exactly when their flags, their bits and their references are
pub cells_same : (a b : Cell) → Tidy a.len a.bytes → Tidy b.len b.bytes
    → (a ≡ b) ↔ ((a.exotic ≡ b.exotic) × (first_bits a.len a.bytes ≡ first_bits b.len b.bytes) × (a.refs ≡ b.refs))
cells_same a b A B = (λ e. (ap (λ (c : Cell). c.exotic) e, ap (λ (c : Cell). first_bits c.len c.bytes) e, ap (λ (c : Cell). c.refs) e), λ w. back w)
  where
    back : (a.exotic ≡ b.exotic) × (first_bits a.len a.bytes ≡ first_bits b.len b.bytes) × (a.refs ≡ b.refs) → a ≡ b
    back w =
        let p = length-first a.len a.bytes (omega (arith, A.size)) in
        let q = length-first b.len b.bytes (omega (arith, B.size)) in
        let n : a.len ≡ b.len = sym p ∙ ap length w.1 ∙ q in
        let e : bits_of a.bytes ≡ bits_of b.bytes =
        tidy-bits a.len a.bytes A ∙ ap₂ (λ (l : List ℕ) (k : ℕ). l ++ replicate (8 * bytes_for k - k) 0) w.1 n ∙ sym (tidy-bits b.len b.bytes B) in
        cell_path a b w.0 n (bytes_same a.bytes b.bytes A.bytes B.bytes e) w.2

-- the cell in a builder: such bytes, with the builder's bits
pub crop_first : (len : ℕ) (bs : List ℕ) → len ≤ 8 * length bs → AllBytes bs → first_bits len (cropped len bs) ≡ first_bits len bs
crop_first len bs h b =
    ap (take len) (bits-cropped len bs h b)
    ∙ take_at (first_bits len bs) (replicate (8 * bytes_for len - len) 0) len (length-first len bs h)

pub cell-in-tidy : (b : Builder) → b.len ≤ 8 * length b.bytes → AllBytes b.bytes → Tidy (cell_in b).len (cell_in b).bytes
cell-in-tidy b h a = cropped-tidy b.len b.bytes h a

pub cell-in-bits : (b : Builder) → b.len ≤ 8 * length b.bytes → AllBytes b.bytes → first_bits (cell_in b).len (cell_in b).bytes ≡ first_bits b.len b.bytes
cell-in-bits b h a = crop_first b.len b.bytes h a
