-- A text of the grammar is accepted, and read as what it says.
-- Assumes nothing.
use Rattle.std.specs.Prelude.{◌≡◌, ℕ, suc, ◌+◌, ◌-◌, ◌*◌, ◌/◌, ◌%◌, ◌^◌, ◌≤◌, ◌<◌, Bool, true, false, not, ◌||◌, ◌&&◌, take, eqb, leb, Ok}
use Rattle.std.proofs.Math.Path.{refl, ap}
use Rattle.std.proofs.Common.{sym, ◌∙◌, length-append, take_at, le-leb, lt-ltb, ne_eqb, eqb-true, eq-eqb}
use native.Mathlib.Omega.{arith}
use Rattle.std.proofs.Math.Bool.{cond}
use mathlib.Core.List.Memᴰ.{head as here}
use mathlib.Core.List.Memᴰ.{tail as there}
use mathlib.Core.List.{List, [], ◌∷◌, ◌++◌, map, append_assoc, Memᴰ as Mem}
use Rattle.std.proofs.Math.ListN.{length, length-map}
use Rattle.scheme.specs.Limits.{max_cells}
use Rattle.scheme.specs.Bytes.{be, le, unle, field, fields}
use Rattle.scheme.specs.Bits.{bit_of, last_of, zeros, unmark}
use Rattle.scheme.specs.Crc.{crc_of}
use Rattle.scheme.specs.Cells.{Cell, at}
use Rattle.scheme.specs.Layout.{layout, tag_ok, generic_tag}
use Rattle.scheme.specs.Bag.{hashes, bits, Bits, raw_cell, raw_cells, header, read_scratch, numbers, root_list, index, checksum, links, roots_ok, bag}
use Rattle.scheme.specs.Write.{all_be}
use Rattle.laws.specs.CellRound.{all_below, all_below-true, refs-back, length-refs, past_path}
use Rattle.laws.specs.BagRound.{refs-ok}
use Rattle.laws.specs.WrittenBack.{crc_small}
use Rattle.laws.specs.CellLaws.{cell_path}
use Rattle.laws.specs.Tests.{and_left, and_right}
use Rattle.laws.specs.Fields.{At, at-start, at_move, at_same, at_next, at-chunk, field-be, field-byte, length-be, length-le, unle-le}
use Rattle.theorems.specs.Completion.{some_bytes}
use Rattle.theorems.specs.Grammar.{RawCell, ones_in, refs_descriptor, bits_descriptor, cell_text, cells_text, cell_of, RawCellOk, Head, byte4, unsigned, serialized, bag_of, Admissible}

-- d1 read back
abbrev d1_of : ℕ → ℕ → Bool → ℕ → ℕ
d1_of r x has v = r + 8 * x + 16 * bit_of has + 32 * v

abbrev back_test : ℕ → ℕ → Bool → ℕ → Bool
back_test r x has v = eqb (d1_of r x has v % 8) r && (eqb (d1_of r x has v / 8 % 2) x && eqb (hashes (d1_of r x has v)) (cond has (34 * (ones_in v + 1)) 0))

back_tests : (has : Bool) → all_below 5 (λ r. all_below 2 (λ x. all_below 8 (λ v. back_test r x has v))) ≡ true
back_tests true = refl
back_tests false = refl

d1-back : (r x : ℕ) (has : Bool) (v : ℕ) → r ≤ 4 → x ≤ 1 → v ≤ 7
    → (d1_of r x has v % 8 ≡ r) × (d1_of r x has v / 8 % 2 ≡ x) × (hashes (d1_of r x has v) ≡ cond has (34 * (ones_in v + 1)) 0)
d1-back r x has v hr hx hv =
    let t₁ = all_below-true 5 (λ r. all_below 2 (λ x. all_below 8 (λ v. back_test r x has v))) (back_tests has) r (omega arith) in
    let t₂ = all_below-true 2 (λ x. all_below 8 (λ v. back_test r x has v)) t₁ x (omega arith) in
    let t₃ = all_below-true 8 (λ v. back_test r x has v) t₂ v (omega arith) in
    let a = eqb (d1_of r x has v % 8) r in
    let b = eqb (d1_of r x has v / 8 % 2) x in
    let c = eqb (hashes (d1_of r x has v)) (cond has (34 * (ones_in v + 1)) 0) in
    let t₄ = and_right a (b && c) t₃ in
    (eqb-true _ _ (and_left a (b && c) t₃), eqb-true _ _ (and_left b c t₄), eqb-true _ _ (and_right b c t₄))

-- d2 read back
d2-back : (n : ℕ) (done : Bool) → (done ≡ true → 0 < n) → ((2 * n - bit_of done + 1) / 2 ≡ n) × (eqb ((2 * n - bit_of done) % 2) 1 ≡ done)
d2-back n true h = let g = h refl in let z : (2 * n - 1) % 2 ≡ 1 = omega arith in (omega arith, rw z)
d2-back n false h = let z : (2 * n - 0) % 2 ≡ 0 = omega arith in (omega arith, rw z)

abbrev bits_in : Bool → List ℕ → Bits
bits_in done xs = record { len = cond done (8 * length xs - 1 - zeros 8 (last_of xs)) (8 * length xs); bytes = cond done (unmark (zeros 8 (last_of xs)) xs) xs }

bits_back : (done : Bool) (q : ℕ) (xs : List ℕ) → (done ≡ true → last_of xs ≡ 0 → ⊥) → bits done q xs ≡ Ok (bits_in done xs)
unfolding bits
bits_back false q xs h = refl
bits_back true q xs h = rw (ne_eqb (last_of xs) 0 (h refl))

pub cell-back : {b : List ℕ} (size : ℕ) {p : ℕ} (c : RawCell) (l : List ℕ) → RawCellOk c → ((r : ℕ) → Mem r c.refs → r < 256 ^ size) → At b p (cell_text size c ++ l)
    → raw_cell b size p ≡ Ok (record { it = cell_of c; next = p + length (cell_text size c) })
unfolding raw_cell cell_text cell_of refs_descriptor bits_descriptor
cell-back {b} size {p} c l F R A =
    let d1 = refs_descriptor c in
    let d2 = bits_descriptor c in
    let rs = c.refs in
    let hs = c.hashes in
    let xs = c.content in
    let D = d1-back (length rs) c.exotic c.has-hashes c.level F.refs F.exotic F.level in
    let E = d2-back (length xs) c.completed (λ o. some_bytes xs (F.some o)) in
    let n₁ : length hs ≡ hashes d1 = F.hashes ∙ sym D.2 in
    let n₂ : length xs ≡ (d2 + 1) / 2 = sym E.0 in
    let l₂ = (hs ++ (xs ++ all_be size rs)) ++ l in
    let A₁ = at_next (d1 ∷ []) (d2 ∷ l₂) 1 A refl in
    let A₂ = at_move (p + 2) (at_next (d2 ∷ []) l₂ 1 A₁ refl) (omega arith) in
    let A₃ = at_same (hs ++ (xs ++ (all_be size rs ++ l))) A₂ (append_assoc hs (xs ++ all_be size rs) l ∙ ap (λ (z : List ℕ). hs ++ z) (append_assoc xs (all_be size rs) l)) in
    let A₄ = at_next hs (xs ++ (all_be size rs ++ l)) (hashes d1) A₃ n₁ in
    let A₅ = at_next xs (all_be size rs ++ l) ((d2 + 1) / 2) A₄ n₂ in
    let f₁ = field-byte d1 (d2 ∷ l₂) A in
    let f₂ : leb (d1 % 8) 4 ≡ true = le-leb (d1 % 8) 4 (rw D.0 F.refs) in
    let f₃ = field-byte d2 l₂ A₁ in
    let f₄ = at-chunk hs (xs ++ (all_be size rs ++ l)) (hashes d1) A₃ n₁ in
    let f₅ = at-chunk xs (all_be size rs ++ l) ((d2 + 1) / 2) A₄ n₂ in
    let f₆ : bits (eqb (d2 % 2) 1) (p + 2 + hashes d1) xs ≡ Ok (bits_in c.completed xs) = rw E.1 (bits_back c.completed (p + 2 + hashes d1) xs F.some) in
    let f₇ : fields b size (d1 % 8) (p + 2 + hashes d1 + (d2 + 1) / 2) ≡ Ok rs = rw D.0 (refs-back size rs l A₅ R) in
    let next : p + 2 + hashes d1 + (d2 + 1) / 2 + d1 % 8 * size ≡ p + length (cell_text size c) =
    rw D.0 (omega (arith, length-append hs (xs ++ all_be size rs), length-append xs (all_be size rs), length-refs size rs)) in
    rw (f₁, f₂, f₃, f₄, f₅, f₆, f₇) (ap Ok (past_path _ _ (cell_path _ _ D.1 refl refl refl) next))

pub cells-back : {b : List ℕ} (size : ℕ) {p : ℕ} (cs : List RawCell) (l : List ℕ) → ((c : RawCell) → Mem c cs → RawCellOk c)
    → ((c : RawCell) → Mem c cs → (r : ℕ) → Mem r c.refs → r < 256 ^ size) → At b p (cells_text size cs ++ l)
    → raw_cells b size (length cs) p ≡ Ok (record { it = map cell_of cs; next = p + length (cells_text size cs) })
cells-back size {p = p} [] l F R A = ap Ok (past_path _ _ refl (omega arith))
cells-back size {p = p} (c ∷ cs) l F R A =
    let A₁ = at_same (cell_text size c ++ (cells_text size cs ++ l)) A (append_assoc (cell_text size c) (cells_text size cs) l) in
    let ih = cells-back size {p = p + length (cell_text size c)} cs l (λ d m. F d (there m)) (λ d m. R d (there m)) (at_next (cell_text size c) (cells_text size cs ++ l) (length (cell_text size c)) A₁ refl) in
    let next : p + length (cell_text size c) + length (cells_text size cs) ≡ p + length (cells_text size (c ∷ cs)) = omega (arith, length-append (cell_text size c) (cells_text size cs)) in
    rw (cell-back size c (cells_text size cs ++ l) (F c (here refl)) (R c (here refl)) A₁, ih) (ap Ok (past_path _ _ refl next))

-- byte 4 read back
abbrev byte_of : Bool → Bool → Bool → ℕ → ℕ → ℕ
byte_of idx sum cache flags size = 128 * bit_of idx + 64 * bit_of sum + 32 * bit_of cache + 8 * flags + size

abbrev byte_test : Bool → Bool → Bool → ℕ → ℕ → Bool
byte_test idx sum cache flags size =
    eqb (byte_of idx sum cache flags size % 8) size
    && (eqb (byte_of idx sum cache flags size / 128 % 2) (bit_of idx) && eqb (byte_of idx sum cache flags size / 64 % 2) (bit_of sum))

byte_tests : (idx sum cache : Bool) → all_below 4 (λ flags. all_below 5 (λ size. byte_test idx sum cache flags size)) ≡ true
byte_tests true true true = refl
byte_tests true true false = refl
byte_tests true false true = refl
byte_tests true false false = refl
byte_tests false true true = refl
byte_tests false true false = refl
byte_tests false false true = refl
byte_tests false false false = refl

bit_is : (t : Bool) → eqb (bit_of t) 1 ≡ t
bit_is true = refl
bit_is false = refl

layout-back : (idx sum cache : Bool) (flags size : ℕ) → flags ≤ 3 → size ≤ 4
    → layout generic_tag (byte_of idx sum cache flags size) ≡ record { size = size; has_idx = idx; has_crc = sum; has-list = true }
unfolding layout
layout-back idx sum cache flags size hf hs =
    let t₁ = all_below-true 4 (λ flags. all_below 5 (λ size. byte_test idx sum cache flags size)) (byte_tests idx sum cache) flags (omega arith) in
    let t₂ = all_below-true 5 (λ size. byte_test idx sum cache flags size) t₁ size (omega arith) in
    let a = eqb (byte_of idx sum cache flags size % 8) size in
    let b = eqb (byte_of idx sum cache flags size / 128 % 2) (bit_of idx) in
    let c = eqb (byte_of idx sum cache flags size / 64 % 2) (bit_of sum) in
    let t₃ = and_right a (b && c) t₂ in
    let p : byte_of idx sum cache flags size % 8 ≡ size = eqb-true _ _ (and_left a (b && c) t₂) in
    let q₁ : byte_of idx sum cache flags size / 128 % 2 ≡ bit_of idx = eqb-true _ _ (and_left b c t₃) in
    let r₁ : byte_of idx sum cache flags size / 64 % 2 ≡ bit_of sum = eqb-true _ _ (and_right b c t₃) in
    let q : eqb (byte_of idx sum cache flags size / 128 % 2) 1 ≡ idx = rw q₁ (bit_is idx) in
    let r : eqb (byte_of idx sum cache flags size / 64 % 2) 1 ≡ sum = rw r₁ (bit_is sum) in
    λ i. record { size = p i; has_idx = q i; has_crc = r i; has-list = true }

links-ok : (i n : ℕ) (cs : List Cell) → ((k : ℕ) → k < length cs → (r : ℕ) → Mem r (at cs k).refs → (i + k < r) × (r < n)) → links i n cs ≡ Ok tt
links-ok i n [] h = refl
links-ok i n (c ∷ cs) h =
    let f : (r : ℕ) → Mem r c.refs → (i < r) × (r < n) = λ r m. let g = h 0 (omega arith) r m in (omega arith, g.1) in
    let t : (k : ℕ) → k < length cs → (r : ℕ) → Mem r (at cs k).refs → (suc i + k < r) × (r < n) = λ k l r m. let g = h (suc k) (omega arith) r m in (omega arith, g.1) in
    rw (links-ok (suc i) n cs t) (refs-ok i n c.refs f)

roots-ok : (k n : ℕ) (rs : List ℕ) → ((r : ℕ) → Mem r rs → r < n) → roots_ok k n rs ≡ Ok tt
roots-ok k n [] h = refl
roots-ok k n (r ∷ rs) h = rw (lt-ltb r n (h r (here refl))) (roots-ok (suc k) n rs (λ x m. h x (there m)))

-- the checksum of a text up to place p
sum_back : {b : List ℕ} (has : Bool) (p : ℕ) (w l : List ℕ) → At b p (cond has (le 4 (crc_of w)) [] ++ l) → take p b ≡ w → checksum has b p ≡ Ok (p + length (cond has (le 4 (crc_of w)) []))
unfolding checksum
sum_back false p w l A e = ap Ok (omega arith)
sum_back {b} true p w l A e =
    let c = crc_of w in
    let f₁ = at-chunk (le 4 c) l 4 A (length-le 4 c) in
    let f₂ = eq-eqb (unle (le 4 c)) c (unle-le 4 c (crc_small w)) in
    let n : p + 4 ≡ p + length (le 4 c) = rw (length-le 4 c) in
    rw (f₁, e, f₂) (ap Ok n)

header-back : {b : List ℕ} (scratch room : ℕ) (h : Head) (n : ℕ) (l : List ℕ)
    → At b 0 (be 4 generic_tag ++ (byte4 h ∷ h.off ∷ (be h.size n ++ (be h.size (length h.roots) ++ (be h.size h.absent ++ (be h.off h.total ++ l))))))
    → h.size ≤ 4 → h.off ≤ 8 → h.flags ≤ 3 → n < 256 ^ h.size → h.total < 256 ^ h.off → length h.roots + h.absent ≤ n → n ≤ max_cells → read_scratch n ≤ scratch
    → length h.roots ≤ room
    → (header scratch room b ≡ Ok (record {
      shape = record { size = h.size; has_idx = h.has_idx; has_crc = h.has_crc; has-list = true };
      off = h.off;
      cells = n;
      roots = length h.roots;
      next = 6 + 3 * h.size + h.off;
    })) × At b (6 + 3 * h.size + h.off) l
unfolding header tag_ok field byte4
header-back {b} scratch room h n l A hz ho hf hc ht hn hm hx hr =
    let flags = byte4 h in
    let size = h.size in
    let off = h.off in
    let k = length h.roots in
    let l₄ = be off h.total ++ l in
    let l₃ = be size h.absent ++ l₄ in
    let l₂ = be size k ++ l₃ in
    let l₁ = be size n ++ l₂ in
    let A₁ = at_next (0xb5 ∷ 0xee ∷ 0x9c ∷ 0x72 ∷ []) (flags ∷ off ∷ l₁) 4 A refl in
    let A₂ = at_next (flags ∷ []) (off ∷ l₁) 1 A₁ refl in
    let A₃ = at_next (off ∷ []) l₁ 1 A₂ refl in
    let A₄ = at_next (be size n) l₂ size A₃ (length-be size n) in
    let A₅ = at_move (6 + 2 * size) (at_next (be size k) l₃ size A₄ (length-be size k)) (omega arith) in
    let A₆ = at_move (6 + 3 * size) (at_next (be size h.absent) l₄ size A₅ (length-be size h.absent)) (omega arith) in
    let f₀ : field b 0 4 ≡ Ok 0xb5ee9c72 = rw (at-chunk (0xb5 ∷ 0xee ∷ 0x9c ∷ 0x72 ∷ []) (flags ∷ off ∷ l₁) 4 A refl) in
    let f₁ : field b 4 1 ≡ Ok flags = field-byte flags (off ∷ l₁) A₁ in
    let m = layout-back h.has_idx h.has_crc h.has_cache h.flags size hf hz in
    let f₂ : field b 5 1 ≡ Ok off = field-byte off l₁ A₂ in
    let f₃ : field b 6 size ≡ Ok n = field-be size n l₂ A₃ hc in
    let f₄ : field b (6 + size) size ≡ Ok k = field-be size k l₃ A₄ (omega arith) in
    let f₅ : field b (6 + 2 * size) size ≡ Ok h.absent = field-be size h.absent l₄ A₅ (omega arith) in
    let f₆ : field b (6 + 3 * size) off ≡ Ok h.total = field-be off h.total l A₆ ht in (
      rw (f₀, f₁, m, le-leb size 4 hz, f₂, le-leb off 8 ho, f₃, f₄, f₅, le-leb (k + h.absent) n hn, le-leb n 4096 hm, le-leb (2 * n) scratch hx, le-leb k room hr, f₆),
      at_next (be off h.total) l off A₆ (length-be off h.total),
    )

mem-cells : (cs : List RawCell) (c : RawCell) → Mem c cs → (i : ℕ) × (i < length cs) × ((at (map cell_of cs) i).refs ≡ c.refs)
unfolding cell_of
mem-cells [] c x' = elim x' [ ]
mem-cells (d ∷ ds) c (here e) = (0, omega arith, ap (λ (x : RawCell). x.refs) (sym e))
mem-cells (d ∷ ds) c (there m) = let r = mem-cells ds c m in let h = r.1 in (suc r.0, omega arith, r.2)

whole-ok : (whole : Bool) (n end : ℕ) → (whole ≡ true → n ≤ end) → (not whole || leb n end) ≡ true
whole-ok false n end h = refl
whole-ok true n end h = le-leb n end (h refl)

-- the bag at the start of bytes that hold its text
abbrev sum_text : Head → List RawCell → List ℕ
sum_text h cs = cond h.has_crc (le 4 (crc_of (unsigned h cs))) []

abbrev cells_at : Head → List RawCell → ℕ
cells_at h cs = 6 + 3 * h.size + h.off + length h.roots * h.size + cond h.has_idx (length cs) 0 * h.off

module _ (b : List ℕ) (whole : Bool) (scratch room : ℕ) (h : Head) (cs : List RawCell) (Q : Admissible scratch room h cs) (rest : List ℕ) where
  bag-core : (whole ≡ true → rest ≡ []) → take (cells_at h cs + length (cells_text h.size cs)) b ≡ unsigned h cs → length b ≡ cells_at h cs + length (cells_text h.size cs) + length (sum_text h cs) + length rest
      → At b 0 (be 4 generic_tag ++ (byte4 h ∷ h.off ∷ (be h.size (length cs) ++ (be h.size (length h.roots) ++ (be h.size h.absent ++ (be h.off h.total
      ++ (all_be h.size h.roots ++ (all_be h.off h.index ++ (cells_text h.size cs ++ (sum_text h cs ++ rest))))))))))
      → bag whole scratch room b ≡ Ok (record { used = cells_at h cs + length (cells_text h.size cs) + length (sum_text h cs); cells = map cell_of cs; roots = h.roots })
  unfolding bag root_list index numbers
  bag-core W T N A =
      let size = h.size in
      let off = h.off in
      let d = cells_text size cs in
      let l₃ = sum_text h cs ++ rest in
      let l₂ = d ++ l₃ in
      let l₁ = all_be off h.index ++ l₂ in
      let k = cond h.has_idx (length cs) 0 in
      let H = header-back scratch room h (length cs) (all_be size h.roots ++ l₁) A Q.size Q.off Q.flags Q.count Q.total Q.counts Q.cells Q.scratch-lent Q.roots-lent in
      let p₁ = 6 + 3 * size + off in
      let n₁ = length-refs size h.roots in
      let n₂ : length (all_be off h.index) ≡ k * off = length-refs off h.index ∙ rw Q.index in
      let f₁ = refs-back size h.roots l₁ H.1 (λ r m. omega (arith, Q.inside r m, Q.count)) in
      let A₁ = at_next (all_be size h.roots) l₁ (length h.roots * size) H.1 n₁ in
      let f₂ : fields b off k (p₁ + length h.roots * size) ≡ Ok h.index = rw (← Q.index) (refs-back off h.index l₂ A₁ Q.entries) in
      let A₂ = at_next (all_be off h.index) l₂ (k * off) A₁ n₂ in
      let R : (c : RawCell) → Mem c cs → (r : ℕ) → Mem r c.refs → r < 256 ^ size = λ c m r j.
      let t = mem-cells cs c m in
      let g = Q.links t.0 t.1 r (rw t.2 j) in
      omega (arith, Q.count) in
      let f₃ = cells-back size cs l₃ Q.each R A₂ in
      let A₃ = at_next d l₃ (length d) A₂ refl in
      let f₄ = sum_back h.has_crc (cells_at h cs + length d) (unsigned h cs) rest A₃ T in
      let f₅ = whole-ok whole (length b) (cells_at h cs + length d + length (sum_text h cs)) (λ w. let z = ap length (W w) in omega arith) in
      let j : length (map cell_of cs) ≡ length cs = length-map cs cell_of in
      let f₆ = links-ok 0 (length cs) (map cell_of cs) (λ i g r m. let q = Q.links i (omega arith) r m in (omega arith, q.1)) in
      let f₇ = roots-ok 0 (length cs) h.roots Q.inside in
      rw (H.0, f₁, f₂, f₃, f₄, f₅, f₆, f₇)

-- the length of all before the checksum
length-unsigned : (h : Head) (cs : List RawCell) → length h.index ≡ cond h.has_idx (length cs) 0 → length (unsigned h cs) ≡ cells_at h cs + length (cells_text h.size cs)
unfolding unsigned
length-unsigned h cs e =
    let size = h.size in
    let off = h.off in
    let d = cells_text size cs in
    let l₆ = all_be off h.index ++ d in
    let l₅ = all_be size h.roots ++ l₆ in
    let l₄ = be off h.total ++ l₅ in
    let l₃ = be size h.absent ++ l₄ in
    let l₂ = be size (length h.roots) ++ l₃ in
    let n : length (all_be off h.index) ≡ cond h.has_idx (length cs) 0 * off = length-refs off h.index ∙ rw e in
    omega (
      arith,
      length-append (be size (length cs)) l₂,
      length-append (be size (length h.roots)) l₃,
      length-append (be size h.absent) l₄,
      length-append (be off h.total) l₅,
      length-append (all_be size h.roots) l₆,
      length-append (all_be off h.index) d,
      length-be size (length cs),
      length-be size (length h.roots),
      length-be size h.absent,
      length-be off h.total,
      length-refs size h.roots,
    )

pub accepted : (whole : Bool) (scratch room : ℕ) (h : Head) (cs : List RawCell) (rest : List ℕ) → Admissible scratch room h cs → (whole ≡ true → rest ≡ [])
    → bag whole scratch room (serialized h cs ++ rest) ≡ Ok (bag_of h cs)
unfolding serialized bag_of unsigned
accepted whole scratch room h cs rest Q W =
    let n = length-unsigned h cs Q.index in
    let u = unsigned h cs in
    let t = sum_text h cs in
    let b = (u ++ t) ++ rest in
    let T : take (cells_at h cs + length (cells_text h.size cs)) b ≡ u = rw (append_assoc u t rest) (take_at u (t ++ rest) (cells_at h cs + length (cells_text h.size cs)) n) in
    let N : length b ≡ cells_at h cs + length (cells_text h.size cs) + length t + length rest = omega (arith, length-append (u ++ t) rest, length-append u t) in
    let used : length (u ++ t) ≡ cells_at h cs + length (cells_text h.size cs) + length t = omega (arith, length-append u t) in
    rw used (bag-core b whole scratch room h cs Q rest W T N (at_same _ (at-start b) (simp append_assoc)))
