-- A written bag reads back: header, index, cells, checksum, links, and the cells that it names.
-- Assumes nothing.
use Rattle.std.specs.Prelude.{◌≡◌, refl, ℕ, suc, ◌+◌, ◌-◌, ◌*◌, ◌/◌, ◌%◌, ◌^◌, ◌≤◌, ◌<◌, Bool, true, false, cond, not, ◌||◌, length, take, get_or, eqb, leb, Ok}
use Rattle.std.proofs.Common.{sym, ap, ◌∙◌, mul-le-mul, arith, length-append, length-drop, le-leb, lt-ltb, eq-eqb}
use mathlib.Core.List.Memᴰ.{head as here}
use mathlib.Core.List.Memᴰ.{tail as there}
use mathlib.Core.List.{List, [], ◌∷◌, ◌++◌, map, append_assoc, append-nil, Memᴰ as Mem}
use Rattle.std.proofs.lemmas.List.{length-map}
use Rattle.std.proofs.Math.Seq.{take-append_seam}
use Rattle.scheme.specs.Cells.{Cell}
use Rattle.scheme.specs.Bag.{load, header, raw_cells, refs_ok, links, checksum, read, Got, numbers, root_list, index, bag}
use Rattle.laws.specs.Meaning.{Linked}
use Rattle.scheme.specs.Bytes.{be, le, unle, width, field, fields}
use Rattle.laws.specs.Fields.{At, at-start, at_move, at_same, at_next, at-chunk, at-end, field-be, field-byte, fields-any, length-be, unle-le, width-holds, width-le, width-most}
use Rattle.scheme.specs.Layout.{Layout, layout, tag_ok, generic_tag}
use Rattle.scheme.specs.Bits.{bit_of}
use Rattle.scheme.specs.Crc.{crc_of}
use Rattle.scheme.specs.Write.{all_be, cell_bytes, all_bytes, body, bag_bytes, Leveled, entries}
use Rattle.laws.specs.CellRound.{Fit, past_path, cell-back, length-cell, length-refs}

-- cells without their levels
abbrev pub plain : List Leveled → List Cell
plain vs = map (λ (v : Leveled). v.cell) vs

-- what is written of a cell: fit, and a level of three bits
abbrev pub Written : Leveled → Type 0
Written v = Fit v.cell × (v.level ≤ 7)

pub cells-back : {b : List ℕ} (size : ℕ) {p : ℕ} (vs : List Leveled) (l : List ℕ) → ((v : Leveled) → Mem v vs → Written v) → ((v : Leveled) → Mem v vs → (r : ℕ) → Mem r v.cell.refs → r < 256 ^ size)
    → At b p (all_bytes size vs ++ l) → raw_cells b size (length vs) p ≡ Ok (record { it = plain vs; next = p + length (all_bytes size vs) })
cells-back size {p} [] l F R A = ap Ok (past_path _ _ refl (omega arith))
cells-back size {p} (v ∷ vs) l F R A =
    let A₁ = at_same (cell_bytes size v ++ (all_bytes size vs ++ l)) A (append_assoc (cell_bytes size v) (all_bytes size vs) l) in
    let ih = cells-back size {p = p + length (cell_bytes size v)} vs l (λ d m. F d (there m)) (λ d m. R d (there m)) (at_next (cell_bytes size v) (all_bytes size vs ++ l) (length (cell_bytes size v)) A₁ refl) in
    let next : p + length (cell_bytes size v) + length (all_bytes size vs) ≡ p + length (all_bytes size (v ∷ vs)) = omega (arith, length-append (cell_bytes size v) (all_bytes size vs)) in
    rw (cell-back size v (all_bytes size vs ++ l) (F v (here refl)).0 (F v (here refl)).1 (R v (here refl)) A₁, ih) (ap Ok (past_path _ _ refl next))

pub length-all : (size : ℕ) (vs : List Leveled) → size ≤ 4 → ((v : Leveled) → Mem v vs → Written v) → length (all_bytes size vs) ≤ 146 * length vs
length-all size [] h F = omega arith
length-all size (v ∷ vs) h F =
    let G = (F v (here refl)).0 in
    omega (arith, length-append (cell_bytes size v) (all_bytes size vs), length-cell size v G, mul-le-mul G.arity h, G.few, length-all size vs h (λ d m. F d (there m)))

length-entries : (size p : ℕ) (vs : List Leveled) → length (entries size p vs) ≡ length vs
length-entries size p [] = refl
length-entries size p (v ∷ vs) = ap suc (length-entries size (p + length (cell_bytes size v)) vs)

pub refs-ok : (i n : ℕ) (rs : List ℕ) → ((r : ℕ) → Mem r rs → (i < r) × (r < n)) → refs_ok i n rs ≡ Ok tt
refs-ok i n [] h = refl
refs-ok i n (r ∷ rs) h = rw (lt-ltb i r (h r (here refl)).0, lt-ltb r n (h r (here refl)).1) (refs-ok i n rs (λ x m. h x (there m)))

links-ok : (i n : ℕ) (cs : List Cell) → Linked i cs → n ≡ i + length cs → links i n cs ≡ Ok tt
links-ok i n [] L e = refl
links-ok i n (c ∷ cs) L e =
    let f : (r : ℕ) → Mem r c.refs → (i < r) × (r < n) = λ r m. let g = L.0 r m in omega arith in
    rw (links-ok (suc i) n cs L.1 (omega arith)) (refs-ok i n c.refs f)

-- the two option bits of the flags
abbrev flags_of : Bool → Bool → ℕ → ℕ
flags_of idx sum size = 128 * bit_of idx + 64 * bit_of sum + size

idx_bit : (idx sum : Bool) (size : ℕ) → size ≤ 4 → eqb (flags_of idx sum size / 128 % 2) 1 ≡ idx
idx_bit true true size h = let q : (128 * 1 + 64 * 1 + size) / 128 ≡ 1 = omega arith in rw q
idx_bit true false size h = let q : (128 * 1 + 64 * 0 + size) / 128 ≡ 1 = omega arith in rw q
idx_bit false true size h = let q : (128 * 0 + 64 * 1 + size) / 128 ≡ 0 = omega arith in rw q
idx_bit false false size h = let q : (128 * 0 + 64 * 0 + size) / 128 ≡ 0 = omega arith in rw q

sum_bit : (idx sum : Bool) (size : ℕ) → size ≤ 4 → eqb (flags_of idx sum size / 64 % 2) 1 ≡ sum
sum_bit true true size h = let q : (128 * 1 + 64 * 1 + size) / 64 ≡ 3 = omega arith in rw q
sum_bit true false size h = let q : (128 * 1 + 64 * 0 + size) / 64 ≡ 2 = omega arith in rw q
sum_bit false true size h = let q : (128 * 0 + 64 * 1 + size) / 64 ≡ 1 = omega arith in rw q
sum_bit false false size h = let q : (128 * 0 + 64 * 0 + size) / 64 ≡ 0 = omega arith in rw q

size-bits : (idx sum : Bool) (size : ℕ) → size ≤ 4 → flags_of idx sum size % 8 ≡ size
size-bits true true size h = omega arith
size-bits true false size h = omega arith
size-bits false true size h = omega arith
size-bits false false size h = omega arith

abbrev shape_of : Bool → Bool → ℕ → Layout
shape_of idx sum size = record { size = size; has_idx = idx; has_crc = sum; has-list = true }

layout-back : (idx sum : Bool) (size : ℕ) → size ≤ 4 → layout generic_tag (flags_of idx sum size) ≡ shape_of idx sum size
unfolding layout
layout-back idx sum size h = λ i. record { size = size-bits idx sum size h i; has_idx = idx_bit idx sum size h i; has_crc = sum_bit idx sum size h i; has-list = true }

header-back : {b : List ℕ} (scratch room : ℕ) (idx sum : Bool) (size off n total : ℕ) (l : List ℕ)
    → At b 0 (be 4 generic_tag ++ (flags_of idx sum size ∷ off ∷ (be size n ++ (be size 1 ++ (be size 0 ++ (be off total ++ l))))))
    → size ≤ 4 → off ≤ 8 → 1 ≤ n → n ≤ 4096 → n < 256 ^ size → total < 256 ^ off → 2 * n ≤ scratch → 1 ≤ room
    → (header scratch room b ≡ Ok (record { shape = shape_of idx sum size; off = off; cells = n; roots = 1; next = 6 + 3 * size + off })) × At b (6 + 3 * size + off) l
unfolding header tag_ok field
header-back {b} scratch room idx sum size off n total l A hz ho hn hm hc ht hx hr =
    let flags = flags_of idx sum size in
    let l₄ = be off total ++ l in
    let l₃ = be size 0 ++ l₄ in
    let l₂ = be size 1 ++ l₃ in
    let l₁ = be size n ++ l₂ in
    let A₁ = at_next (0xb5 ∷ 0xee ∷ 0x9c ∷ 0x72 ∷ []) (flags ∷ off ∷ l₁) 4 A refl in
    let A₂ = at_next (flags ∷ []) (off ∷ l₁) 1 A₁ refl in
    let A₃ = at_next (off ∷ []) l₁ 1 A₂ refl in
    let A₄ = at_next (be size n) l₂ size A₃ (length-be size n) in
    let A₅ = at_move (6 + 2 * size) (at_next (be size 1) l₃ size A₄ (length-be size 1)) (omega arith) in
    let A₆ = at_move (6 + 3 * size) (at_next (be size 0) l₄ size A₅ (length-be size 0)) (omega arith) in
    let f₀ : field b 0 4 ≡ Ok 0xb5ee9c72 = rw (at-chunk (0xb5 ∷ 0xee ∷ 0x9c ∷ 0x72 ∷ []) (flags ∷ off ∷ l₁) 4 A refl) in
    let f₁ : field b 4 1 ≡ Ok flags = field-byte flags (off ∷ l₁) A₁ in
    let m = layout-back idx sum size hz in
    let f₂ : field b 5 1 ≡ Ok off = field-byte off l₁ A₂ in
    let f₃ : field b 6 size ≡ Ok n = field-be size n l₂ A₃ hc in
    let f₄ : field b (6 + size) size ≡ Ok 1 = field-be size 1 l₃ A₄ (omega arith) in
    let f₅ : field b (6 + 2 * size) size ≡ Ok 0 = field-be size 0 l₄ A₅ (omega arith) in
    let f₆ : field b (6 + 3 * size) off ≡ Ok total = field-be off total l A₆ ht in
    let whole : header scratch room b ≡ Ok (record { shape = shape_of idx sum size; off = off; cells = n; roots = 1; next = 6 + 3 * size + off }) = rw (f₀, f₁, m, le-leb size 4 hz, f₂, le-leb off 8 ho, f₃, f₄, f₅, le-leb (1 + 0) n hn, le-leb n 4096 hm, le-leb (2 * n) scratch hx, le-leb 1 room hr, f₆) in
    (whole, at_next (be off total) l off A₆ (length-be off total))

checksum-back : {b : List ℕ} (sum : Bool) (p : ℕ) (t : List ℕ) → ((x : List ℕ) → crc_of x < 256 ^ 4) → At b p t → t ≡ cond sum (le 4 (crc_of (take p b))) [] → checksum sum b p ≡ Ok (length b)
unfolding checksum
checksum-back false p t C A e = ap Ok (at-end (at_same [] A e))
checksum-back {b} true p t C A e =
    let c = crc_of (take p b) in
    let A₁ = at_same (le 4 c ++ []) A (e ∙ sym (append-nil (le 4 c))) in
    let f₁ = at-chunk (le 4 c) [] 4 A₁ refl in
    let f₂ = eq-eqb (unle (le 4 c)) c (unle-le 4 c (C (take p b))) in
    rw (f₁, f₂) (ap Ok (at-end (at_next (le 4 c) [] 4 A₁ refl)))

linked-mem : (i : ℕ) (cs : List Cell) → Linked i cs → (c : Cell) → Mem c cs → (r : ℕ) → Mem r c.refs → r < i + length cs
linked-mem i [] L c x3 r m = elim x3 [ ]
linked-mem i (d ∷ ds) L c (here e) r m = let g = (L.0 r (rw e at m)).1 in omega arith
linked-mem i (d ∷ ds) L c (there n) r m = omega (arith, linked-mem (suc i) ds L.1 c n r m)

whole-fits : (whole : Bool) (n : ℕ) → (not whole || leb n n) ≡ true
whole-fits false n = refl
whole-fits true n = le-leb n n (omega arith)

-- what a read of the cells cs answers
abbrev pub answer : List Cell → List Cell → ℕ → Got
answer s cs used = record {
  counts = record { used = used; cells = length cs; roots = 1; added = length (load s 0 cs).store - length s };
  names = get_or (load s 0 cs).nums 0 0 ∷ [];
  store = (load s 0 cs).store;
}

-- the limits that a reader and its caller set, and that the cells keep to
pub record Fits (scratch room cap : ℕ) (s : List Cell) (vs : List Leveled) : Type 0 where
  pub some : 1 ≤ length vs
  pub most : length vs ≤ 4096
  pub scratch-room : 2 * length vs ≤ scratch
  pub root-room : 1 ≤ room
  pub fit : (v : Leveled) → Mem v vs → Written v
  pub linked : Linked 0 (plain vs)
  pub free : length (load s 0 (plain vs)).store ≤ cap

mem-plain : (vs : List Leveled) (v : Leveled) → Mem v vs → Mem v.cell (plain vs)
mem-plain [] v x' = elim x' [ ]
mem-plain (w ∷ ws) v (here e) = here (ap (λ (x : Leveled). x.cell) e)
mem-plain (w ∷ ws) v (there m) = there (mem-plain ws v m)

length_ix : (idx : Bool) (n off : ℕ) (es : List ℕ) → length es ≡ n → length (cond idx (all_be off es) []) ≡ cond idx n 0 * off
length_ix false n off es e = omega arith
length_ix true n off es e = length-refs off es ∙ rw e

-- bytes in the layout of a bag, with whatever index and checksum
bag-core : ((x : List ℕ) → crc_of x < 256 ^ 4) → (whole : Bool) (scratch room cap : ℕ) (idx sum : Bool) (s : List Cell) (vs : List Leveled) → Fits scratch room cap s vs
    → (b : List ℕ) (size off : ℕ) (ix t : List ℕ) → size ≤ 4 → off ≤ 8 → length vs < 256 ^ size → length (all_bytes size vs) < 256 ^ off
    → length ix ≡ cond idx (length vs) 0 * off → ((p : ℕ) → At b p t → t ≡ cond sum (le 4 (crc_of (take p b))) [])
    → At b 0 (be 4 generic_tag ++ (flags_of idx sum size ∷ off ∷ (be size (length vs) ++ (be size 1 ++ (be size 0 ++ (be off (length (all_bytes size vs)) ++ (be size 0 ++ (ix ++ (all_bytes size vs ++ t)))))))))
    → read whole scratch room cap s b ≡ Ok (answer s (plain vs) (length b))
unfolding read bag root_list index numbers
bag-core C whole scratch room cap idx sum s vs Q b size off ix t hz ho hc ht hix T A =
    let d = all_bytes size vs in
    let n : length (plain vs) ≡ length vs = length-map vs (λ (v : Leveled). v.cell) in
    let k = cond idx (length vs) 0 in
    let H = header-back scratch room idx sum size off (length vs) (length d) (be size 0 ++ (ix ++ (d ++ t))) A hz ho Q.some Q.most hc ht Q.scratch-room Q.root-room in
    let p₁ = 6 + 3 * size + off in
    let f₁ : fields b size 1 p₁ ≡ Ok (0 ∷ []) = rw (field-be size 0 (ix ++ (d ++ t)) H.1 (omega arith)) in
    let A₁ = at_move (p₁ + 1 * size) (at_next (be size 0) (ix ++ (d ++ t)) size H.1 (length-be size 0)) (omega arith) in
    let f₂ = fields-any off k ix (d ++ t) A₁ hix in
    let A₂ = at_next ix (d ++ t) (k * off) A₁ hix in
    let R : (v : Leveled) → Mem v vs → (r : ℕ) → Mem r v.cell.refs → r < 256 ^ size = λ v m r j. let g = linked-mem 0 (plain vs) Q.linked v.cell (mem-plain vs v m) r j in omega (arith, n) in
    let f₃ = cells-back size vs t Q.fit R A₂ in
    let A₃ = at_next d t (length d) A₂ refl in
    let f₄ = checksum-back sum (p₁ + 1 * size + k * off + length d) t C A₃ (T (p₁ + 1 * size + k * off + length d) A₃) in
    let f₅ = whole-fits whole (length b) in
    let f₆ = links-ok 0 (length vs) (plain vs) Q.linked (omega (arith, n)) in
    let f₇ = lt-ltb 0 (length vs) Q.some in
    let f₈ = le-leb (length (load s 0 (plain vs)).store) cap Q.free in
    rw (H.0, f₁, f₂.1, f₃, f₄, f₅, f₆, f₇, f₈)

-- a bag of these cells is read whole
pub bag-back : ((x : List ℕ) → crc_of x < 256 ^ 4) → (whole : Bool) (scratch room cap : ℕ) (idx sum : Bool) (s : List Cell) (vs : List Leveled) → Fits scratch room cap s vs
    → read whole scratch room cap s (bag_bytes idx sum vs) ≡ Ok (answer s (plain vs) (length (bag_bytes idx sum vs)))
unfolding bag_bytes body
bag-back C whole scratch room cap idx sum s vs Q =
    let size = width 8 (length vs) in
    let d = all_bytes size vs in
    let off = width 8 (length d) in
    let hz : size ≤ 2 = width-le 8 2 (length vs) (omega (arith, Q.most)) in
    let front = body idx sum vs in
    bag-core C whole scratch room cap idx sum s vs Q (bag_bytes idx sum vs) size off (cond idx (all_be off (entries size 0 vs)) []) (cond sum (le 4 (crc_of front)) [])
    (omega arith) (width-most 8 (length d)) (width-holds 8 (length vs) (omega (arith, Q.most))) (width-holds 8 (length d) (omega (arith, Q.most, length-all size vs (omega arith) Q.fit)))
    (length_ix idx (length vs) off (entries size 0 vs) (length-entries size 0 vs)) (λ p A. tail front (cond sum (le 4 (crc_of front)) []) p A) (at_same _ (at-start (bag_bytes idx sum vs)) (simp append_assoc))
  where
    tail : (front t : List ℕ) (p : ℕ) → At (front ++ t) p t → cond sum (le 4 (crc_of front)) [] ≡ cond sum (le 4 (crc_of (take p (front ++ t)))) []
    tail front t p A =
        let e : p ≡ length front = omega (arith, length-drop p (front ++ t), ap length A.rest, length-append front t, A.within) in
        rw (e, take-append_seam front t)
