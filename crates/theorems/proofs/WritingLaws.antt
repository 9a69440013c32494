-- The bytes that are written of a listing.
-- Assumes nothing.
use Rattle.std.specs.Prelude.{◌≡◌, refl, ◌≢◌, ℕ, zero, suc, ◌+◌, ◌-◌, ◌*◌, ◌/◌, ◌%◌, ◌^◌, ◌≤◌, ◌<◌, Bool, true, false, cond, not, ◌||◌, ◌&&◌, length, get_or, eqb, ltb, Ok}
use Rattle.std.proofs.Common.{sym, ap, ◌∙◌, not-suc-le-zero, le_of_suc-le-suc, arith, length-append, eqb-true, eq-eqb, ltb-true}
use mathlib.Core.List.Memᴰ
use mathlib.Core.List.Memᴰ.{head as here}
use mathlib.Core.List.Memᴰ.{tail as there}
use mathlib.Core.List.{List, [], ◌∷◌, ◌++◌, map, append-nil, Memᴰ as Mem}
use Rattle.std.proofs.lemmas.List.{length-map}
use Rattle.std.proofs.lemmas.Bool.{eqb-false, not-true}
use Rattle.laws.specs.Tests.{and_left, and_right}
use Rattle.scheme.specs.Cells.{Cell, at, unfolded, tree, with}
use Rattle.scheme.specs.Bytes.{be, le, width}
use Rattle.scheme.specs.Bits.{bit_of, bytes_for, mark, last_of}
use Rattle.scheme.specs.Res.{Res}
use Rattle.scheme.specs.Bag.{Past, raw_cell}
use Rattle.scheme.specs.Crc.{crc_of}
use Rattle.scheme.specs.Layout.{generic_tag}
use Rattle.scheme.specs.Write.{place_of, bag_cell, Leveled, leveled, bag_cells, padded, all_be, cell_bytes, all_bytes, entries, body, bag_bytes}
use Rattle.laws.specs.Reach.{via, Listing, reach-held}
use Rattle.laws.specs.Round.{plain_cells, index_at}
use Rattle.laws.specs.Unique.{Low}
use Rattle.laws.specs.Lists.{mem-map, mem-at}
use Rattle.laws.specs.Meaning.{forest-map, low-levels, linked-levels}
use Rattle.laws.specs.Fields.{At, at-start, at_same, width-holds, width-le, width-most}
use Rattle.laws.specs.WrittenBack.{index-lt, bag-linked}
use Rattle.laws.specs.CellLaws.{cell_path}
use Rattle.laws.specs.BagRound.{length-all, Written}
use Rattle.laws.specs.CellRound.{cell-back as stored_back, Fit, length-padded, last-mark, all_below, all_below-true, last_mem}
use Rattle.laws.specs.Accept.{Small}
use Rattle.theorems.specs.Grammar.{Admissible, RawCell, RawCellOk, cell_of, refs_descriptor, bits_descriptor, cell_text, cells_text, Head, byte4, unsigned, serialized}
use Rattle.theorems.proofs.GrammarBack.{cell-back}
use Rattle.theorems.specs.Written.{raw_of, listed, starts, head_for}

-- ---- the bytes

-- d2 of a stored cell
d2-is : (c : Cell) → Fit c → bits_descriptor (raw_of c) ≡ c.len / 8 + bytes_for c.len
unfolding bits_descriptor raw_of
d2-is c F = rw (length-padded c F) (go (eqb (c.len % 8) 0) refl)
  where
    go : (b : Bool) → eqb (c.len % 8) 0 ≡ b → 2 * bytes_for c.len - bit_of (not b) ≡ c.len / 8 + bytes_for c.len
    go true e = let z = eqb-true (c.len % 8) 0 e in omega arith
    go false e = let z : c.len % 8 ≢ 0 = eqb-false (c.len % 8) 0 e in omega arith

pub cell-is : (size : ℕ) (c : Cell) → Fit c → cell_text size (raw_of c) ≡ cell_bytes size (record { level = 0; cell = c })
unfolding cell_text cell_bytes refs_descriptor raw_of
cell-is size c F =
    let a : length c.refs + 8 * c.exotic + 16 * 0 + 32 * 0 ≡ length c.refs + 8 * c.exotic + 32 * 0 = omega arith in
    λ i. a i ∷ d2-is c F i ∷ (padded c ++ all_be size c.refs)

abbrev pub raw_at : List Cell → List ℕ → ℕ → RawCell
raw_at s out n = raw_of (bag_cell s out n)

module _ (s : List Cell) (out : List ℕ) where
  cells_are : (size : ℕ) (l : List ℕ) → ((x : ℕ) → Mem x l → Fit (bag_cell s out x)) → cells_text size (map (raw_at s out) l) ≡ all_bytes size (map (leveled s out) l)
  cells_are size [] F = refl
  cells_are size (x ∷ xs) F = rw (cell-is size (bag_cell s out x) (F x (here refl)), cells_are size xs (λ y m. F y (there m)))

  starts-are : (size p : ℕ) (l : List ℕ) → ((x : ℕ) → Mem x l → Fit (bag_cell s out x)) → starts size p (map (raw_at s out) l) ≡ entries size p (map (leveled s out) l)
  starts-are size p [] F = refl
  starts-are size p (x ∷ xs) F =
      let e = cell-is size (bag_cell s out x) (F x (here refl)) in
      let n = ap length e in
      let ih = starts-are size (p + length (cell_bytes size (leveled s out x))) xs (λ y m. F y (there m)) in
      rw n (ap (λ (l : List ℕ). p ∷ l) ih)

cond-be : (idx : Bool) (off : ℕ) (es : List ℕ) → all_be off (cond idx es []) ≡ cond idx (all_be off es) []
cond-be true off es = refl
cond-be false off es = refl

-- the text of a header with one root, from its parts
one-root : (h : Head) (cs : List RawCell) (idx sum : Bool) (size off n whole : ℕ) (es d : List ℕ)
    → h.size ≡ size → h.off ≡ off → h.has_idx ≡ idx → h.has_crc ≡ sum → h.has_cache ≡ false → h.flags ≡ 0 → h.absent ≡ 0 → h.total ≡ whole → h.roots ≡ 0 ∷ []
    → h.index ≡ cond idx es [] → length cs ≡ n → cells_text size cs ≡ d
    → unsigned h cs ≡ be 4 generic_tag ++ ((128 * bit_of idx + 64 * bit_of sum + size) ∷ off ∷ (be size n ++ (be size 1 ++ (be size 0 ++ (be off whole
    ++ (be size 0 ++ (cond idx (all_be off es) [] ++ d)))))))
unfolding unsigned byte4
one-root h cs idx sum size off n whole es d e₁ e₂ e₃ e₄ e₅ e₆ e₇ e₈ e₉ e₁₀ e₁₁ e₁₂ =
    let f : 128 * bit_of idx + 64 * bit_of sum + 32 * 0 + 8 * 0 + size ≡ 128 * bit_of idx + 64 * bit_of sum + size = omega arith in
    rw (e₁, e₂, e₃, e₄, e₅, e₆, e₇, e₈, e₉, e₁₀, e₁₁, e₁₂, cond-be idx off es, append-nil (be size 0), f)

-- all but the checksum
body_is : (idx sum : Bool) (s : List Cell) (out : List ℕ) → ((x : ℕ) → Mem x out → Fit (bag_cell s out x))
    → unsigned (head_for idx sum (listed s out)) (listed s out) ≡ body idx sum (bag_cells s out)
unfolding head_for body
body_is idx sum s out F =
    let cs = listed s out in
    let vs = bag_cells s out in
    let n : length cs ≡ length vs = length-map out (raw_at s out) ∙ sym (length-map out (leveled s out)) in
    let p : width 8 (length cs) ≡ width 8 (length vs) = ap (width 8) n in
    let d : cells_text (width 8 (length vs)) cs ≡ all_bytes (width 8 (length vs)) vs = cells_are s out (width 8 (length vs)) out F in
    let q : cells_text (width 8 (length cs)) cs ≡ all_bytes (width 8 (length vs)) vs = ap (λ (z : ℕ). cells_text z cs) p ∙ d in
    let e : starts (width 8 (length cs)) 0 cs ≡ entries (width 8 (length vs)) 0 vs = ap (λ (z : ℕ). starts z 0 cs) p ∙ starts-are s out (width 8 (length vs)) 0 out F in
    one-root (head_for idx sum cs) cs idx sum (width 8 (length vs)) (width 8 (length (all_bytes (width 8 (length vs)) vs))) (length vs) (length (all_bytes (width 8 (length vs)) vs))
    (entries (width 8 (length vs)) 0 vs) (all_bytes (width 8 (length vs)) vs)
    p (ap (λ (l : List ℕ). width 8 (length l)) q) refl refl refl refl refl (ap (λ (l : List ℕ). length l) q) refl (ap (λ (l : List ℕ). cond idx l []) e) n d

pub text-is : (idx sum : Bool) (s : List Cell) (out : List ℕ) → ((x : ℕ) → Mem x out → Fit (bag_cell s out x))
    → serialized (head_for idx sum (listed s out)) (listed s out) ≡ bag_bytes idx sum (bag_cells s out)
unfolding serialized bag_bytes head_for
text-is idx sum s out F = ap (λ (l : List ℕ). l ++ cond sum (le 4 (crc_of l)) []) (body_is idx sum s out F)

-- ---- the cells

-- a last byte with the 1 behind its bits is a byte, and not 0
abbrev mark_test : ℕ → ℕ → Bool
mark_test x j = eqb j 0 || (not (eqb (x % 2 ^ (8 - j)) 0) || (ltb (x + 2 ^ (7 - j)) 256 && not (eqb (x + 2 ^ (7 - j)) 0)))

mark_tests : all_below 256 (λ x. all_below 8 (λ j. mark_test x j)) ≡ true
mark_tests = refl

mark_fact : (x j : ℕ) → x < 256 → j < 8 → eqb j 0 ≡ false → eqb (x % 2 ^ (8 - j)) 0 ≡ true → (x + 2 ^ (7 - j) < 256) × (eqb (x + 2 ^ (7 - j)) 0 ≡ false)
mark_fact x j hx hj p q =
    let t = all_below-true 8 (λ j. mark_test x j) (all_below-true 256 (λ x. all_below 8 (λ j. mark_test x j)) mark_tests x hx) j hj in
    let u : (ltb (x + 2 ^ (7 - j)) 256 && not (eqb (x + 2 ^ (7 - j)) 0)) ≡ true = rw (p, q) at t in
    (ltb-true _ _ (and_left (ltb (x + 2 ^ (7 - j)) 256) _ u), not-true _ (and_right (ltb (x + 2 ^ (7 - j)) 256) _ u))

mark-small : (m : ℕ) (l : List ℕ) → Small l → last_of l + m < 256 → Small (mark m l)
mark-small m [] S h x k = S x k
mark-small m (y ∷ []) S h x (here e) = rw e h
mark-small m (y ∷ []) S h x (there k) = elim k [ ]
mark-small m (y ∷ z ∷ zs) S h x (here e) = S x (here e)
mark-small m (y ∷ z ∷ zs) S h x (there k) = mark-small m (z ∷ zs) (λ u n. S u (there n)) h x k

module _ (c : Cell) (F : Fit c) where
  -- the last byte, where it is not full
  last_fact : eqb (c.len % 8) 0 ≡ false → (0 < length c.bytes) × (last_of c.bytes + 2 ^ (7 - c.len % 8) < 256) × (eqb (last_of c.bytes + 2 ^ (7 - c.len % 8)) 0 ≡ false)
  last_fact e =
      let z : c.len % 8 ≢ 0 = eqb-false (c.len % 8) 0 e in
      let some : 0 < length c.bytes = omega (arith, F.many) in
      let f = mark_fact (last_of c.bytes) (c.len % 8) (F.small (last_of c.bytes) (last_mem c.bytes some)) (omega arith) e (eq-eqb _ _ (F.clean z)) in
      (some, f.0, f.1)

  padded-small : Small (padded c)
  padded-small = go (eqb (c.len % 8) 0) refl
    where
      go : (b : Bool) → eqb (c.len % 8) 0 ≡ b → Small (cond b c.bytes (mark (2 ^ (7 - c.len % 8)) c.bytes))
      go true e = F.small
      go false e = mark-small (2 ^ (7 - c.len % 8)) c.bytes F.small (last_fact e).1

  padded-last : not (eqb (c.len % 8) 0) ≡ true → last_of (padded c) ≡ 0 → ⊥
  padded-last o =
      let e = not-true (eqb (c.len % 8) 0) o in
      let f = last_fact e in
      rw (e, last-mark (2 ^ (7 - c.len % 8)) c.bytes f.0) (eqb-false _ 0 f.2)

  pub raw-fine : RawCellOk (raw_of c)
  unfolding raw_of
  raw-fine = record {
    exotic = F.flag;
    level = omega arith;
    hashes = refl;
    hash_bytes = λ x m. elim m [ ];
    data_bytes = padded-small;
    short = rw (d2-is c F) (omega (arith, F.few));
    some = padded-last;
    refs = F.arity;
  }

-- a stored cell written and read is the cell
fit-with : (b : Cell) (rs : List ℕ) → length rs ≤ 4 → Fit b → Fit (with b rs)
fit-with b rs e F = record { flag = F.flag; few = F.few; many = F.many; small = F.small; clean = F.clean; arity = e }

same-it : (r : Res (Past Cell)) (a b : Past Cell) → r ≡ Ok a → r ≡ Ok b → a.it ≡ b.it
same-it r a b p q = let e : a ≡ b = cc in ap (λ (x : Past Cell). x.it) e

alone : (c : Cell) → Fit c → c.refs ≡ [] → cell_of (raw_of c) ≡ c
unfolding raw_of
alone c F e =
    let v : Leveled = record { level = 0; cell = c } in
    let b = cell_bytes 0 v ++ [] in
    let R : (r : ℕ) → Mem r c.refs → r < 256 ^ 0 = λ r m. absurd (Memᴰ.not-nil (rw e at m)) in
    let x = stored_back 0 v [] F (omega arith) R (at-start b) in
    let A : At b 0 (cell_text 0 (raw_of c) ++ []) = at_same (cell_text 0 (raw_of c) ++ []) (at-start b) (ap (λ (l : List ℕ). l ++ []) (sym (cell-is 0 c F))) in
    let y = cell-back 0 (raw_of c) [] (raw-fine c F) (raw-refs R) A in
    same-it (raw_cell b 0 0) _ _ y x
  where
    raw-refs : ((r : ℕ) → Mem r c.refs → r < 256 ^ 0) → (r : ℕ) → Mem r (raw_of c).refs → r < 256 ^ 0
    raw-refs R = R

pub cell-again : (c : Cell) → Fit c → cell_of (raw_of c) ≡ c
unfolding cell_of raw_of
cell-again c F =
    let e = alone (with c []) (fit-with c [] (omega arith) F) refl in
    cell_path _ c refl (ap (λ (d : Cell). d.len) e) (ap (λ (d : Cell). d.bytes) e) refl

-- ---- the listed cells

pub cells-again : (s : List Cell) (out l : List ℕ) → ((x : ℕ) → Mem x l → Fit (bag_cell s out x)) → map cell_of (map (raw_at s out) l) ≡ map (bag_cell s out) l
cells-again s out [] F = refl
cells-again s out (x ∷ xs) F = rw (cell-again (bag_cell s out x) (F x (here refl)), cells-again s out xs (λ y m. F y (there m)))

length-starts : (size p : ℕ) (cs : List RawCell) → length (starts size p cs) ≡ length cs
length-starts size p [] = refl
length-starts size p (c ∷ cs) = ap suc (length-starts size (p + length (cell_text size c)) cs)

starts-most : (size p : ℕ) (cs : List RawCell) (x : ℕ) → Mem x (starts size p cs) → x ≤ p + length (cells_text size cs)
starts-most size p [] x x3 = elim x3 [ ]
starts-most size p (c ∷ cs) x (here e) = omega arith
starts-most size p (c ∷ cs) x (there m) = omega (arith, starts-most size (p + length (cell_text size c)) cs x m, length-append (cell_text size c) (cells_text size cs))

index-length : (idx : Bool) (size : ℕ) (cs : List RawCell) → length (cond idx (starts size 0 cs) []) ≡ cond idx (length cs) 0
index-length true size cs = length-starts size 0 cs
index-length false size cs = refl

index-most : (idx : Bool) (size : ℕ) (cs : List RawCell) (x : ℕ) → Mem x (cond idx (starts size 0 cs) []) → x ≤ length (cells_text size cs)
index-most true size cs x m = omega (arith, starts-most size 0 cs x m)
index-most false size cs x m = elim m [ ]

-- the text of the listed cells is short
pub listed-short : (s : List Cell) (out : List ℕ) → ((x : ℕ) → Mem x out → Fit (bag_cell s out x)) → (size : ℕ) → size ≤ 4 → length (cells_text size (listed s out)) ≤ 146 * length (listed s out)
listed-short s out G size h =
    let fine : (v : Leveled) → Mem v (bag_cells s out) → Written v = λ v m. let t = mem-map (leveled s out) out v m in rw t.2 (G t.0 t.1, omega arith) in
    omega (arith, ap length (cells_are s out size out G), length-all size (bag_cells s out) h fine, length-map out (leveled s out), length-map out (raw_at s out))

-- a header for these cells is admissible, where the limits allow so many
module _ (scratch room : ℕ) (idx sum : Bool) (cs : List RawCell) (some : 1 ≤ length cs) (most : length cs ≤ 4096) (hs : 2 * length cs ≤ scratch) (hr : 1 ≤ room)
    (fine : (c : RawCell) → Mem c cs → RawCellOk c)
    (links : (i : ℕ) → i < length cs → (r : ℕ) → Mem r (at (map cell_of cs) i).refs → (i < r) × (r < length cs))
    (short : (size : ℕ) → size ≤ 4 → length (cells_text size cs) ≤ 146 * length cs) where
  size_small : (size : ℕ) → size ≡ width 8 (length cs) → size ≤ 2
  size_small size e = rw e (width-le 8 2 (length cs) (omega arith))

  pub head-fine : (size off : ℕ) → size ≡ width 8 (length cs) → off ≡ width 8 (length (cells_text size cs)) → (h : Head)
      → h ≡ record {
        size = size;
        off = off;
        has_idx = idx;
        has_crc = sum;
        has_cache = false;
        flags = 0;
        absent = 0;
        total = length (cells_text size cs);
        roots = 0 ∷ [];
        index = cond idx (starts size 0 cs) [];
      } → Admissible scratch room h cs
  head-fine size off es eo h e =
      let z = size_small size es in
      let l = short size (omega arith) in
      let holds : length (cells_text size cs) < 256 ^ off = rw eo (width-holds 8 (length (cells_text size cs)) (omega arith)) in
      rw e (record {
        size = omega arith;
        off = rw eo (width-most 8 (length (cells_text size cs)));
        flags = omega arith;
        count = rw es (width-holds 8 (length cs) (omega arith));
        total = holds;
        index = index-length idx size cs;
        entries = λ x m. omega (arith, index-most idx size cs x m);
        counts = omega arith;
        cells = most;
        scratch-lent = hs;
        roots-lent = hr;
        each = fine;
        links = links;
        inside = λ r m. zero-mem r m;
      })
    where
      zero-mem : (r : ℕ) → Mem r (0 ∷ []) → r < length cs
      zero-mem r (here q) = omega arith
      zero-mem r (there m) = elim m [ ]

-- ---- structures

at_map : (f : ℕ → Cell) (l : List ℕ) (k : ℕ) → k < length l → at (map f l) k ≡ f (get_or l k 0)
at_map f [] k h = absurd (not-suc-le-zero h)
at_map f (x ∷ xs) zero h = refl
at_map f (x ∷ xs) (suc k) h = at_map f xs k (le_of_suc-le-suc h)

module _ (s : List Cell) (root : ℕ) (out : List ℕ) (W : Listing s root out) where
  pub listed-levels : (m k : ℕ) → k < length out → unfolded m (plain_cells s out) k ≡ unfolded m s (get_or out k 0)
  listed-levels zero k h = refl
  listed-levels (suc m) k h =
      let x = get_or out k 0 in
      let e : at (plain_cells s out) k ≡ bag_cell s out x = at_map (bag_cell s out) out k h in
      let below : (r : ℕ) → Mem r (at s x).refs → unfolded m (plain_cells s out) (place_of r out) ≡ unfolded m s r = λ r n.
      let i = W.complete r (via (W.sound x (mem-at out k h)) n) in
      listed-levels m (place_of r out) (index-lt r out i) ∙ ap (unfolded m s) (index_at r out i) in
      let kids = forest-map (λ (r : ℕ). unfolded m (plain_cells s out) r) (λ (r : ℕ). unfolded m s r) (λ (r : ℕ). place_of r out) (at s x).refs below in
      rw (e, kids)

  pub listed-tree : Low s → root < length s → (k : ℕ) → k < length out → tree (plain_cells s out) k ≡ tree s (get_or out k 0)
  listed-tree S hr k h =
      let n : length (plain_cells s out) ≡ length out = length-map out (bag_cell s out) in
      let L = bag-linked s [] out out refl W.once W.later in
      let m = length s + length out in
      let g = reach-held s S root hr (W.sound (get_or out k 0) (mem-at out k h)) in
      linked-levels (plain_cells s out) L (length (plain_cells s out)) m k (omega arith) (omega arith) (omega arith)
      ∙ listed-levels m k h
      ∙ low-levels s S m (length s) (get_or out k 0) (omega arith) g g
