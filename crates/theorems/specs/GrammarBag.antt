-- The bytes of a bag that is accepted are a text of the grammar.
-- Assumes nothing.
use Rattle.std.specs.Prelude.{◌≡◌, refl, ℕ, ◌+◌, ◌*◌, ◌/◌, ◌%◌, ◌^◌, ◌≤◌, ◌<◌, Bool, true, false, cond, not, ◌||◌, length, take, drop, eqb, leb, Ok}
use Rattle.std.proofs.Common.{sym, ap, ◌∙◌, arith, length-append, length-drop, drop_of_length-le, leb-true, eqb-true}
use mathlib.Core.List.{List, [], ◌∷◌, ◌++◌, append_assoc, Memᴰ as Mem}
use Rattle.std.proofs.lemmas.List.{length-map}
use Rattle.std.proofs.Math.Seq.{take-append_seam}
use Rattle.scheme.specs.Limits.{max_cells}
use Rattle.scheme.specs.Refusals.{TAG, INDEXED, SIZE, OFFSET, COUNTS, CELLS, SCRATCH, ROOTROOM, CRC, EXTRA}
use Rattle.scheme.specs.Res.{check, refusal}
use Rattle.scheme.specs.Bytes.{be, le, unle, chunk, field, fields}
use Rattle.scheme.specs.Bits.{bit_of}
use Rattle.scheme.specs.Crc.{crc_of}
use Rattle.scheme.specs.Cells.{Cell, at}
use Rattle.scheme.specs.Layout.{Layout, layout, tag_ok, generic_tag, indexed_tag, indexed_crc_tag}
use Rattle.scheme.specs.Bag.{Past, Header, header, read_scratch, numbers, root_list, index, raw_cells, checksum, links, roots_ok, Bag, bag}
use Rattle.scheme.specs.Write.{all_be}
use Rattle.laws.specs.CellRound.{all_below, all_below-true}
use Rattle.laws.specs.Accept.{Small, then_use, check_inv, links-inv, roots-inv}
use Rattle.laws.specs.Meaning.{linked-at}
use Rattle.theorems.specs.Grammar.{cell_of, Head, byte4, unsigned, serialized, bag_of, Admissible, Says}
use Rattle.theorems.specs.GrammarOf.{Stands, stands-then, stands-none, chunk-text, field-text, fields-text, byte-text, le-unle, CellsText, cells-text}

-- the front of a text up to a place
pub stands-front : {b w : List ℕ} {p : ℕ} → Stands b 0 w p → (b ≡ w ++ drop p b) × (length w ≡ p) × (take p b ≡ w)
stands-front {b} {w} {p} A =
    let n : length w ≡ p = omega (arith, ap length A.is, length-append w (drop p b), length-drop p b, A.within) in
    (A.is, n, go (drop p b) A.is n)
  where
    go : (r : List ℕ) → b ≡ w ++ r → length w ≡ p → take p b ≡ w
    go r e n = rw (e, ← n) (take-append_seam w r)

tag_of : (tag : ℕ) (u : Unit {0}) → tag_ok tag ≡ Ok u → tag ≡ generic_tag
unfolding tag_ok
tag_of tag u e =
    then_use (check (eqb tag generic_tag || (eqb tag indexed_tag || eqb tag indexed_crc_tag)) (refusal TAG 0)) _ _ e λ v x₁ e₁.
    eqb-true tag generic_tag (check_inv (eqb tag generic_tag) (refusal INDEXED 0) u e₁)

-- what an accepted header says, with byte 4 as `flags`
pub record HeadText (scratch room : ℕ) (b : List ℕ) (h : Header) : Type 0 where
  pub flags : ℕ
  pub absent : ℕ
  pub sum : ℕ
  pub byte : flags < 256
  pub shape : h.shape ≡ layout generic_tag flags
  pub size : h.shape.size ≤ 4
  pub off : h.off ≤ 8
  pub count : h.cells < 256 ^ h.shape.size
  pub sum_fits : sum < 256 ^ h.off
  pub counts : h.roots + absent ≤ h.cells
  pub cells : h.cells ≤ max_cells
  pub scratch-lent : read_scratch h.cells ≤ scratch
  pub roots-lent : h.roots ≤ room
  pub stands : Stands b 0 (be 4 generic_tag ++ (flags ∷ h.off ∷ (be h.shape.size h.cells ++ (be h.shape.size h.roots ++ (be h.shape.size absent ++ be h.off sum))))) h.next

pub head-text : (scratch room : ℕ) (b : List ℕ) → Small b → (h : Header) → header scratch room b ≡ Ok h → HeadText scratch room b h
unfolding header
head-text scratch room b S h e =
    then_use (field b 0 4) _ _ e λ tag x₁ e₁.
    then_use (tag_ok tag) _ _ e₁ λ u₂ x₂ e₂.
    then_use (field b 4 1) _ _ e₂ λ flags x₃ e₃.
    let l = layout tag flags in
    then_use (check (leb l.size 4) (refusal SIZE 4)) _ _ e₃ λ u₄ x₄ e₄.
    then_use (field b 5 1) _ _ e₄ λ off x₅ e₅.
    then_use (check (leb off 8) (refusal OFFSET 5)) _ _ e₅ λ u₆ x₆ e₆.
    then_use (field b 6 l.size) _ _ e₆ λ cells x₇ e₇.
    then_use (field b (6 + l.size) l.size) _ _ e₇ λ roots x₈ e₈.
    then_use (field b (6 + 2 * l.size) l.size) _ _ e₈ λ absent x₉ e₉.
    then_use (check (leb (roots + absent) cells) (refusal COUNTS 6)) _ _ e₉ λ u₁₀ x₁₀ e₁₀.
    then_use (check (leb cells max_cells) (refusal CELLS 6)) _ _ e₁₀ λ u₁₁ x₁₁ e₁₁.
    then_use (check (leb (read_scratch cells) scratch) (refusal SCRATCH (read_scratch cells))) _ _ e₁₁ λ u₁₂ x₁₂ e₁₂.
    then_use (check (leb roots room) (refusal ROOTROOM roots)) _ _ e₁₂ λ u₁₃ x₁₃ e₁₃.
    then_use (field b (6 + 3 * l.size) off) _ _ e₁₃ λ sum x₁₄ e₁₄.
    let q : record { shape = l; off = off; cells = cells; roots = roots; next = 6 + 3 * l.size + off } ≡ h = cc in
    let g = tag_of tag u₂ x₂ in
    let t₁ = field-text b S 0 4 tag x₁ in
    let t₂ = byte-text b S 4 flags x₃ in
    let t₃ = byte-text b S 5 off x₅ in
    let t₄ = field-text b S 6 l.size cells x₇ in
    let t₅ = field-text b S (6 + l.size) l.size roots x₈ in
    let t₆ = field-text b S (6 + 2 * l.size) l.size absent x₉ in
    let t₇ = field-text b S (6 + 3 * l.size) off sum x₁₄ in
    let m₁ : 6 + l.size + l.size ≡ 6 + 2 * l.size = omega arith in
    let m₂ : 6 + 2 * l.size + l.size ≡ 6 + 3 * l.size = omega arith in
    let A₁ : Stands b 0 (be 4 generic_tag) 4 = rw g at t₁.1 in
    let A₅ : Stands b (6 + l.size) (be l.size roots) (6 + 2 * l.size) = rw m₁ at t₅.1 in
    let A₆ : Stands b (6 + 2 * l.size) (be l.size absent) (6 + 3 * l.size) = rw m₂ at t₆.1 in
    let A = stands-then A₁ (stands-then t₂.1 (stands-then t₃.1 (stands-then t₄.1 (stands-then A₅ (stands-then A₆ t₇.1))))) in
    rw (← q) (record {
      flags = flags;
      absent = absent;
      sum = sum;
      byte = t₂.0;
      shape = ap (λ (x : ℕ). layout x flags) g;
      size = leb-true l.size 4 (check_inv (leb l.size 4) (refusal SIZE 4) u₄ x₄);
      off = leb-true off 8 (check_inv (leb off 8) (refusal OFFSET 5) u₆ x₆);
      count = t₄.0;
      sum_fits = t₇.0;
      counts = leb-true (roots + absent) cells (check_inv (leb (roots + absent) cells) (refusal COUNTS 6) u₁₀ x₁₀);
      cells = leb-true cells max_cells (check_inv (leb cells max_cells) (refusal CELLS 6) u₁₁ x₁₁);
      scratch-lent = leb-true (read_scratch cells) scratch (check_inv (leb (read_scratch cells) scratch) (refusal SCRATCH (read_scratch cells)) u₁₂ x₁₂);
      roots-lent = leb-true roots room (check_inv (leb roots room) (refusal ROOTROOM roots) u₁₃ x₁₃);
      stands = A;
    })

-- byte 4 is the sum of its parts
abbrev byte_test : ℕ → Bool
byte_test f = eqb (128 * bit_of (eqb (f / 128 % 2) 1) + 64 * bit_of (eqb (f / 64 % 2) 1) + 32 * bit_of (eqb (f / 32 % 2) 1) + 8 * (f / 8 % 4) + f % 8) f

byte_tests : all_below 256 (λ f. byte_test f) ≡ true
byte_tests = refl

byte-sum : (l : Layout) (f : ℕ) → f < 256 → l ≡ layout generic_tag f → 128 * bit_of l.has_idx + 64 * bit_of l.has_crc + 32 * bit_of (eqb (f / 32 % 2) 1) + 8 * (f / 8 % 4) + l.size ≡ f
unfolding layout
byte-sum l f h e = rw e (eqb-true _ _ (all_below-true 256 (λ f. byte_test f) byte_tests f h))

-- numbers, root list and index that were read
numbers-text : (b : List ℕ) → Small b → (k n p : ℕ) (c : Past (List ℕ)) → p ≤ length b → numbers b k n p ≡ Ok c
    → (length c.it ≡ n) × ((x : ℕ) → Mem x c.it → x < 256 ^ k) × Stands b p (all_be k c.it) c.next
unfolding numbers
numbers-text b S k n p c h e =
    then_use (fields b k n p) _ _ e λ xs x₁ e₁.
    let q : record { it = xs; next = p + n * k } ≡ c = cc in
    rw (← q) (fields-text b S k n p xs h x₁)

roots-text : (b : List ℕ) → Small b → (h : Header) (c : Past (List ℕ)) → h.shape.has-list ≡ true → h.next ≤ length b → root_list b h ≡ Ok c
    → (length c.it ≡ h.roots) × Stands b h.next (all_be h.shape.size c.it) c.next
unfolding root_list
roots-text b S h c l w e =
    let x : numbers b h.shape.size h.roots h.next ≡ Ok c = rw l at e in
    let r = numbers-text b S h.shape.size h.roots h.next c w x in
    (r.0, r.2)

-- the checksum that was read
sum-text : (b : List ℕ) → Small b → (has : Bool) (p end : ℕ) (w : List ℕ) → Stands b 0 w p → checksum has b p ≡ Ok end → Stands b p (cond has (le 4 (crc_of w)) []) end
unfolding checksum
sum-text b S false p end w A e = let q : p ≡ end = cc in rw (← q) (stands-none b p A.within)
sum-text b S true p end w A e =
    then_use (chunk b p 4) _ _ e λ xs x₁ e₁.
    then_use (check (eqb (unle xs) (crc_of (take p b))) (refusal CRC p)) _ _ e₁ λ u x₂ e₂.
    let t = chunk-text b S p 4 xs x₁ in
    let c = eqb-true (unle xs) (crc_of (take p b)) (check_inv (eqb (unle xs) (crc_of (take p b))) (refusal CRC p) u x₂) in
    let f : take p b ≡ w = (stands-front A).2 in
    let q : p + 4 ≡ end = cc in
    let s : xs ≡ le 4 (crc_of w) = sym (le-unle xs t.1) ∙ rw (t.0, c, f) in
    rw (← q, ← s) t.2

module _ (whole : Bool) (scratch room : ℕ) (b : List ℕ) (S : Small b) (h : Header) (H : HeadText scratch room b h) (rs es : Past (List ℕ)) (cs : Past (List Cell)) (R : CellsText b S h.shape.size h.cells es.next cs) where
  abbrev head_of : Head
  head_of = record {
    size = h.shape.size;
    off = h.off;
    has_idx = h.shape.has_idx;
    has_crc = h.shape.has_crc;
    has_cache = eqb (H.flags / 32 % 2) 1;
    flags = H.flags / 8 % 4;
    absent = H.absent;
    total = H.sum;
    roots = rs.it;
    index = es.it;
  }

  byte-is : byte4 head_of ≡ H.flags
  unfolding byte4
  byte-is = byte-sum h.shape H.flags H.byte H.shape

  front-text : length rs.it ≡ h.roots → Stands b h.next (all_be h.shape.size rs.it) rs.next → Stands b rs.next (all_be h.off es.it) es.next
      → Stands b 0 (unsigned head_of R.raws) cs.next
  unfolding unsigned
  front-text n A B =
      let F = stands-then H.stands (stands-then A (stands-then B R.stands)) in
      rw (byte-is, R.many, n) (simp append_assoc at F)

  head-fine : length rs.it ≡ h.roots → length es.it ≡ cond h.shape.has_idx h.cells 0 → ((x : ℕ) → Mem x es.it → x < 256 ^ h.off)
      → (u v : Unit {0}) → links 0 h.cells cs.it ≡ Ok u → roots_ok 0 h.cells rs.it ≡ Ok v → Admissible scratch room head_of R.raws
  head-fine n m E u v x y =
      let k : length R.raws ≡ h.cells = R.many in
      let j : length cs.it ≡ length R.raws = ap length (sym R.is) ∙ length-map R.raws cell_of in
      let L = links-inv 0 h.cells cs.it u x (omega arith) in
      record {
        size = H.size;
        off = H.off;
        flags = omega arith;
        count = omega (arith, H.count);
        total = H.sum_fits;
        index = rw k m;
        entries = E;
        counts = omega (arith, H.counts);
        cells = omega (arith, H.cells);
        scratch-lent = omega (arith, H.scratch-lent);
        roots-lent = omega (arith, H.roots-lent);
        each = R.fine;
        links = λ i l r q.
            let z : Mem r (at cs.it i).refs = rw R.is at q in
            let w = linked-at 0 cs.it L i (omega arith) r z in
            (omega arith, omega arith);
        inside = λ r q. omega (arith, roots-inv 0 h.cells rs.it v y r q);
      }

-- a bag that is accepted is a text of the grammar
pub parsed : (whole : Bool) (scratch room : ℕ) (b : List ℕ) (g : Bag) → Small b → bag whole scratch room b ≡ Ok g → Says whole scratch room b g
unfolding bag index serialized bag_of layout
parsed whole scratch room b g S e =
    then_use (header scratch room b) _ _ e λ h x₁ e₁.
    then_use (root_list b h) _ _ e₁ λ rs x₂ e₂.
    then_use (index b h rs.next) _ _ e₂ λ es x₃ e₃.
    then_use (raw_cells b h.shape.size h.cells es.next) _ _ e₃ λ cs x₄ e₄.
    then_use (checksum h.shape.has_crc b cs.next) _ _ e₄ λ end x₅ e₅.
    then_use (check (not whole || leb (length b) end) (refusal EXTRA end)) _ _ e₅ λ u₆ x₆ e₆.
    then_use (links 0 h.cells cs.it) _ _ e₆ λ u₇ x₇ e₇.
    then_use (roots_ok 0 h.cells rs.it) _ _ e₇ λ u₈ x₈ e₈.
    let H = head-text scratch room b S h x₁ in
    let l : h.shape.has-list ≡ true = ap (λ (s : Layout). s.has-list) H.shape in
    let r = roots-text b S h rs l H.stands.within x₂ in
    let i = numbers-text b S h.off (cond h.shape.has_idx h.cells 0) rs.next es r.1.within x₃ in
    let R = cells-text b S h.shape.size h.cells es.next cs i.2.within x₄ in
    let W = front-text whole scratch room b S h H rs es cs R r.0 r.1 i.2 in
    let X = sum-text b S h.shape.has_crc cs.next end (unsigned (head_of whole scratch room b S h H rs es cs R) R.raws) W x₅ in
    let F = stands-front (stands-then W X) in
    let q : record { used = end; cells = cs.it; roots = rs.it } ≡ g = cc in
    let t = check_inv (not whole || leb (length b) end) (refusal EXTRA end) u₆ x₆ in
    record {
      head = head_of whole scratch room b S h H rs es cs R;
      cells = R.raws;
      rest = drop end b;
      admissible = head-fine whole scratch room b S h H rs es cs R r.0 i.0 i.1 u₇ u₈ x₇ x₈;
      text = F.0;
      nothing = λ w. drop_of_length-le b (leb-true (length b) end (rw w at t));
      is = sym q ∙ bag_path _ _ (sym F.1) (sym R.is) refl;
    }
  where
    bag_path : (a c : Bag) → a.used ≡ c.used → a.cells ≡ c.cells → a.roots ≡ c.roots → a ≡ c
    bag_path a c p q r = λ i. record { used = p i; cells = q i; roots = r i }
