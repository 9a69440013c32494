-- The header by place is what the definitions read before the cells. Assumes nothing.
use Rattle.std.specs.Prelude.{ℕ, ◌+◌, ◌*◌, ◌≤◌, ◌<◌, ◌≡◌, Bool, cond, not, ◌||◌, List, length, leb, Ok, Err}
use Rattle.std.proofs.Math.Path.{refl}
use Rattle.std.proofs.Common.{◌∙◌, arith, lit≤}
use borrow.Author.Tests.{leb-true, lt-leb}
use Rattle.laws.specs.Accept.{check_inv}
use Rattle.scheme.specs.Refusals.{SIZE, OFFSET, COUNTS, CELLS, SCRATCH, ROOTROOM, EXTRA}
use Rattle.scheme.specs.Res.{Res, then, check, refusal}
use Rattle.scheme.specs.Bytes.{field}
use Rattle.scheme.specs.Layout.{tag_ok, layout}
use Rattle.scheme.specs.Bag.{Header as Fields, header, Past, numbers, root_list, index, raw_cells, checksum, links, roots_ok, Bag}
use Rattle.bits.specs.Field.{byte_at, skip_fields_at, numbers_at}
use Rattle.bits.specs.Then.{then_same, then-then, then-first}
use Rattle.bits.specs.Laws.{chunk-cases, field_is, skip-whole, skip-cut, skip-fields-end, fields-are}
use Rattle.header.specs.Header.{layout_of, flags_at, checked_counts, counts_at, places_at, header_at}
use Rattle.header.specs.declared.Header.{Header}

-- the roots of a header in the bytes b, as bag places
abbrev pub roots_in : List ℕ → Header → List ℕ
roots_in b m = numbers_at b m.size m.roots m.list

-- roots and absent cells, taken together exactly, are more than the cells
pub too_many : (cells roots absent next scratch room : ℕ) → cells < roots + absent
    → Err (refusal COUNTS 6) ≡ checked_counts cells roots absent next scratch room
unfolding checked_counts
too_many cells roots absent next scratch room h = rw (lt-leb (roots + absent) cells h)

-- the counts at their places
counts-are : (b : List ℕ) (size scratch room : ℕ) → size ≤ 4 → counts_at b size scratch room ≡
    (then (field b 6 size) λ cells.
    then (field b (6 + size) size) λ roots.
    then (field b (6 + 2 * size) size) λ absent.
    checked_counts cells roots absent (6 + 3 * size) scratch room)
unfolding counts_at
counts-are b size scratch room h =
    let g : size ≤ 8 = omega arith in
    let e : 6 + size + size ≡ 6 + 2 * size = omega arith in
    let f : 6 + 2 * size + size ≡ 6 + 3 * size = omega arith in
    rw (field_is b 6 size g)
    (then-then (field b 6 size) _ _
    ∙ then_same (field b 6 size) λ cells _.
    rw (field_is b (6 + size) size g)
    (then-then (field b (6 + size) size) _ _
    ∙ then_same (field b (6 + size) size) λ roots _.
    rw (e, field_is b (6 + 2 * size) size g)
    (then-then (field b (6 + 2 * size) size) _ _
    ∙ then_same (field b (6 + 2 * size) size) λ absent _. rw f)))

-- numbers that are read, by place
abbrev list_past : List ℕ → ℕ → Past (List ℕ)
list_past xs q = record { it = xs; next = q }

abbrev listed : List ℕ → ℕ → ℕ → ℕ → ℕ → Past (List ℕ)
listed b k n p q = list_past (numbers_at b k n p) q

numbers-are : (b : List ℕ) (k n p : ℕ) → numbers b k n p ≡ then (skip_fields_at b k n p) λ q. Ok (listed b k n p q)
unfolding numbers
numbers-are b k n p = rw (fields-are b k n p) (go (skip_fields_at b k n p) refl)
  where
    go : (x : Res ℕ) → skip_fields_at b k n p ≡ x → then (then x λ q. Ok (numbers_at b k n p)) (λ xs. Ok (list_past xs (p + n * k))) ≡ then x λ q. Ok (listed b k n p q)
    go (Err r) e = refl
    go (Ok q) e = rw (skip-fields-end b k n p q e).0

-- what is done with a header: the bytes of a bag place, the cells, whether a checksum is there, the roots, and the place of the first cell
module _ {A : Type 0} (K : ℕ → ℕ → Bool → List ℕ → ℕ → Res A) (b : List ℕ) where
  abbrev pub after_fields : Fields → Res A
  after_fields h =
      then (root_list b h) λ roots.
      then (index b h roots.next) λ entries.
      K h.shape.size h.cells h.shape.has_crc roots.it entries.next

  abbrev pub after_header : Header → Res A
  after_header m = K m.size m.cells m.checked (roots_in b m) m.first

  -- total, root list and index
  places_tie : (tag flags off cells roots p : ℕ)
      → then (field b p off) (λ total. after_fields (record { shape = layout tag flags; off = off; cells = cells; roots = roots; next = p + off }))
      ≡ then (places_at b (record { layout = layout_of (layout tag flags); off = off }) (record { cells = cells; roots = roots; next = p })) after_header
  unfolding places_at root_list index layout field
  places_tie tag flags off cells roots p =
      chunk-cases b p off
      (λ h e.
      rw (e, skip-whole b p off h, numbers-are b (layout tag flags).size roots (p + off))
      (first (skip_fields_at b (layout tag flags).size roots (p + off))))
      (λ h e. rw (e, skip-cut b p off h))
    where
      first : (x : Res ℕ)
          → then (then x λ q. Ok (listed b (layout tag flags).size roots (p + off) q))
          (λ rs.
          then (numbers b off (cond (layout tag flags).has_idx cells 0) rs.next) λ es.
          K (layout tag flags).size cells (layout tag flags).has_crc rs.it es.next)
          ≡ then
          (then x λ q.
          then (skip_fields_at b off (cond (layout tag flags).has_idx cells 0) q) λ first.
          Ok (record { checked = (layout tag flags).has_crc; size = (layout tag flags).size; cells = cells; roots = roots; list = p + off; first = first }))
          after_header
      first (Err r) = refl
      first (Ok q) = rw (numbers-are b off (cond (layout tag flags).has_idx cells 0) q) (second (skip_fields_at b off (cond (layout tag flags).has_idx cells 0) q))
        where
          second : (x : Res ℕ)
              → then (then x λ o. Ok (listed b off (cond (layout tag flags).has_idx cells 0) q o))
              (λ es. K (layout tag flags).size cells (layout tag flags).has_crc (numbers_at b (layout tag flags).size roots (p + off)) es.next)
              ≡ then
              (then x λ first.
              Ok (record { checked = (layout tag flags).has_crc; size = (layout tag flags).size; cells = cells; roots = roots; list = p + off; first = first }))
              after_header
          second (Err r) = refl
          second (Ok o) = refl

  -- the header, then the root list and the index, are the header by place
  pub header_tie : (scratch room : ℕ) → then (header scratch room b) after_fields ≡ then (header_at b scratch room) after_header
  unfolding header header_at checked_counts flags_at byte_at
  header_tie scratch room =
      rw (flags-are b)
      (then-first (field b 0 4) _ _ _ _ _ λ tag _.
      then-first (tag_ok tag) _ _ _ _ _ λ _ _.
      then-first (field b 4 1) _ _ _ _ _ λ flags _.
      then-first (check (leb (layout tag flags).size 4) (refusal SIZE 4)) _ _ _ _ _ λ u s.
      then-first (field b 5 1) _ _ _ _ _ λ off _.
      then-first (check (leb off 8) (refusal OFFSET 5)) _ _ _ _ _ λ _ _.
      let h : (layout tag flags).size ≤ 4 = leb-true _ _ (check_inv (leb (layout tag flags).size 4) (refusal SIZE 4) u s) in
      rw (counts-are b (layout tag flags).size scratch room h)
      (then-first (field b 6 (layout tag flags).size) _ _ _ _ _ λ cells _.
      then-first (field b (6 + (layout tag flags).size) (layout tag flags).size) _ _ _ _ _ λ roots _.
      then-first (field b (6 + 2 * (layout tag flags).size) (layout tag flags).size) _ _ _ _ _ λ absent _.
      then-first (check (leb (roots + absent) cells) (refusal COUNTS 6)) _ _ _ _ _ λ _ _.
      then-first (check (leb cells 4096) (refusal CELLS 6)) _ _ _ _ _ λ _ _.
      then-first (check (leb (2 * cells) scratch) (refusal SCRATCH (2 * cells))) _ _ _ _ _ λ _ _.
      then-first (check (leb roots room) (refusal ROOTROOM roots)) _ _ _ _ _ λ _ _.
      then-then (field b (6 + 3 * (layout tag flags).size) off) _ _ ∙ places_tie tag flags off cells roots (6 + 3 * (layout tag flags).size)))
    where
      -- tag, byte 4 and off_bytes at their places
      flags-are : (b : List ℕ) → flags_at b ≡
          (then (field b 0 4) λ tag.
          then (tag_ok tag) λ _.
          then (field b 4 1) λ flags.
          then (check (leb (layout tag flags).size 4) (refusal SIZE 4)) λ _.
          then (field b 5 1) λ off.
          then (check (leb off 8) (refusal OFFSET 5)) λ _.
          Ok (record { layout = layout_of (layout tag flags); off = off }))
      flags-are b =
          rw (field_is b 0 4 (lit≤ tt))
          (then-then (field b 0 4) _ _
          ∙ then_same (field b 0 4) λ tag _.
          then_same (tag_ok tag) λ _ _.
          then-then (field b 4 1) _ _
          ∙ then_same (field b 4 1) λ flags _.
          then_same (check (leb (layout tag flags).size 4) (refusal SIZE 4)) λ _ _.
          then-then (field b 5 1) _ _)

-- what follows the header of a bag: the cells, the checksum, EXTRA, the links and the roots
abbrev pub after_head : Bool → List ℕ → ℕ → ℕ → Bool → List ℕ → ℕ → Res Bag
after_head whole b size n sum roots first =
    then (raw_cells b size n first) λ cells.
    then (checksum sum b cells.next) λ end.
    then (check (not whole || leb (length b) end) (refusal EXTRA end)) λ _.
    then (links 0 n cells.it) λ _.
    then (roots_ok 0 n roots) λ _.
    Ok (record { used = end; cells = cells.it; roots = roots })
