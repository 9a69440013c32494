-- The reading of an accepted bag, step by step, and of a front of it: it refuses CUT at the first field that is not whole.
-- Assumes nothing.
use Rattle.std.specs.Prelude.{◌≡◌, refl, Bool, true, false, not, ◌||◌, length, take, leb, eqb, Ok, Err}
use Prim.Native.Nat.{ℕ, ◌+◌, ◌*◌, ◌≤◌, ◌<◌}
use Rattle.std.proofs.Common.{arith, leb-true, leb-false}
use Rattle.std.proofs.Math.Bool.{cond}
use mathlib.Core.List.{List, [], ◌∷◌, ◌++◌, append_assoc}
use Rattle.std.proofs.Math.ListN.{replicate}
use Rattle.scheme.specs.Refusals.{CUT, CRC, EXTRA}
use Rattle.scheme.specs.Res.{check, refusal}
use Rattle.scheme.specs.Bytes.{chunk, fields, unle}
use Rattle.scheme.specs.Crc.{crc_of}
use Rattle.scheme.specs.Cells.{Cell}
use Rattle.scheme.specs.Bag.{Header, header, Past, numbers, root_list, index, raw_cells, checksum, links, roots_ok, Bag, bag}
use Rattle.laws.specs.Accept.{then_use, check_inv}
use Rattle.theorems.specs.Places.{total, cut_place, NotWhole, cells_fields, front_fields, bag_fields}
use Rattle.theorems.specs.Front.{Front, within, past, front-then, front-stop, total-append, total-replicate, HeaderIs, header_is, front-header, front-numbers, front-sum}
use Rattle.theorems.proofs.Front.{cells-next, front-cells}

-- the place of the first field that ends past k is that of a field which is not whole
pub not-whole : (k : ℕ) (us ws : List ℕ) → total us ≤ k → k < total us + total ws → NotWhole (us ++ ws) k (cut_place (total us) k ws)
not-whole k us [] h g = absurd (omega arith)
not-whole k us (w ∷ ws) h g = go (leb (total us + w) k) refl (not-whole k (us ++ w ∷ []) ws)
  where
    go : (t : Bool) → leb (total us + w) k ≡ t
        → (total (us ++ w ∷ []) ≤ k → k < total (us ++ w ∷ []) + total ws → NotWhole ((us ++ w ∷ []) ++ ws) k (cut_place (total (us ++ w ∷ [])) k ws))
        → NotWhole (us ++ w ∷ ws) k (cond t (cut_place (total us + w) k ws) (total us))
    go true x ih =
        let j = leb-true (total us + w) k x in
        let n : total (us ++ w ∷ []) ≡ total us + w = omega (arith, total-append us (w ∷ [])) in
        rw (n, append_assoc us (w ∷ []) ws) at (ih (omega arith) (omega arith))
    go false x ih =
        let j = leb-false (total us + w) k x in
        record { before = us; width = w; behind = ws; fields = refl; place = refl; begins = h; ends = j }

-- the place behind the numbers that are read
numbers-next : (b : List ℕ) (w n p : ℕ) (c : Past (List ℕ)) → numbers b w n p ≡ Ok c → c.next ≡ p + n * w
unfolding numbers
numbers-next b w n p c e = then_use (fields b w n p) _ _ e λ xs x₁ e₁. cc

-- the place behind the checksum
sum-next : (has : Bool) (b : List ℕ) (p end : ℕ) → checksum has b p ≡ Ok end → end ≡ p + total (cond has (4 ∷ []) [])
unfolding checksum
sum-next false b p end e = let q : end ≡ p = cc in omega arith
sum-next true b p end e =
    then_use (chunk b p 4) _ _ e λ xs x₁ e₁.
    then_use (check (eqb (unle xs) (crc_of (take p b))) (refusal CRC p)) _ _ e₁ λ u x₂ e₂.
    let q : end ≡ p + 4 = cc in omega arith

-- the fields before the cells, and all fields, from the header
unfoldable before : Header → List ℕ
before h =
    (4 ∷ 1 ∷ 1 ∷ h.shape.size ∷ h.shape.size ∷ h.shape.size ∷ h.off ∷ [])
    ++ (replicate h.roots h.shape.size ++ replicate (cond h.shape.has_idx h.cells 0) h.off)

before-is : (b : List ℕ) (h : Header) → HeaderIs b h → before h ≡ front_fields b
unfolding before front_fields
before-is b h H = rw (H.size_is, H.off-is, H.roots-is, H.idx_is, H.cells_is)

before-total : (h : Header) → total (before h) ≡ 6 + 3 * h.shape.size + h.off + h.roots * h.shape.size + cond h.shape.has_idx h.cells 0 * h.off
unfolding before
before-total h =
    let us = replicate h.roots h.shape.size in
    let vs = replicate (cond h.shape.has_idx h.cells 0) h.off in
    omega (arith, total-append us vs, total-replicate h.roots h.shape.size, total-replicate (cond h.shape.has_idx h.cells 0) h.off)

abbrev fields_from : List ℕ → Header → ℕ → List ℕ
fields_from b h p = before h ++ (cells_fields b h.shape.size h.cells p ++ cond h.shape.has_crc (4 ∷ []) [])

fields-is : (b : List ℕ) (h : Header) (p : ℕ) → HeaderIs b h → p ≡ total (before h) → fields_from b h p ≡ bag_fields b
unfolding bag_fields
fields-is b h p H e = rw (e, before-is b h H, H.size_is, H.cells_is, H.crc-is)

root-next : (b : List ℕ) (h : Header) (c : Past (List ℕ)) → h.shape.has-list ≡ true → root_list b h ≡ Ok c → c.next ≡ h.next + h.roots * h.shape.size
unfolding root_list
root-next b h c e x = numbers-next b h.shape.size h.roots h.next c (rw e at x)

index-next : (b : List ℕ) (h : Header) (p : ℕ) (c : Past (List ℕ)) → index b h p ≡ Ok c → c.next ≡ p + cond h.shape.has_idx h.cells 0 * h.off
unfolding index
index-next b h p c x = numbers-next b h.off (cond h.shape.has_idx h.cells 0) p c x

root-front : (k : ℕ) (b : List ℕ) → k ≤ length b → (h : Header) (c : Past (List ℕ)) → h.shape.has-list ≡ true → root_list b h ≡ Ok c → h.next ≤ k
    → Front k h.next (replicate h.roots h.shape.size) c (root_list (take k b) h)
unfolding root_list
root-front k b hk h c e x j =
    let y : numbers b h.shape.size h.roots h.next ≡ Ok c = rw e at x in
    rw e (front-numbers k b hk h.shape.size h.roots h.next c y j)

index-front : (k : ℕ) (b : List ℕ) → k ≤ length b → (h : Header) (p : ℕ) (c : Past (List ℕ)) → index b h p ≡ Ok c → p ≤ k
    → Front k p (replicate (cond h.shape.has_idx h.cells 0) h.off) c (index (take k b) h p)
unfolding index
index-front k b hk h p c x j = front-numbers k b hk h.off (cond h.shape.has_idx h.cells 0) p c x j

-- what an accepted bag's reading went through
pub record Read (whole : Bool) (scratch room : ℕ) (b : List ℕ) (g : Bag) : Type 0 where
  pub head : Header
  pub roots : Past (List ℕ)
  pub entries : Past (List ℕ)
  pub cells : Past (List Cell)
  pub header_ok : header scratch room b ≡ Ok head
  pub roots-ok : root_list b head ≡ Ok roots
  pub entries-ok : index b head roots.next ≡ Ok entries
  pub cells-ok : raw_cells b head.shape.size head.cells entries.next ≡ Ok cells
  pub sum-ok : checksum head.shape.has_crc b cells.next ≡ Ok g.used
  pub whole-ok : (not whole || leb (length b) g.used) ≡ true

pub bag-read : (whole : Bool) (scratch room : ℕ) (b : List ℕ) (g : Bag) → bag whole scratch room b ≡ Ok g → Read whole scratch room b g
unfolding bag
bag-read whole scratch room b g e =
    then_use (header scratch room b) _ _ e λ h x₁ e₁.
    then_use (root_list b h) _ _ e₁ λ rs x₂ e₂.
    then_use (index b h rs.next) _ _ e₂ λ p x₃ e₃.
    then_use (raw_cells b h.shape.size h.cells p.next) _ _ e₃ λ c x₄ e₄.
    then_use (checksum h.shape.has_crc b c.next) _ _ e₄ λ end x₅ e₅.
    then_use (check (not whole || leb (length b) end) (refusal EXTRA end)) _ _ e₅ λ u₆ x₆ e₆.
    then_use (links 0 h.cells c.it) _ _ e₆ λ u₇ x₇ e₇.
    then_use (roots_ok 0 h.cells rs.it) _ _ e₇ λ u₈ x₈ e₈.
    let q : end ≡ g.used = cc in
    record {
      head = h;
      roots = rs;
      entries = p;
      cells = c;
      header_ok = x₁;
      roots-ok = x₂;
      entries-ok = x₃;
      cells-ok = x₄;
      sum-ok = rw q at x₅;
      whole-ok = rw (← q) (check_inv (not whole || leb (length b) end) (refusal EXTRA end) u₆ x₆);
    }

module _ {whole : Bool} {scratch room : ℕ} {b : List ℕ} {g : Bag} (R : Read whole scratch room b g) where
  abbrev h : Header
  h = R.head

  is : HeaderIs b h
  is = header_is scratch room b h R.header_ok

  front-end : R.entries.next ≡ total (before h)
  front-end =
      let n = is.next-is in
      omega (arith, before-total h, root-next b h R.roots is.list-is R.roots-ok, index-next b h R.roots.next R.entries R.entries-ok)

  all-fields : fields_from b h R.entries.next ≡ bag_fields b
  all-fields = fields-is b h R.entries.next is front-end

  pub fields-end : total (bag_fields b) ≡ g.used
  fields-end =
      let ws = cells_fields b h.shape.size h.cells R.entries.next in
      let vs : List ℕ = cond h.shape.has_crc (4 ∷ []) [] in
      rw (← all-fields) (omega (
        arith,
        total-append (before h) (ws ++ vs),
        total-append ws vs,
        front-end,
        cells-next b h.shape.size h.cells R.entries.next R.cells R.cells-ok,
        sum-next h.shape.has_crc b R.cells.next g.used R.sum-ok,
      ))

  -- of the first k bytes, where a field ends past k, nothing more is read than up to that field
  module _ (k : ℕ) (hk : k ≤ length b) (hp : k < total (bag_fields b)) (half : Bool) where
    front-bag : Front k 0 (fields_from b h R.entries.next) g (bag half scratch room (take k b))
    unfolding bag before
    front-bag =
        let ns = replicate h.roots h.shape.size in
        let es = replicate (cond h.shape.has_idx h.cells 0) h.off in
        let cs = cells_fields b h.shape.size h.cells R.entries.next in
        let vs : List ℕ = cond h.shape.has_crc (4 ∷ []) [] in
        let n₁ = is.next-is in
        let n₂ = root-next b h R.roots is.list-is R.roots-ok in
        let n₃ = index-next b h R.roots.next R.entries R.entries-ok in
        let n₄ = cells-next b h.shape.size h.cells R.entries.next R.cells R.cells-ok in
        let n₅ = sum-next h.shape.has_crc b R.cells.next g.used R.sum-ok in
        let m₂ = total-replicate h.roots h.shape.size in
        let m₃ = total-replicate (cond h.shape.has_idx h.cells 0) h.off in
        rw (append_assoc ns es (cs ++ vs))
        (front-then (ns ++ (es ++ (cs ++ vs))) h.next _ (front-header k b hk scratch room h R.header_ok) (omega arith) λ j₁.
        front-then (es ++ (cs ++ vs)) R.roots.next _ (root-front k b hk h R.roots is.list-is R.roots-ok j₁) (omega arith) λ j₂.
        front-then (cs ++ vs) R.entries.next _ (index-front k b hk h R.roots.next R.entries R.entries-ok j₂) (omega arith) λ j₃.
        front-then vs R.cells.next _ (front-cells k b hk h.shape.size h.cells R.entries.next R.cells R.cells-ok j₃) (omega arith) λ j₄.
        front-stop _ (front-sum k b hk h.shape.has_crc R.cells.next g.used R.sum-ok j₄) (omega (arith, fields-end)))

    pub bag-cut : bag half scratch room (take k b) ≡ Err (refusal CUT (cut_place 0 k (bag_fields b)))
    bag-cut = go (rw all-fields at front-bag)
      where
        go : Front k 0 (bag_fields b) g (bag half scratch room (take k b)) → bag half scratch room (take k b) ≡ Err (refusal CUT (cut_place 0 k (bag_fields b)))
        go (within x e) = absurd (omega arith)
        go (past x e) = e
