-- A bag by place is the bag of the definitions: the ways out of what follows the cells, and the parts put together. Assumes nothing.
use Rattle.std.specs.Prelude.{◌≡◌, ℕ, ◌≤◌, Bool, not, ◌||◌, List, length, take, Ok, Err}
use Rattle.std.proofs.Math.Path.{refl}
use Rattle.std.proofs.Common.{sym, ap, ◌∙◌, arith, get_or-take}
use Rattle.std.proofs.Math.Dec.{leb}
use Rattle.scheme.specs.Refusals.{EXTRA}
use Rattle.scheme.specs.Res.{Res, then, check, mapped, refusal}
use Rattle.scheme.specs.declared.Refusal.{Refusal}
use Rattle.scheme.specs.Cells.{Cell}
use Rattle.scheme.specs.Bag.{Past, raw_cells, checksum, links, roots_ok, bag}
use Rattle.laws.specs.Accept.{then_use}
use Rattle.laws.specs.Puts.{puts, puts-length}
use Rattle.bits.specs.Field.{numbers_at}
use Rattle.bits.specs.Then.{then_same}
use Rattle.header.specs.Header.{header_at}
use Rattle.header.proofs.Bag.{bag-header}
use Rattle.header.specs.Tie.{roots_in, after_head}
use Rattle.header.specs.Bounds.{header-within}
use Rattle.header.specs.declared.Header.{Header}
use Rattle.bag.specs.Places.{cells_at, places, scanned}
use Rattle.bag.specs.Scan.{Seen, scan_seen, marks-front}
use Rattle.bag.specs.Links.{extra_ok}
use Rattle.bag.specs.Paper.{after_scan, AreCells, marks, opening_cells, OpensCells, opening, marked, Opens, bag_of, Kept}
use Rattle.bag.specs.declared.OpenBag.{OpenBag}

-- the ways out
module _ (b : List ℕ) (whole : Bool) (h : Header) (m : List ℕ) (p : ℕ) where
  pub after_crc : (r : Refusal) → checksum h.checked b p ≡ Err r → Err r ≡ after_scan b whole h m p
  unfolding after_scan
  after_crc r e = rw e

  module _ (used : ℕ) (e₁ : checksum h.checked b p ≡ Ok used) where
    pub after_extra : (r : Refusal) → extra_ok whole used (length b) ≡ Err r → Err r ≡ after_scan b whole h m p
    unfolding after_scan
    after_extra r e = rw (e₁, e)

    module _ (e₂ : extra_ok whole used (length b) ≡ Ok tt) where
      pub after-links : (r : Refusal) → links 0 h.cells (cells_at b h.size (take h.cells m)) ≡ Err r → Err r ≡ after_scan b whole h m p
      unfolding after_scan
      after-links r e = rw (e₁, e₂, e)

      module _ (e₃ : links 0 h.cells (cells_at b h.size (take h.cells m)) ≡ Ok tt) where
        pub after-roots : (r : Refusal) → roots_ok 0 h.cells (numbers_at b h.size h.roots h.list) ≡ Err r → Err r ≡ after_scan b whole h m p
        unfolding after_scan
        after-roots r e = rw (e₁, e₂, e₃, e)

        pub after-all : roots_ok 0 h.cells (numbers_at b h.size h.roots h.list) ≡ Ok tt
            → Ok (record { size = h.size; cells = h.cells; roots = h.roots; list = h.list; used = used }) ≡ after_scan b whole h m p
        unfolding after_scan
        after-all e = rw (e₁, e₂, e₃, e)

-- a scan that came to its end read the cells
scanned-inv : (b : List ℕ) (size n p e : ℕ) → scanned b size n p ≡ Ok e → (cs : Past (List Cell)) × (raw_cells b size n p ≡ Ok cs) × (cs.next ≡ e)
unfolding scanned
scanned-inv b size n p e x = then_use (raw_cells b size n p) _ _ x λ cs y z. (cs, y, cc)

-- the scratch then begins with the places of the cells that were read
module _ (b : List ℕ) (size n p : ℕ) (s m : List ℕ) (is : m ≡ puts s 0 (places b size n p)) (room : n ≤ length s) where
  pub marks-long : length m ≡ length s
  marks-long = rw is (puts-length s 0 (places b size n p))

  pub marks-seen : (cs : Past (List Cell)) → raw_cells b size n p ≡ Ok cs → Seen b size n (take n m) cs.it
  marks-seen cs e =
      let S = scan_seen b size n p cs e in
      let q : take n m ≡ places b size n p = rw is (marks-front s (places b size n p) n S.many room) in
      rw q S

  pub marks-cells : (e : ℕ) → scanned b size n p ≡ Ok e → AreCells b size n m
  marks-cells e x =
      let c = scanned-inv b size n p e x in
      let S = marks-seen c.0 c.1 in
      λ k h. rw (← get_or-take n m k 0 h) (S.whole k h)

-- the two ends of a scan
module _ (b : List ℕ) (whole : Bool) (h : Header) (s m : List ℕ) (is : m ≡ puts s 0 (places b h.size h.cells h.first)) where
  pub scan_stops : (r : Refusal) → scanned b h.size h.cells h.first ≡ Err r → OpensCells b whole h s (Err r) m
  unfolding opening_cells marks
  scan_stops r e = record { answer = rw e; scratch = is }

  pub scan_ends : (p : ℕ) (r : Res OpenBag) → scanned b h.size h.cells h.first ≡ Ok p → r ≡ after_scan b whole h m p → OpensCells b whole h s r m
  unfolding opening_cells marks
  scan_ends p r e a = record { answer = rw e (rw is at a); scratch = is }

-- a step, and then an answer in other words
mapped-then : {A B C : Type 0} (f : B → C) (x : Res A) (g : A → Res B) → mapped f (then x g) ≡ then x λ a. mapped f (g a)
mapped-then f (Err r) g = refl
mapped-then f (Ok a) g = refl

-- an answer as a bag
module _ (b : List ℕ) (whole : Bool) (h : Header) (m : List ℕ) where
  abbrev open_at : ℕ → OpenBag
  open_at used = record { size = h.size; cells = h.cells; roots = h.roots; list = h.list; used = used }

  -- what follows the cells cs, which end at place p
  after_is : (cs : List Cell) (p : ℕ) → cells_at b h.size (take h.cells m) ≡ cs
      → mapped (bag_of b m) (after_scan b whole h m p)
      ≡ (then (checksum h.checked b p) λ end.
      then (check (not whole || leb (length b) end) (refusal EXTRA end)) λ _.
      then (links 0 h.cells cs) λ _.
      then (roots_ok 0 h.cells (roots_in b h)) λ _.
      Ok (record { used = end; cells = cs; roots = roots_in b h }))
  unfolding after_scan
  after_is cs p e =
      let x = checksum h.checked b p in
      let y = λ (end : ℕ). check (not whole || leb (length b) end) (refusal EXTRA end) in
      let z = links 0 h.cells (cells_at b h.size (take h.cells m)) in
      let w = roots_ok 0 h.cells (roots_in b h) in
      rw (← e) (mapped-then (bag_of b m) x _
      ∙ then_same x λ used _.
      mapped-then (bag_of b m) (y used) _
      ∙ then_same (y used) λ _ _.
      mapped-then (bag_of b m) z _
      ∙ then_same z λ _ _.
      mapped-then (bag_of b m) w _)

  -- a bag that is opened has the header's counts and places
  after_open : (p : ℕ) (o : OpenBag) → after_scan b whole h m p ≡ Ok o → (used : ℕ) × (o ≡ open_at used)
  unfolding after_scan
  after_open p o e =
      then_use (checksum h.checked b p) _ _ e λ used x₁ e₁.
      then_use (extra_ok whole used (length b)) _ _ e₁ λ u₂ x₂ e₂.
      then_use (links 0 h.cells (cells_at b h.size (take h.cells m))) _ _ e₂ λ u₃ x₃ e₃.
      then_use (roots_ok 0 h.cells (numbers_at b h.size h.roots h.list)) _ _ e₃ λ u₄ x₄ e₄.
      (used, cc)

-- the two ways out of the header
module _ (b : List ℕ) (whole : Bool) (rooms : ℕ) (s : List ℕ) where
  pub no_header : (r : Refusal) → header_at b (length s) rooms ≡ Err r → Opens b whole rooms s (Err r) s
  unfolding opening marked
  no_header r e = record { answer = rw e; scratch = rw e }

  pub opens : (h : Header) → header_at b (length s) rooms ≡ Ok h → (r : Res OpenBag) (m : List ℕ) → OpensCells b whole h s r m → Opens b whole rooms s r m
  unfolding opening marked
  opens h e r m O = record { answer = rw e O.answer; scratch = rw e O.scratch }

-- what an answer and a scratch that keep the promise come to
module _ (b : List ℕ) (whole : Bool) (rooms : ℕ) (s : List ℕ) (r : Res OpenBag) (m : List ℕ) (O : Opens b whole rooms s r m) where
  -- after a header that is refused
  module _ (q : Refusal) (e : header_at b (length s) rooms ≡ Err q) where
    none-scratch : m ≡ s
    unfolding marked
    none-scratch = O.scratch ∙ rw e

    none-answer : r ≡ Err q
    unfolding opening
    none-answer = O.answer ∙ rw e

  -- after a header h
  module _ (h : Header) (e : header_at b (length s) rooms ≡ Ok h) where
    is : m ≡ puts s 0 (places b h.size h.cells h.first)
    unfolding marked marks
    is = O.scratch ∙ rw e

    cells-answer : r ≡ then (scanned b h.size h.cells h.first) λ p. after_scan b whole h m p
    unfolding opening opening_cells marks
    cells-answer = rw is (O.answer ∙ rw e)

    room : h.cells ≤ length s
    room = omega (arith, (header-within b (length s) rooms h e).scratch-room)

    long : length m ≡ length s
    long = marks-long b h.size h.cells h.first s m is room

    seen : (cs : Past (List Cell)) → raw_cells b h.size h.cells h.first ≡ Ok cs → Seen b h.size h.cells (take h.cells m) cs.it
    seen = marks-seen b h.size h.cells h.first s m is room

    answer : mapped (bag_of b m) r ≡ after_head whole b h.size h.cells h.checked (roots_in b h) h.first
    unfolding scanned
    answer = go (raw_cells b h.size h.cells h.first) refl
      where
        go : (x : Res (Past (List Cell))) → raw_cells b h.size h.cells h.first ≡ x
            → mapped (bag_of b m) r ≡ after_head whole b h.size h.cells h.checked (roots_in b h) h.first
        go (Err y) q =
            let a : r ≡ Err y = cells-answer ∙ rw q in
            rw (a, q)
        go (Ok cs) q =
            let a : r ≡ after_scan b whole h m cs.next = cells-answer ∙ rw q in
            rw (a, q) (after_is b whole h m cs.it cs.next (seen cs q).cells)

    kept : (o : OpenBag) → r ≡ Ok o → Kept b rooms m o
    kept o q =
        then_use (scanned b h.size h.cells h.first) _ _ (sym cells-answer ∙ q) λ p x₁ e₁.
        let u = after_open b whole h m p o e₁ in
        let w = header-within b (length s) rooms h e in
        rw u.1 (record {
          size = w.narrow;
          few = w.few;
          scratch = rw long w.scratch-room;
          roots = w.root-room;
          list = omega (arith, w.list-end, w.inside);
          cells = marks-cells b h.size h.cells h.first s m is room p x₁;
        })

  -- the answer is the bag of the definitions
  pub opens-bag : mapped (bag_of b m) r ≡ bag whole (length s) rooms b
  opens-bag = go (header_at b (length s) rooms) refl
    where
      go : (x : Res Header) → header_at b (length s) rooms ≡ x → mapped (bag_of b m) r ≡ bag whole (length s) rooms b
      go (Err q) e =
          let a : bag whole (length s) rooms b ≡ Err q = bag-header whole (length s) rooms b ∙ rw e in
          rw (none-answer q e, a)
      go (Ok h) e = answer h e ∙ sym (bag-header whole (length s) rooms b ∙ rw e)

  pub opens-long : length m ≡ length s
  opens-long = go (header_at b (length s) rooms) refl
    where
      go : (x : Res Header) → header_at b (length s) rooms ≡ x → length m ≡ length s
      go (Err q) e = ap length (none-scratch q e)
      go (Ok h) e = long h e

  -- what is opened keeps to the limits, and its cells can be read
  pub opens_kept : (o : OpenBag) → r ≡ Ok o → Kept b rooms m o
  opens_kept o z = go (header_at b (length s) rooms) refl
    where
      go : (x : Res Header) → header_at b (length s) rooms ≡ x → Kept b rooms m o
      go (Err q) e =
          let n : Err q ≡ Ok o = sym (none-answer q e) ∙ z in
          let y : ◌≡◌ {A = ℕ} 0 1 = cc in
          absurd (omega arith)
      go (Ok h) e = kept h e o z
