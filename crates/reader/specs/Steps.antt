-- The cells that the scratch has places for, placed in a sound store: the start, one cell, and the ends. Assumes nothing.
use Rattle.std.specs.Prelude.{◌≡◌, refl, ℕ, suc, ◌+◌, ◌-◌, ◌*◌, ◌≤◌, ◌<◌, true, get_or, take, drop, set, replicate, Ok, Err}
use Rattle.std.proofs.Common.{sym, ap, ◌∙◌, subst, arith, length-append, length-take-le, get_or-take, take_at}
use mathlib.Core.List.Memᴰ.{head as here}
use mathlib.Core.List.Memᴰ.{tail as there}
use mathlib.Core.List.{List, [], ◌∷◌, ◌++◌, Memᴰ as Mem}
use Rattle.std.proofs.Math.ListN.{length, length-replicate}
use Rattle.std.proofs.Math.Seq.{drop-length}
use Rattle.scheme.specs.Res.{Res}
use Rattle.scheme.specs.declared.Refusal.{Refusal}
use Rattle.scheme.specs.Cells.{Cell, at, with}
use Rattle.scheme.specs.Bits.{bytes_for, cropped}
use Rattle.scheme.specs.Bag.{load}
use Rattle.scheme.specs.Memory.{capacity, cells_of, sound, block_of, blocks, lay_table, lay_bytes}
use Rattle.laws.specs.CellRound.{Fit}
use Rattle.laws.specs.Accept.{Small, cell-fit}
use Rattle.laws.specs.Meaning.{Extends}
use Rattle.laws.specs.Puts.{puts, puts-length, puts-start}
use Rattle.laws.specs.Wf.{Wf}
use Rattle.laws.specs.RoundLaws.{blocks-length, wf-small}
use Rattle.laws.specs.Records.{SoundMemory, sound-is, cells-length}
use Rattle.laws.specs.Lay.{wf-cells, lay-table, lay-bytes, back-table, back-bytes, cells-front}
use Rattle.bits.specs.Field.{numbers_at}
use Rattle.bits.specs.Laws.{length-numbers}
use Rattle.raw_cell.specs.Tie.{cell_in, cell_past}
use Rattle.raw_cell.specs.Block.{block_at}
use Rattle.raw_cell.specs.declared.RawCell.{RawCell}
use Rattle.bag.specs.Places.{IsCell, cell_at, cells_at}
use Rattle.bag.specs.Scan.{cell-is, cells-length as cells-many, cells-get}
use Rattle.bag.specs.Frames.{FrameIs}
use Rattle.store.specs.Paper.{Places, TakesBack}
use Rattle.store.specs.Search.{cell_of}
use Rattle.reader.specs.Filled.{numbers_of, numbered}
use Rattle.reader.specs.Load.{load-extends, length-map, map_below}
use Rattle.reader.specs.Placing.{Placed, lay-length, held_at, sound_now, cells_now, cap_now, refs-held, next, next_low, full}
use Rattle.reader.specs.Paper.{Ready, Over, PlacesAll}

-- bytes by index are bytes by membership
pub small-mem : (b : List ℕ) → ((j : ℕ) → get_or b j 0 < 256) → Small b
small-mem [] h x m = elim m [ ]
small-mem (y ∷ ys) h x (here e) = rw e (h 0)
small-mem (y ∷ ys) h x (there m) = small-mem ys (λ j. h (suc j)) x m

-- ---- one cell, as it is handed to the store

module _ (b : List ℕ) (small : (j : ℕ) → get_or b j 0 < 256) (size p : ℕ) (f : RawCell) (I : FrameIs b size p f) where
  pub cell-here : cell_at b size p ≡ cell_in b size f
  cell-here = cell-is b size p (cell_past b size f) I.is

  fit : Fit (cell_in b size f)
  fit = cell-fit b size p (cell_past b size f) I.is (small-mem b small)

  data_length : length (cropped f.bits (drop f.body b)) ≡ bytes_for f.bits
  data_length = fit.many

  -- its data: 128 bytes, all 0 behind the bits
  module _ (want : List ℕ) (is : want ≡ block_at b f.body f.bits) where
    front : take (bytes_for f.bits) want ≡ cropped f.bits (drop f.body b)
    front = rw is (take_at (cropped f.bits (drop f.body b)) (replicate (128 - length (cropped f.bits (drop f.body b))) 0) (bytes_for f.bits) data_length)

    pub want-length : length want ≡ 128
    want-length =
        rw is (length-append (cropped f.bits (drop f.body b)) (replicate (128 - length (cropped f.bits (drop f.body b))) 0)
        ∙ rw (length-replicate {A = ℕ} (128 - length (cropped f.bits (drop f.body b))) 0, data_length) (omega (arith, fit.few)))

    pub want-clean : (flag : ℕ) (refs : List ℕ) → want ≡ block_of (cell_of flag f.bits want refs)
    want-clean flag refs = is ∙ ap (λ (x : List ℕ). x ++ replicate (128 - length x) 0) (sym front)

    pub cell_handed : (m : List ℕ) (cells : ℕ) (refs : List ℕ) → refs ≡ numbers_of m cells (numbers_at b size f.refs f.links)
        → cell_of f.exotic f.bits want refs ≡ numbered m cells (cell_at b size p)
    cell_handed m cells refs e =
        ap (λ (x : List ℕ). record { exotic = f.exotic; len = f.bits; bytes = x; refs = refs }) front
        ∙ ap (λ (rs : List ℕ). with (cell_in b size f) rs) e
        ∙ ap (λ (c : Cell). numbered m cells c) (sym cell-here)

  -- its references as store numbers, at the front of four
  module _ (m : List ℕ) (cells : ℕ) where
    abbrev named : List ℕ
    named = numbers_of m cells (numbers_at b size f.refs f.links)

    named-length : length named ≡ f.refs
    named-length = length-map (λ (r : ℕ). get_or m (cells + r) 0) (numbers_at b size f.refs f.links) ∙ length-numbers b size f.refs f.links

    pub refs-front : (z out : List ℕ) → length z ≡ 4 → out ≡ puts z 0 named → take f.refs out ≡ named
    refs-front z out e q =
        let h : length named ≤ length z = rw (named-length, e) (rw (sym (length-numbers b size f.refs f.links)) fit.arity) in
        rw (q, puts-start z named h) (take_at named (drop (length named) z) f.refs named-length)

    pub refs-long : (z out : List ℕ) → length z ≡ 4 → out ≡ puts z 0 named → length out ≡ 4
    refs-long z out e q = rw q (puts-length z 0 named ∙ e)

    pub refs-few : (refs : List ℕ) → refs ≡ named → length refs ≤ 4
    refs-few refs e = rw (e, named-length) (rw (sym (length-numbers b size f.refs f.links)) fit.arity)

    pub refs-below : (n : ℕ) → ((r : ℕ) → Mem r (cell_at b size p).refs → (r < cells) × (get_or m (cells + r) 0 < n)) → (refs : List ℕ) → refs ≡ named
        → (k : ℕ) → k < length refs → get_or refs k 0 < n
    refs-below n B refs e = rw e (map_below (λ (r : ℕ). get_or m (cells + r) 0) n (numbers_at b size f.refs f.links) (λ r h. (subst (λ (c : Cell). (r : ℕ) → Mem r c.refs → (r < cells) × (get_or m (cells + r) 0 < n)) cell-here B r h).1))

  pub refs-inside : (cells : ℕ) (m : List ℕ) (n : ℕ) → ((r : ℕ) → Mem r (cell_at b size p).refs → (r < cells) × (get_or m (cells + r) 0 < n)) → (r : ℕ) → Mem r (numbers_at b size f.refs f.links) → r < cells
  refs-inside cells m n B r h = (subst (λ (c : Cell). (r : ℕ) → Mem r c.refs → (r < cells) × (get_or m (cells + r) 0 < n)) cell-here B r h).0

pub places-as : (n : ℕ) (t d : List ℕ) (c e : Cell) (r : Res ℕ) (n' : ℕ) (t' d' : List ℕ) → c ≡ e → Places n t d c r n' t' d' → Places n t d e r n' t' d'
places-as n t d c e r n' t' d' q P = subst (λ (x : Cell). Places n t d x r n' t' d') q P

-- ---- all cells

cells-fit-at : (b : List ℕ) → Small b → (size : ℕ) (ps : List ℕ) → ((k : ℕ) → k < length ps → IsCell b size (get_or ps k 0)) → (c : Cell) → Mem c (cells_at b size ps) → Fit c
unfolding cells_at
cells-fit-at b S size [] W c h = elim h [ ]
cells-fit-at b S size (p ∷ ps) W c (here e) =
    let w = W 0 (omega arith) in
    rw (e ∙ cell-is b size p w.0 w.1) (cell-fit b size p w.0 w.1 S)
cells-fit-at b S size (p ∷ ps) W c (there h) = cells-fit-at b S size ps (λ k g. W (suc k) (omega arith)) c h

pub extends-front : (s l : List Cell) → Extends s l → (take (length s) l ≡ s) × (length s ≤ length l)
extends-front s l E = rw E.is (take_at s E.more-cells (length s) refl, omega (arith, length-append s E.more-cells))

module _ (b : List ℕ) (small : (j : ℕ) → get_or b j 0 < 256) (size cells n : ℕ) (t d m : List ℕ) (R : Ready b size cells n t d m) where
  abbrev cap : ℕ
  cap = capacity t

  abbrev s : List Cell
  s = cells_of n t d

  abbrev cs : List Cell
  cs = cells_at b size (take cells m)

  sm : SoundMemory n t d
  sm = sound-is n t d R.sound-is

  taken : length (take cells m) ≡ cells
  taken = length-take-le cells m (omega (arith, R.room))

  pub many : length cs ≡ cells
  many = cells-many b size (take cells m) ∙ taken

  few : cap ≤ 4096
  few = sm.lengths.few

  wf : Wf s
  wf = wf-cells n t d sm

  F : (c : Cell) → Mem c cs → Fit c
  F = cells-fit-at b (small-mem b small) size (take cells m) (λ k h. rw (get_or-take cells m k 0 (rw taken at h)) (R.whole k (rw taken at h)))

  abbrev PlacedAt : (i n' : ℕ) (t' d' m' : List ℕ) → Type 0
  PlacedAt i n' t' d' m' = Placed cap cells m i (load s i (drop i cs)) n' t' d' m'

  -- before the first
  pub start : PlacedAt cells n t d m
  start =
      let e : drop cells cs ≡ [] = subst (λ (k : ℕ). drop k cs ≡ []) many (drop-length cs) in
      let z : cells - cells ≡ 0 = omega arith in
      subst (λ (l : List Cell). Placed cap cells m cells (load s cells l) n t d m) (sym e)
      (record {
        within = omega arith;
        fits = rw (cells-length n t d) sm.held;
        count = sym (cells-length n t d);
        table = sym (lay-table n t d sm);
        bytes = sym (lay-bytes n t d sm);
        front = refl;
        nums = rw z;
        long = refl;
      })

  module _ (i n' : ℕ) (t' d' m' : List ℕ) (P : PlacedAt i n' t' d' m') where
    pub table-long : length t' ≡ length t
    table-long = let z = sm.lengths in rw P.table (lay-length cap (load s i (drop i cs)).store P.fits ∙ omega (arith, z.whole))

    pub bytes-long : length d' ≡ length d
    unfolding lay_bytes
    bytes-long =
        let z = sm.lengths in
        let l = load s i (drop i cs) in
        let H = held_at cap cells s cs m many few wf F R.linked R.room i in
        rw P.bytes (length-append (blocks l.store) (replicate ((cap - length l.store) * 128) 0)
        ∙ rw (blocks-length l.store (wf-small l.store H.wf), length-replicate {A = ℕ} ((cap - length l.store) * 128) 0) (omega (arith, P.fits, z.bytes)))

    pub sound-here : sound n' t' d' ≡ true
    sound-here = sound_now cap cells s cs m many few wf F R.linked R.room i n' t' d' m' P

  -- one cell more
  module _ (i n' : ℕ) (t' d' m' : List ℕ) (h : i < cells) (P : PlacedAt (suc i) n' t' d' m') where
    place_is : get_or m' i 0 ≡ get_or m i 0
    place_is = sym (get_or-take cells m' i 0 h) ∙ ap (λ (l : List ℕ). get_or l i 0) P.front ∙ get_or-take cells m i 0 h

    cell-at : cell_at b size (get_or m' i 0) ≡ at cs i
    cell-at = ap (λ (p : ℕ). cell_at b size p) (place_is ∙ sym (get_or-take cells m i 0 h)) ∙ sym (cells-get b size (take cells m) i (rw taken h))

    pub cell-there : IsCell b size (get_or m' i 0)
    cell-there = rw place_is (R.whole i h)

    pub cell-refs-held : (r : ℕ) → Mem r (cell_at b size (get_or m' i 0)).refs → (r < cells) × (get_or m' (cells + r) 0 < n')
    cell-refs-held = subst (λ (c : Cell). (r : ℕ) → Mem r c.refs → (r < cells) × (get_or m' (cells + r) 0 < n')) (sym cell-at)
        (refs-held cap cells s cs m many few wf F R.linked R.room i n' t' d' m' h P)

    module _ (r : Res ℕ) (n'' : ℕ) (t'' d'' : List ℕ) (Q : Places n' t' d' (numbered m' cells (cell_at b size (get_or m' i 0))) r n'' t'' d'') where
      Q' : Places n' t' d' (numbered m' cells (at cs i)) r n'' t'' d''
      Q' = places-as n' t' d' _ _ r n'' t'' d'' (ap (λ (c : Cell). numbered m' cells c) cell-at) Q

      pub cell-placed : (k : ℕ) → r ≡ Ok k → PlacedAt i n'' t'' d'' (set m' (cells + i) k)
      cell-placed k e = next cap cells s cs m many few wf F R.linked R.room i n' t' d' m' h P n'' t'' d'' k (sym e ∙ Q'.answer) Q'.count Q'.table Q'.bytes

      pub number-low : (k : ℕ) → r ≡ Ok k → k < 4096
      number-low k e = next_low cap cells s cs m many few wf F R.linked R.room i n' t' d' m' h P n'' t'' d'' k (sym e ∙ Q'.answer)

      pub cell-over : (q : Refusal) → r ≡ Err q → Over cap s cs q n'' t'' d''
      cell-over q e =
          let x = full cap cells s cs m many few wf F R.linked R.room i n' t' d' m' h P n'' t'' d'' q (sym e ∙ Q'.answer) Q'.count Q'.table Q'.bytes in
          let l = load s (suc i) (drop (suc i) cs) in
          let E = extends-front s l.store (load-extends s (suc i) (drop (suc i) cs)) in
          let c = cells_now cap cells s cs m many few wf F R.linked R.room (suc i) n' t' d' m' P in
          let g : length s ≤ n' = rw P.count E.1 in
          rw (x.2, x.3, x.4) (record {
            number = x.0;
            over = x.1;
            sound-is = sound-here (suc i) n' t' d' m' P;
            more = g;
            front = sym (cells-front (length s) n' t' d' g) ∙ ap (λ (y : List Cell). take (length s) y) c ∙ E.0;
            cap-is = cap_now cap cells s cs m many few wf F R.linked R.room (suc i) n' t' d' m' P;
          })

      pub over-long : (q : Refusal) → r ≡ Err q → (length t'' ≡ length t) × (length d'' ≡ length d)
      over-long q e =
          let x = full cap cells s cs m many few wf F R.linked R.room i n' t' d' m' h P n'' t'' d'' q (sym e ∙ Q'.answer) Q'.count Q'.table Q'.bytes in
          (ap length x.3 ∙ table-long (suc i) n' t' d' m' P, ap length x.4 ∙ bytes-long (suc i) n' t' d' m' P)

  -- the two ends
  pub stops : (q : Refusal) (n' : ℕ) (t' d' m' : List ℕ) → length m' ≡ length m → Over cap s cs q n' t' d' → PlacesAll b size cells n t d m (Err q) n' t' d' m'
  stops q n' t' d' m' l O = record {
    long = l;
    all = λ e. let z : ◌≡◌ {A = ℕ} 0 1 = cc in absurd (omega arith);
    full = λ p e. let z : q ≡ p = cc in subst (λ (x : Refusal). Over cap s cs x n' t' d') z O;
  }

  pub ends : (n' : ℕ) (t' d' m' : List ℕ) → PlacedAt 0 n' t' d' m' → PlacesAll b size cells n t d m (Ok tt) n' t' d' m'
  ends n' t' d' m' P = record { long = P.long; all = λ e. P; full = λ p e. let z : ◌≡◌ {A = ℕ} 0 1 = cc in absurd (omega arith) }

-- what was placed is taken back: the memory is as it was
module _ (n : ℕ) (t d : List ℕ) (cs : List Cell) (q : Refusal) (sd : sound n t d ≡ true) (n' : ℕ) (t' d' : List ℕ) (O : Over (capacity t) (cells_of n t d) cs q n' t' d') where
  pub over-more : n ≤ n'
  over-more = rw (cells-length n t d) at O.more

  module _ (n'' : ℕ) (t'' d'' : List ℕ) (B : TakesBack t' d' n n'' t'' d'') where
    cells-then : cells_of n t' d' ≡ cells_of n t d
    cells-then = ap (λ (k : ℕ). cells_of k t' d') (sym (cells-length n t d)) ∙ O.front

    pub table-back : t'' ≡ t
    table-back =
        B.table ∙ back-table n' t' d' (sound-is n' t' d' O.sound-is) n over-more
        ∙ ap (λ (k : ℕ). lay_table k (cells_of n t' d')) O.cap-is
        ∙ ap (λ (l : List Cell). lay_table (capacity t) l) cells-then
        ∙ lay-table n t d (sound-is n t d sd)

    pub bytes_back : d'' ≡ d
    bytes_back =
        B.bytes ∙ back-bytes n' t' d' (sound-is n' t' d' O.sound-is) n over-more
        ∙ ap (λ (k : ℕ). lay_bytes k (cells_of n t' d')) O.cap-is
        ∙ ap (λ (l : List Cell). lay_bytes (capacity t) l) cells-then
        ∙ lay-bytes n t d (sound-is n t d sd)
