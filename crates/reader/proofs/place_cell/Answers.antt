-- `reader::place_cell` meets its contract: what is handed to the store is the cell that stands there, with store numbers. Assumes nothing.
use Prim.Native.Nat.{ℕ, ◌<◌, ◌≤◌}
use mathlib.Core.Path.{◌≡◌, ◌∙◌, sym, refl}
use mathlib.Core.List.{[]}
use native.Mathlib.Omega.{arith}
use lib.ListN.{length, get_or, take}
use lib.Seq.{length-take-le}
use Rattle.bits.specs.Field.{numbers_at}
use Rattle.bag.specs.Frames.{FrameIs, frame-bad, frame-ok}
use Rattle.reader.specs.Filled.{numbers_of}
use Rattle.reader.specs.Steps.{want-length, want-clean, cell_handed, refs-front, refs-long, refs-few, refs-below, refs-inside, places-as}
use Rattle.reader.proofs.place_cell.Goals as goal
use Rattle.reader.proofs.place_cell.Goals.{In_ok-f, After-fill_numbers}

-- the bytes of the reply, and the cell that is read
bytes : (d : In_ok-f) → (j : ℕ) → get_or d.args.reply.now j 0 < 256
bytes d j = omega (arith, d.type_inv.reply j)

cell : (d : In_ok-f) → let a = d.args in FrameIs a.reply.now a.o.size a.at d.in_ok-f.f
cell d = frame-ok _ (bytes d) _ _ _ (sym d.raw_cell.ensures ∙ d.in_ok-f.was)

pub returns-in_err-f : goal.returns-in_err-f
returns-in_err-f c =
    let e = frame-bad _ (λ j. omega (arith, c.type_inv.reply j)) _ _ _ (sym c.raw_cell.ensures ∙ c.in_err-f.was) in
    let g = c.requires.size_bound.3.1 in
    let z : ◌≡◌ {A = ℕ} 0 1 = cc (sym e ∙ g) in
    absurd (omega arith)

pub copy_data-requires : goal.copy_data-requires
copy_data-requires c =
    let w = (cell (goal.at.copy_data-requires c).In_ok-f).within in
    record { bits_bound = omega (arith, w.few); bits_in_bounds = omega (arith, w.bytes, w.refs_end, w.inside); out_len = refl }

pub fill_numbers-requires : goal.fill_numbers-requires
fill_numbers-requires c =
    let s = c.requires.size_bound in
    let d = (goal.at.fill_numbers-requires c).In_ok-f in
    let f = cell d in
    record {
      size_bound = (s.0, rw c.from-n.ensures f.room);
      cells_bound = (s.1, s.2, rw c.from-n.ensures f.within.arity);
      by_index = rw c.from-n.ensures (refs-inside _ (bytes d) _ _ _ f _ c.args.scratch.now c.args.count.now c.requires.by_index);
    }

-- the references as store numbers, at the front of four
long : (d : After-fill_numbers) → length d.fill_numbers.new.out ≡ 4
long d =
    let h = (goal.at.After-fill_numbers d).In_ok-f in
    refs-long _ (bytes h) _ _ _ (cell h) d.args.scratch.now d.args.o.cells _ _ refl (rw d.from-n.ensures at d.fill_numbers.ensures)

front : (d : After-fill_numbers) →
    let a = d.args in
    let f = d.in_ok-f.f in
    take d.from-n.result d.fill_numbers.new.out ≡ numbers_of a.scratch.now a.o.cells (numbers_at a.reply.now a.o.size f.refs f.links)
front d =
    let h = (goal.at.After-fill_numbers d).In_ok-f in
    rw d.from-n.ensures (refs-front _ (bytes h) _ _ _ (cell h) d.args.scratch.now d.args.o.cells _ _ refl (rw d.from-n.ensures at d.fill_numbers.ensures))

few : (d : After-fill_numbers) → d.from-n.result ≤ length d.fill_numbers.new.out
few d = rw (long d, d.from-n.ensures) (cell (goal.at.After-fill_numbers d).In_ok-f).within.arity

pub slice_bounds-refs-end : goal.slice_bounds-refs-end
slice_bounds-refs-end c = few (goal.at.slice_bounds-refs-end c).After-fill_numbers

pub slice_bounds-content-end-2 : goal.slice_bounds-content-end-2
slice_bounds-content-end-2 c = sym (length-take-le _ _ (few (goal.at.slice_bounds-content-end-2 c).After-fill_numbers))

pub place-requires : goal.place-requires
place-requires c =
    let m = c.args.scratch.now in
    let h = (goal.at.place-requires c).In_ok-f in
    let w = (cell h).within in
    let e = front (goal.at.place-requires c).After-fill_numbers in
    let is = c.copy_data.ensures in
    record {
      bytes_value = c.requires.bytes_value;
      flag_bound = (rw c.from.ensures w.flag, w.few, want-length _ (bytes h) _ _ _ (cell h) _ is, refs-few _ (bytes h) _ _ _ (cell h) m c.args.o.cells _ e);
      block_value = want-clean _ (bytes h) _ _ _ (cell h) _ is 0 [];
      by_index = refs-below _ (bytes h) _ _ _ (cell h) m c.args.o.cells c.args.count.now c.requires.by_index _ e;
    }

pub returns : goal.returns
returns c =
    let h = (goal.at.returns c).In_ok-f in
    let e = front (goal.at.returns c).After-fill_numbers in
    let q = cell_handed _ (bytes h) _ _ _ (cell h) _ c.copy_data.ensures c.args.scratch.now c.args.o.cells _ e in
    places-as _ _ _ _ _ _ _ _ _ q (rw c.from.ensures at c.place.ensures)
