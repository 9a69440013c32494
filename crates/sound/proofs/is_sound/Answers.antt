-- `sound::is_sound` meets its contract. Assumes nothing.
use Prim.Native.Nat.{◌*◌}
use mathlib.Core.Path.{sym, ◌∙◌}
use native.Mathlib.Omega.{arith}
use borrow.Author.Tests.{ne_eqb, eq-eqb, le-leb}
use Rattle.scheme.specs.Memory.{sound}
use Rattle.laws.specs.Records.{Sized, sized-is}
use Rattle.sound.proofs.Laws.{zero_rest}
use Rattle.sound.proofs.is_sound.Goals as goal
use Rattle.sound.proofs.is_sound.Goals.{Else-not-is_sized}

lengths : (c : Else-not-is_sized) → Sized c.args.store.table.now c.args.store.bytes.now
lengths c = sized-is _ _ (sym c.is_sized.ensures ∙ c.if-not-is_sized.false)

pub sound_cells-requires : goal.sound_cells-requires
sound_cells-requires c = let s = lengths (goal.at.sound_cells-requires c).Else-not-is_sized in omega arith

pub overflow_mul-from : goal.overflow_mul-from
overflow_mul-from c = let s = lengths (goal.at.overflow_mul-from c).Else-not-is_sized in omega arith

pub slice_bounds-joined-count-2 : goal.slice_bounds-joined-count-2
slice_bounds-joined-count-2 c = let s = lengths (goal.at.slice_bounds-joined-count-2 c).Else-not-is_sized in omega arith

pub slice_bounds-joined-start-2 : goal.slice_bounds-joined-start-2
slice_bounds-joined-start-2 c = let s = lengths (goal.at.slice_bounds-joined-start-2 c).Else-not-is_sized in omega arith

pub returns-then-joined-ne0 : goal.returns-then-joined-ne0
unfolding sound
returns-then-joined-ne0 c =
    simp (
      sym c.is_sized.ensures ∙ c.if-not-is_sized.false,
      le-leb _ _ (rw c.room.ensures at c.if-store-room.false),
      sym c.sound_cells.ensures ∙ c.if-not-sound_cells.false,
      sym (zero_rest (c.args.store.count * 7) c.args.store.table.now _ c.joined.ensures),
      ne_eqb _ _ c.if-joined-ne0.true,
    )

pub returns : goal.returns
unfolding sound
returns c =
    simp (
      sym c.is_sized.ensures ∙ c.if-not-is_sized.false,
      le-leb _ _ (rw c.room.ensures at c.if-store-room.false),
      sym c.sound_cells.ensures ∙ c.if-not-sound_cells.false,
      sym (zero_rest (c.args.store.count * 7) c.args.store.table.now _ c.joined.ensures),
      eq-eqb _ _ c.if-joined-ne0.false,
      zero_rest (c.args.store.count * 128) c.args.store.bytes.now _ c.joined-2.ensures,
    )
