-- `store::cell_data` meets its contract. Assumes nothing.
use Rattle.std.proofs.Common.{◌∙◌, sym, arith}
use Rattle.store.proofs.Room.{room, record_room}
use Rattle.store.proofs.cell_data.Goals as goal

pub slice_bounds-result-end-2 : goal.slice_bounds-result-end-2
slice_bounds-result-end-2 c =
    let e = sym c.is_sound.ensures ∙ c.if-not-is_sound.false in
    omega (arith, room _ _ _ e, record_room _ _ _ _ e c.if-n-count.false)
