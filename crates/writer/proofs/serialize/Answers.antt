-- `writer::serialize` meets its contract. Assumes nothing.
use mathlib.Core.Path.{ap, sym, ◌∙◌}
use Prim.Native.Nat.{ℕ}
use lib.ListN.{replicate}
use Rattle.writer.specs.Paper.{Writes}
use Rattle.writer.proofs.Whole.{refused-store, whole}
use Rattle.writer.proofs.serialize.Goals as goal
use Rattle.writer.proofs.serialize.Goals.{then-is_sound, else-is_sound}

pub returns : goal.returns
returns c =
    let a = c.args in
    let s = c.if-is_sound in
    let w : Writes a.args.has_idx a.args.has_crc32c a.store.count a.store.table.now a.store.bytes.now a.n a.scratch.now a.out.now s.answer s.out =
    elim c.if-is_sound.branch [
      | then-is_sound w ↦ rw (w.answer-is, w.out-is) w.write-answer.ensures
      | else-is_sound w ↦
          let u = sym c.is_sound.ensures ∙ w.if-is_sound.false in
          rw (w.answer-is, w.out-is, w.at.ensures) (refused-store a.args.has_idx a.args.has_crc32c a.store.count a.store.table.now a.store.bytes.now a.n a.scratch.now a.out.now u)
    ] in
    whole w (c.fill.ensures.after (λ y e. e) ∙ ap (λ (k : ℕ). replicate k 0) s.auto.scratch)
