-- Worked examples of frames, by computation.
use Rattle.std.specs.Prelude.{◌≡◌, refl, [], ◌∷◌, Ok, Err}
use Rattle.scheme.specs.Refusals.{CUT, REFS, PADDING}
use Rattle.scheme.specs.Res.{refusal}
use Rattle.scheme.specs.Bytes.{chunk, field}
use Rattle.bits.specs.Field.{byte_at, skip_at, skip_fields_at}
use Rattle.raw_cell.specs.Frame.{bits_in, data_at, body_at, frame}

-- 32 bits 000004d2, no references
plain : frame (0 ∷ 8 ∷ 0 ∷ 0 ∷ 4 ∷ 0xd2 ∷ []) 1 0 ≡ Ok (record { exotic = 0; refs = 0; bits = 32; body = 2; links = 6; next = 6 })
unfolding frame body_at data_at bits_in byte_at skip_at skip_fields_at chunk field
plain = refl

-- d2 3, data aa80: the eight bits aa; aa00: PADDING
eight : frame (0 ∷ 3 ∷ 0xaa ∷ 0x80 ∷ []) 1 0 ≡ Ok (record { exotic = 0; refs = 0; bits = 8; body = 2; links = 4; next = 4 })
unfolding frame body_at data_at bits_in byte_at skip_at skip_fields_at chunk field
eight = refl

padding : frame (0 ∷ 3 ∷ 0xaa ∷ 0 ∷ []) 1 0 ≡ Err (refusal PADDING 2)
unfolding frame body_at data_at bits_in byte_at skip_at skip_fields_at chunk field
padding = refl

-- hashes cut short; five references; the second reference cut
hashes-short : frame (0x10 ∷ 0 ∷ 1 ∷ 2 ∷ []) 1 0 ≡ Err (refusal CUT 2)
unfolding frame body_at data_at bits_in byte_at skip_at skip_fields_at chunk field
hashes-short = refl

five : frame (5 ∷ []) 1 0 ≡ Err (refusal REFS 0)
unfolding frame body_at data_at bits_in byte_at skip_at skip_fields_at chunk field
five = refl

second-cut : frame (2 ∷ 0 ∷ 0 ∷ 1 ∷ 0 ∷ []) 2 0 ≡ Err (refusal CUT 4)
unfolding frame body_at data_at bits_in byte_at skip_at skip_fields_at chunk field
second-cut = refl
