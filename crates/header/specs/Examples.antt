-- Worked examples of headers, by computation.
use Rattle.std.specs.Prelude.{◌≡◌, refl, true, false, [], ◌∷◌, Ok, Err}
use Rattle.scheme.specs.Refusals.{CUT, INDEXED, SCRATCH}
use Rattle.scheme.specs.Res.{refusal}
use Rattle.scheme.specs.Bytes.{chunk, field}
use Rattle.scheme.specs.Layout.{tag_ok, layout}
use Rattle.bits.specs.Field.{field_at, byte_at, skip_at, skip_fields_at}
use Rattle.header.specs.Header.{flags_at, checked_counts, counts_at, places_at, header_at}

-- one cell, one root; then with an index and a checksum
plain : header_at (0xb5 ∷ 0xee ∷ 0x9c ∷ 0x72 ∷ 1 ∷ 1 ∷ 1 ∷ 1 ∷ 0 ∷ 6 ∷ 0 ∷ []) 2 1 ≡ Ok (record { checked = false; size = 1; cells = 1; roots = 1; list = 10; first = 11 })
unfolding header_at flags_at counts_at checked_counts places_at field_at byte_at skip_at skip_fields_at chunk field tag_ok layout
plain = refl

indexed : header_at (0xb5 ∷ 0xee ∷ 0x9c ∷ 0x72 ∷ 0xc1 ∷ 1 ∷ 1 ∷ 1 ∷ 0 ∷ 6 ∷ 0 ∷ 0 ∷ []) 2 1 ≡ Ok (record { checked = true; size = 1; cells = 1; roots = 1; list = 10; first = 12 })
unfolding header_at flags_at counts_at checked_counts places_at field_at byte_at skip_at skip_fields_at chunk field tag_ok layout
indexed = refl

-- nothing; an indexed tag; scratch one entry short; the root list cut
empty : header_at [] 2 1 ≡ Err (refusal CUT 0)
unfolding header_at flags_at counts_at checked_counts places_at field_at byte_at skip_at skip_fields_at chunk field tag_ok layout
empty = refl

other_tag : header_at (0x68 ∷ 0xff ∷ 0x65 ∷ 0xf3 ∷ []) 2 1 ≡ Err (refusal INDEXED 0)
unfolding header_at flags_at counts_at checked_counts places_at field_at byte_at skip_at skip_fields_at chunk field tag_ok layout
other_tag = refl

scratch-short : header_at (0xb5 ∷ 0xee ∷ 0x9c ∷ 0x72 ∷ 1 ∷ 1 ∷ 1 ∷ 1 ∷ 0 ∷ []) 1 1 ≡ Err (refusal SCRATCH 2)
unfolding header_at flags_at counts_at checked_counts places_at field_at byte_at skip_at skip_fields_at chunk field tag_ok layout
scratch-short = refl

list-cut : header_at (0xb5 ∷ 0xee ∷ 0x9c ∷ 0x72 ∷ 1 ∷ 1 ∷ 1 ∷ 1 ∷ 0 ∷ 6 ∷ []) 2 1 ≡ Err (refusal CUT 10)
unfolding header_at flags_at counts_at checked_counts places_at field_at byte_at skip_at skip_fields_at chunk field tag_ok layout
list-cut = refl
