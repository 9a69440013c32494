-- Worked texts: what the grammar, the fields and the places of cut replies come to on worked bags of the rules.
use Rattle.std.specs.Prelude.{◌≡◌, refl, ℕ, true, false, List, [], ◌∷◌, map, replicate, Ok}
use Rattle.scheme.specs.Bytes.{chunk, field}
use Rattle.scheme.specs.Crc.{crc_step, crc_steps, crc_byte, crc_run, crc_of}
use Rattle.scheme.specs.Layout.{tag_ok, layout}
use Rattle.scheme.specs.Bag.{header, numbers, root_list, index, bits, raw_cell, checksum, bag}
use Rattle.theorems.specs.Places.{cut_place, cell_fields, front_fields, bag_fields}
use Rattle.theorems.specs.Grammar.{RawCell, refs_descriptor, bits_descriptor, cell_text, cell_of, Head, byte4, unsigned, serialized, bag_of}
use Rattle.theorems.specs.Written.{raw_of, head_for}

abbrev one : RawCell
one = raw_of (record { exotic = 0; len = 32; bytes = 0x00 ∷ 0x00 ∷ 0x04 ∷ 0xd2 ∷ []; refs = [] })

-- the cell of 32 bits, without and with an index
one-text : serialized (head_for false false (one ∷ [])) (one ∷ [])
    ≡ 0xb5 ∷ 0xee ∷ 0x9c ∷ 0x72 ∷ 0x01 ∷ 0x01 ∷ 0x01 ∷ 0x01 ∷ 0x00 ∷ 0x06 ∷ 0x00 ∷ 0x00 ∷ 0x08 ∷ 0x00 ∷ 0x00 ∷ 0x04 ∷ 0xd2 ∷ []
unfolding serialized unsigned byte4 cell_text refs_descriptor bits_descriptor raw_of head_for
one-text = refl

one-indexed : serialized (head_for true false (one ∷ [])) (one ∷ [])
    ≡ 0xb5 ∷ 0xee ∷ 0x9c ∷ 0x72 ∷ 0x81 ∷ 0x01 ∷ 0x01 ∷ 0x01 ∷ 0x00 ∷ 0x06 ∷ 0x00 ∷ 0x00 ∷ 0x00 ∷ 0x08 ∷ 0x00 ∷ 0x00 ∷ 0x04 ∷ 0xd2 ∷ []
unfolding serialized unsigned byte4 cell_text refs_descriptor bits_descriptor raw_of head_for
one-indexed = refl

-- the diamond: aa refers to bb and cc, both to an empty cell
abbrev diamond : List RawCell
diamond =
    raw_of (record { exotic = 0; len = 8; bytes = 0xaa ∷ []; refs = 1 ∷ 2 ∷ [] })
    ∷ raw_of (record { exotic = 0; len = 8; bytes = 0xbb ∷ []; refs = 3 ∷ [] })
    ∷ raw_of (record { exotic = 0; len = 8; bytes = 0xcc ∷ []; refs = 3 ∷ [] })
    ∷ raw_of (record { exotic = 0; len = 0; bytes = []; refs = [] })
    ∷ []

abbrev diamond_bytes : List ℕ
diamond_bytes =
    0xb5 ∷ 0xee ∷ 0x9c ∷ 0x72 ∷ 0x01 ∷ 0x01 ∷ 0x04 ∷ 0x01 ∷ 0x00 ∷ 0x0f ∷ 0x00
    ∷ 0x02 ∷ 0x02 ∷ 0xaa ∷ 0x01 ∷ 0x02 ∷ 0x01 ∷ 0x02 ∷ 0xbb ∷ 0x03 ∷ 0x01 ∷ 0x02 ∷ 0xcc ∷ 0x03 ∷ 0x00 ∷ 0x00 ∷ []

diamond-text : serialized (head_for false false diamond) diamond ≡ diamond_bytes
unfolding serialized unsigned byte4 cell_text refs_descriptor bits_descriptor raw_of head_for
diamond-text = refl

-- its fields, and the places of CUT for its fronts of 0 to 25 bytes
diamond-fields : bag_fields diamond_bytes
    ≡ 4 ∷ 1 ∷ 1 ∷ 1 ∷ 1 ∷ 1 ∷ 1 ∷ 1 ∷ 1 ∷ 1 ∷ 0 ∷ 1 ∷ 1 ∷ 1 ∷ 1 ∷ 1 ∷ 0 ∷ 1 ∷ 1 ∷ 1 ∷ 1 ∷ 0 ∷ 1 ∷ 1 ∷ 1 ∷ 1 ∷ 0 ∷ 0 ∷ []
unfolding bag_fields front_fields cell_fields
diamond-fields = refl

diamond_cuts : map (λ (k : ℕ). cut_place 0 k (bag_fields diamond_bytes)) (0 ∷ 1 ∷ 2 ∷ 3 ∷ 4 ∷ 5 ∷ 11 ∷ 13 ∷ 25 ∷ []) ≡ 0 ∷ 0 ∷ 0 ∷ 0 ∷ 4 ∷ 5 ∷ 11 ∷ 13 ∷ 25 ∷ []
unfolding bag_fields front_fields cell_fields
diamond_cuts = refl

-- data bytes aa80 of a completed cell are the eight bits aa; 80 alone is no bits
abbrev completed : List ℕ → RawCell
completed xs = record { exotic = 0; level = 0; has-hashes = false; hashes = []; completed = true; content = xs; refs = [] }

completed_aa80 : cell_of (completed (0xaa ∷ 0x80 ∷ [])) ≡ record { exotic = 0; len = 8; bytes = 0xaa ∷ []; refs = [] }
unfolding cell_of
completed_aa80 = refl

completed_80 : cell_of (completed (0x80 ∷ [])) ≡ record { exotic = 0; len = 0; bytes = []; refs = [] }
unfolding cell_of
completed_80 = refl

-- a looser bag: hashes, a level, cache bits, flags, a checksum, an absent cell, no root, and a total of no bytes
abbrev loose_head : Head
loose_head = record { size = 1; off = 0; has_idx = true; has_crc = true; has_cache = true; flags = 3; absent = 1; total = 0; roots = []; index = 0 ∷ [] }

abbrev loose_cells : List RawCell
loose_cells = record { exotic = 1; level = 5; has-hashes = true; hashes = replicate 102 0x5a; completed = true; content = 0xb0 ∷ []; refs = [] } ∷ []

loose_read : bag true 2 0 (serialized loose_head loose_cells) ≡ Ok (bag_of loose_head loose_cells)
unfolding bag header field chunk tag_ok layout root_list index numbers raw_cell bits checksum crc_of crc_run crc_byte crc_steps crc_step bag_of serialized unsigned byte4 cell_text refs_descriptor bits_descriptor cell_of
loose_read = refl

loose_says : bag_of loose_head loose_cells ≡ record { used = 118; cells = record { exotic = 1; len = 3; bytes = 0xa0 ∷ []; refs = [] } ∷ []; roots = [] }
unfolding bag_of serialized unsigned byte4 cell_text refs_descriptor bits_descriptor cell_of
loose_says = refl
