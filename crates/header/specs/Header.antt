-- The header of the bytes b by place: what `header`, `root_list` and `index` read, without the values of total, roots and index.
use Rattle.std.specs.Prelude.{ℕ, ◌+◌, cond, List, leb, Ok}
use Rattle.scheme.specs.Refusals.{SIZE, OFFSET, COUNTS, CELLS, SCRATCH, ROOTROOM}
use Rattle.scheme.specs.Limits.{max_cells}
use Rattle.scheme.specs.Res.{Res, then, check, refusal}
use Rattle.scheme.specs.Layout.{tag_ok, Layout as Shape, layout}
use Rattle.scheme.specs.Bag.{read_scratch}
use Rattle.bits.specs.Field.{field_at, byte_at, skip_at, skip_fields_at}
use Rattle.header.specs.declared.Layout.{Layout}
use Rattle.header.specs.declared.Flags.{Flags}
use Rattle.header.specs.declared.Counts.{Counts}
use Rattle.header.specs.declared.Header.{Header}

-- the layout as the code keeps it: the generic tag has a root list
abbrev pub layout_of : Shape → Layout
layout_of s = record { size = s.size; indexed = s.has_idx; checked = s.has_crc }

-- what the tag and byte 4 say, and off_bytes
unfoldable pub flags_at : List ℕ → Res Flags
flags_at b =
    then (field_at b 0 4) λ tag.
    then (tag_ok tag.0) λ _.
    then (byte_at b tag.1) λ flags.
    then (check (leb (layout tag.0 flags.0).size 4) (refusal SIZE 4)) λ _.
    then (byte_at b flags.1) λ off.
    then (check (leb off.0 8) (refusal OFFSET 5)) λ _.
    Ok (record { layout = layout_of (layout tag.0 flags.0); off = off.0 })

-- COUNTS, CELLS, SCRATCH, ROOTROOM; `scratch` entries and `room` root places are lent
unfoldable pub checked_counts : ℕ → ℕ → ℕ → ℕ → ℕ → ℕ → Res Counts
checked_counts cells roots absent next scratch room =
    then (check (leb (roots + absent) cells) (refusal COUNTS 6)) λ _.
    then (check (leb cells max_cells) (refusal CELLS 6)) λ _.
    then (check (leb (read_scratch cells) scratch) (refusal SCRATCH (read_scratch cells))) λ _.
    then (check (leb roots room) (refusal ROOTROOM roots)) λ _.
    Ok (record { cells = cells; roots = roots; next = next })

-- cells, roots, absent
unfoldable pub counts_at : List ℕ → ℕ → ℕ → ℕ → Res Counts
counts_at b size scratch room =
    then (field_at b 6 size) λ cells.
    then (field_at b cells.1 size) λ roots.
    then (field_at b roots.1 size) λ absent.
    checked_counts cells.0 roots.0 absent.0 absent.1 scratch room

-- total, root list, index
unfoldable pub places_at : List ℕ → Flags → Counts → Res Header
places_at b f c =
    then (skip_at b c.next f.off) λ list.
    then (skip_fields_at b f.layout.size c.roots list) λ index.
    then (skip_fields_at b f.off (cond f.layout.indexed c.cells 0) index) λ first.
    Ok (record { checked = f.layout.checked; size = f.layout.size; cells = c.cells; roots = c.roots; list = list; first = first })

unfoldable pub header_at : List ℕ → ℕ → ℕ → Res Header
header_at b scratch room =
    then (flags_at b) λ f.
    then (counts_at b f.layout.size scratch room) λ c.
    places_at b f c
