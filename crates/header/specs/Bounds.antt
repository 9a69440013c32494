-- What a header keeps to. Assumes nothing.
use Rattle.std.specs.Prelude.{ℕ, ◌+◌, ◌*◌, ◌≤◌, ◌≡◌, Bool, true, false, cond, List, length, leb, Ok}
use Rattle.std.proofs.Common.{arith, mul-le-mul_left, leb-true}
use Rattle.laws.specs.Accept.{then_use, check_inv}
use Rattle.scheme.specs.Refusals.{SIZE, OFFSET, COUNTS, CELLS, SCRATCH, ROOTROOM}
use Rattle.scheme.specs.Res.{check, refusal}
use Rattle.scheme.specs.declared.Refusal.{Refusal}
use Rattle.scheme.specs.Layout.{tag_ok, layout}
use Rattle.bits.specs.Field.{field_at, byte_at, skip_at, skip_fields_at}
use Rattle.bits.specs.Laws.{field-ok, skip-past, skip-fields-end}
use Rattle.header.specs.Header.{layout_of, flags_at, checked_counts, counts_at, places_at, header_at}
use Rattle.header.specs.declared.Flags.{Flags}
use Rattle.header.specs.declared.Counts.{Counts}
use Rattle.header.specs.declared.Header.{Header}

passed : (n m : ℕ) (r : Refusal) (u : Unit {0}) → check (leb n m) r ≡ Ok u → n ≤ m
passed n m r u e = leb-true n m (check_inv (leb n m) r u e)

-- the counts c of a header whose places take `size` bytes
pub record Counted (size scratch room : ℕ) (c : Counts) : Type 0 where
  pub few : c.cells ≤ 4096
  pub held : c.roots ≤ c.cells
  pub scratch-room : 2 * c.cells ≤ scratch
  pub root-room : c.roots ≤ room
  pub place : c.next ≡ 6 + 3 * size

-- a header m of the bytes b
pub record Within (b : List ℕ) (scratch room : ℕ) (m : Header) : Type 0 where
  pub narrow : m.size ≤ 4
  pub few : m.cells ≤ 4096
  pub held : m.roots ≤ m.cells
  pub scratch-room : 2 * m.cells ≤ scratch
  pub root-room : m.roots ≤ room
  -- the root list lies before the first cell, and both within the bytes
  pub list-end : m.list + m.roots * m.size ≤ m.first
  pub inside : m.first ≤ length b
  pub near : m.first ≤ 26 + 12 * 4096

least : (t : Bool) (n : ℕ) → cond t n 0 ≤ n
least true n = omega arith
least false n = omega arith

pub header-within : (b : List ℕ) (scratch room : ℕ) (m : Header) → header_at b scratch room ≡ Ok m → Within b scratch room m
unfolding header_at places_at flags_at counts_at checked_counts
header-within b scratch room m e =
    then_use (flags_at b) _ _ e λ f x₁ e₁.
    then_use (counts_at b f.layout.size scratch room) _ _ e₁ λ c x₂ e₂.
    then_use (skip_at b c.next f.off) _ _ e₂ λ list x₃ e₃.
    then_use (skip_fields_at b f.layout.size c.roots list) _ _ e₃ λ index x₄ e₄.
    then_use (skip_fields_at b f.off (cond f.layout.indexed c.cells 0) index) _ _ e₄ λ first x₅ e₅.
    let k₁ = flags-within b f x₁ in
    let k₂ = counts-within b f.layout.size scratch room c k₁.0 x₂ in
    let k₃ = skip-past b c.next f.off list x₃ in
    let k₄ = skip-fields-end b f.layout.size c.roots list index x₄ in
    let k₅ = skip-fields-end b f.off (cond f.layout.indexed c.cells 0) index first x₅ in
    let l = least f.layout.indexed c.cells in
    let w₁ = mul-le-mul_left c.roots k₁.0 in
    let w₂ = mul-le-mul_left (cond f.layout.indexed c.cells 0) k₁.1 in
    let r : m ≡ record { checked = f.layout.checked; size = f.layout.size; cells = c.cells; roots = c.roots; list = list; first = first } = cc in
    rw r (record {
      narrow = k₁.0;
      few = k₂.few;
      held = k₂.held;
      scratch-room = k₂.scratch-room;
      root-room = k₂.root-room;
      list-end = omega arith;
      inside = rw k₅.0 (k₅.1 (rw k₄.0 (k₄.1 (omega arith))));
      near = omega arith;
    })
  where
    flags-within : (b : List ℕ) (f : Flags) → flags_at b ≡ Ok f → (f.layout.size ≤ 4) × (f.off ≤ 8)
    flags-within b f e =
        then_use (field_at b 0 4) _ _ e λ tag x₁ e₁.
        then_use (tag_ok tag.0) _ _ e₁ λ u₂ x₂ e₂.
        then_use (byte_at b tag.1) _ _ e₂ λ flags x₃ e₃.
        then_use (check (leb (layout tag.0 flags.0).size 4) (refusal SIZE 4)) _ _ e₃ λ u₄ x₄ e₄.
        then_use (byte_at b flags.1) _ _ e₄ λ off x₅ e₅.
        then_use (check (leb off.0 8) (refusal OFFSET 5)) _ _ e₅ λ u₆ x₆ e₆.
        let r : f ≡ record { layout = layout_of (layout tag.0 flags.0); off = off.0 } = cc in
        rw r (passed (layout tag.0 flags.0).size 4 (refusal SIZE 4) u₄ x₄, passed off.0 8 (refusal OFFSET 5) u₆ x₆)

    counts-within : (b : List ℕ) (size scratch room : ℕ) (c : Counts) → size ≤ 4 → counts_at b size scratch room ≡ Ok c → Counted size scratch room c
    counts-within b size scratch room c h e =
        then_use (field_at b 6 size) _ _ e λ cells x₁ e₁.
        then_use (field_at b cells.1 size) _ _ e₁ λ roots x₂ e₂.
        then_use (field_at b roots.1 size) _ _ e₂ λ absent x₃ e₃.
        then_use (check (leb (roots.0 + absent.0) cells.0) (refusal COUNTS 6)) _ _ e₃ λ u₄ x₄ e₄.
        then_use (check (leb cells.0 4096) (refusal CELLS 6)) _ _ e₄ λ u₅ x₅ e₅.
        then_use (check (leb (2 * cells.0) scratch) (refusal SCRATCH (2 * cells.0))) _ _ e₅ λ u₆ x₆ e₆.
        then_use (check (leb roots.0 room) (refusal ROOTROOM roots.0)) _ _ e₆ λ u₇ x₇ e₇.
        let g : size ≤ 8 = omega arith in
        let k₁ = field-ok b 6 size g cells x₁ in
        let k₂ = field-ok b cells.1 size g roots x₂ in
        let k₃ = field-ok b roots.1 size g absent x₃ in
        let r : c ≡ record { cells = cells.0; roots = roots.0; next = absent.1 } = cc in
        rw r (record {
          few = passed cells.0 4096 (refusal CELLS 6) u₅ x₅;
          held = omega (arith, passed (roots.0 + absent.0) cells.0 (refusal COUNTS 6) u₄ x₄);
          scratch-room = passed (2 * cells.0) scratch (refusal SCRATCH (2 * cells.0)) u₆ x₆;
          root-room = passed roots.0 room (refusal ROOTROOM roots.0) u₇ x₇;
          place = omega arith;
        })
