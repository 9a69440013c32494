-- `writer::put_cell` meets its contract: at each place, what is left of the cell. Assumes nothing.
use Prim.Native.Nat.{ℕ, ◌+◌, ◌*◌}
use mathlib.Core.Path.{◌≡◌, ap, ap₂, ◌∙◌, subst}
use mathlib.Core.List.{List, [], ◌∷◌, ◌++◌, append-nil}
use native.Mathlib.Omega.{arith}
use native.Mathlib.Nat.{add-zero}
use lib.ListN.{length, get_or}
use Rattle.scheme.specs.Write.{bits_descriptor, padded, all_be, cell_bytes}
use Rattle.scheme.specs.Memory.{cell_at}
use Rattle.laws.specs.Records.{refs_at}
use Rattle.laws.specs.Puts.{puts}
use Rattle.writer.specs.Bytes.{places_of, placed_cell}
use Rattle.writer.proofs.Listing.{Next, next_start, next-room, next-turn, next-done}
use Rattle.writer.proofs.Data.{cell_parts}
use Rattle.writer.proofs.put_cell.Goals as goal
use Rattle.writer.proofs.put_cell.Goals.{After-put_byte-a, After-put_byte-b, After-put_data-d, Start}

abbrev whole₀ : Start → List ℕ
whole₀ s = cell_bytes s.args.shape.size (placed_cell s.args.cells.table.now s.args.cells.bytes.now s.args.scratch.now s.args.cells.count s.args.x)

abbrev Left : Start → List ℕ → ℕ → List ℕ → Type 0
Left s o to rest = Next (puts s.args.out.now s.args.at (whole₀ s)) (s.args.at + length (whole₀ s)) o to rest

abbrev data₀ : Start → List ℕ
data₀ s = padded (cell_at s.args.cells.table.now s.args.cells.bytes.now s.args.x)

abbrev refs₀ : Start → List ℕ
refs₀ s = all_be s.args.shape.size (places_of s.args.scratch.now s.args.cells.count (refs_at s.args.cells.table.now s.args.x))

-- the two descriptors
abbrev d1 : Start → ℕ
d1 s = get_or s.args.cells.table.now (s.args.x * 7 + 2) 0 + 8 * get_or s.args.cells.table.now (s.args.x * 7) 0 + 32 * 0

abbrev d2 : Start → ℕ
d2 s = bits_descriptor (get_or s.args.cells.table.now (s.args.x * 7 + 1) 0)

left₀ : (s : Start) → Left s s.args.out.now s.args.at ((d1 s ∷ []) ++ ((d2 s ∷ []) ++ (data₀ s ++ (refs₀ s ++ []))))
left₀ s =
    rw (append-nil (refs₀ s))
    (subst (λ (l : List ℕ). Left s s.args.out.now s.args.at l) (cell_parts s.args.cells.table.now s.args.cells.bytes.now s.args.scratch.now s.args.cells.count s.args.shape.size s.args.x s.requires.cell_ok.ok)
    (next_start s.args.out.now s.args.at (whole₀ s) s.requires.x_in_bounds))

abbrev start₁ : After-put_byte-a → Start
start₁ c = (goal.at.After-put_byte-a c).Start

left₁ : (c : After-put_byte-a) → Left (start₁ c) c.put_byte-a.new.out c.put_byte-a.result ((d2 (start₁ c) ∷ []) ++ (data₀ (start₁ c) ++ (refs₀ (start₁ c) ++ [])))
left₁ c =
    let f = c.field-flag.ensures ∙ ap (λ (i : ℕ). get_or (start₁ c).args.cells.table.now i 0) (add-zero ((start₁ c).args.x * 7)) in
    let e : c.refs_descriptor.result ≡ d1 (start₁ c) = c.refs_descriptor.ensures ∙ ap₂ (λ (r f : ℕ). r + 8 * f + 32 * 0) c.field-k.ensures f in
    next-turn _ _ (d1 (start₁ c) ∷ []) _ (left₀ (start₁ c)) c.put_byte-a.new.out c.put_byte-a.result (c.put_byte-a.ensures.1 ∙ ap (λ (b : ℕ). puts (start₁ c).args.out.now (start₁ c).args.at (b ∷ [])) e) c.put_byte-a.ensures.0

abbrev start₂ : After-put_byte-b → Start
start₂ c = (goal.at.After-put_byte-b c).Start

left₂ : (c : After-put_byte-b) → Left (start₂ c) c.put_byte-b.new.out c.put_byte-b.result (data₀ (start₂ c) ++ (refs₀ (start₂ c) ++ []))
left₂ c =
    let w = c.put_byte-a in
    let e : c.bits_descriptor.result ≡ d2 (start₂ c) = c.bits_descriptor.ensures ∙ ap bits_descriptor c.field-len.ensures in
    next-turn _ _ (d2 (start₂ c) ∷ []) _ (left₁ (goal.at.After-put_byte-b c).After-put_byte-a) c.put_byte-b.new.out c.put_byte-b.result (c.put_byte-b.ensures.1 ∙ ap (λ (b : ℕ). puts w.new.out w.result (b ∷ [])) e) c.put_byte-b.ensures.0

abbrev start₃ : After-put_data-d → Start
start₃ c = (goal.at.After-put_data-d c).Start

left₃ : (c : After-put_data-d) → Left (start₃ c) c.put_data-d.new.out c.put_data-d.result (refs₀ (start₃ c) ++ [])
left₃ c = next-turn _ _ (data₀ (start₃ c)) _ (left₂ (goal.at.After-put_data-d c).After-put_byte-b) c.put_data-d.new.out c.put_data-d.result c.put_data-d.ensures.1 c.put_data-d.ensures.0

pub refs_descriptor-requires : goal.refs_descriptor-requires
refs_descriptor-requires c =
    let a = c.args in
    let f = c.field-flag.ensures ∙ ap (λ (k : ℕ). get_or a.cells.table.now k 0) (add-zero (a.x * 7)) in
    let k = c.field-k.ensures in
    record { refs_bound = omega (arith, c.requires.cell_ok.ok.few); exotic_bound = omega (arith, c.requires.cell_ok.ok.flag); level_bound = omega arith }

pub put_byte-a-requires : goal.put_byte-a-requires
put_byte-a-requires c = next-room _ _ (_ ∷ []) _ (left₀ (goal.at.put_byte-a-requires c).Start)

pub bits_descriptor-requires : goal.bits_descriptor-requires
bits_descriptor-requires c =
    omega (arith, c.requires.cell_ok.ok.bits, c.field-len.ensures)

pub put_byte-b-requires : goal.put_byte-b-requires
put_byte-b-requires c = next-room _ _ (_ ∷ []) _ (left₁ (goal.at.put_byte-b-requires c).After-put_byte-a)

pub put_data-d-requires : goal.put_data-d-requires
put_data-d-requires c =
    record { cell_ok = c.requires.cell_ok; x_in_bounds = next-room _ _ (data₀ (goal.at.put_data-d-requires c).Start) _ (left₂ (goal.at.put_data-d-requires c).After-put_byte-b) }

pub put_refs-requires : goal.put_refs-requires
put_refs-requires c =
    record { record_ok = c.requires.cell_ok.ok; x_lt_cells = omega arith; shape_in_bounds = omega arith; x_in_bounds = next-room _ _ (refs₀ (goal.at.put_refs-requires c).Start) [] (left₃ (goal.at.put_refs-requires c).After-put_data-d) }

pub returns : goal.returns
returns c =
    let w = c.put_refs in
    let r = next-done _ _ (next-turn _ _ (refs₀ (goal.at.returns c).Start) [] (left₃ (goal.at.returns c).After-put_data-d) w.new.out w.result w.ensures.1 w.ensures.0) in
    (r.0, r.1)
