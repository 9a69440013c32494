-- `writer::put_body` meets its contract: at each place, what is left of the bag. Assumes nothing.
use Prim.Native.Nat.{ℕ, ◌+◌, ◌*◌}
use mathlib.Core.Path.{◌≡◌, ap, sym, ◌∙◌, ap₂}
use mathlib.Core.List.{List, [], ◌++◌, append-nil}
use native.Mathlib.Omega.{arith}
use native.Mathlib.Nat.{zero-add}
use lib.ListN.{length}
use lib.Seq.{slice}
use Rattle.scheme.specs.Write.{all_bytes}
use Rattle.laws.specs.Puts.{puts}
use Rattle.writer.specs.Bytes.{head_bytes, placed_cells, sizes}
use Rattle.scheme.specs.Bits.{bit_of}
use Rattle.writer.specs.Bag.{index_if, body_of}
use Rattle.writer.proofs.Listing.{Next, next_start, next-room, next-turn, next-done}
use Rattle.writer.proofs.put_body.Goals as goal
use Rattle.writer.proofs.put_body.Goals.{After-flags_of-flags, After-put_index-b, After-put_header-a, Start}

abbrev whole₀ : Start → List ℕ
whole₀ s = body_of s.args.args.has_idx s.args.args.has_crc32c s.args.cells.table.now s.args.cells.bytes.now s.args.scratch.now s.args.cells.count s.args.shape.listed s.args.shape.size s.args.shape.off

abbrev Left : Start → List ℕ → ℕ → List ℕ → Type 0
Left s o to rest = Next (puts s.args.out.now 0 (whole₀ s)) (0 + length (whole₀ s)) o to rest

abbrev listed₀ : Start → List ℕ
listed₀ s = slice s.args.cells.count (s.args.cells.count + s.args.shape.listed) s.args.scratch.now

abbrev head₀ : Start → List ℕ
head₀ s = head_bytes (128 * bit_of s.args.args.has_idx + 64 * bit_of s.args.args.has_crc32c + s.args.shape.size) s.args.shape.listed s.args.shape.size s.args.shape.off (sizes s.args.cells.table.now s.args.shape.size (listed₀ s))

abbrev index₀ : Start → List ℕ
index₀ s = index_if s.args.args.has_idx s.args.cells.table.now s.args.shape.size s.args.shape.off (listed₀ s)

abbrev cells₀ : Start → List ℕ
cells₀ s = all_bytes s.args.shape.size (placed_cells s.args.cells.table.now s.args.cells.bytes.now s.args.scratch.now s.args.cells.count (listed₀ s))

left₀ : (s : Start) → Left s s.args.out.now 0 (head₀ s ++ (index₀ s ++ (cells₀ s ++ [])))
unfolding body_of
left₀ s = rw (append-nil (cells₀ s)) (next_start s.args.out.now 0 (whole₀ s) (rw (zero-add (length (whole₀ s))) s.requires.out_in_bounds))

abbrev start₀ : After-flags_of-flags → Start
start₀ c = (goal.at.After-flags_of-flags c).Start

abbrev start₁ : After-put_header-a → Start
start₁ c = (goal.at.After-put_header-a c).Start

abbrev start₂ : After-put_index-b → Start
start₂ c = (goal.at.After-put_index-b c).Start

-- the header that is written
head-is : (c : After-flags_of-flags) → head_bytes c.flags_of-flags.result (start₀ c).args.shape.listed (start₀ c).args.shape.size (start₀ c).args.shape.off (start₀ c).args.shape.total ≡ head₀ (start₀ c)
head-is c =
    let a = (start₀ c).args in
    ap₂ (λ (f t : ℕ). head_bytes f a.shape.listed a.shape.size a.shape.off t) c.flags_of-flags.ensures (start₀ c).requires.total_value

left₁ : (c : After-put_header-a) → Left (start₁ c) c.put_header-a.new.out c.put_header-a.result (index₀ (start₁ c) ++ (cells₀ (start₁ c) ++ []))
left₁ c = next-turn _ _ (head₀ (start₁ c)) _ (left₀ (start₁ c)) c.put_header-a.new.out c.put_header-a.result (c.put_header-a.ensures.1 ∙ ap (puts (start₁ c).args.out.now 0) (head-is (goal.at.After-put_header-a c).After-flags_of-flags)) (c.put_header-a.ensures.0 ∙ ap length (head-is (goal.at.After-put_header-a c).After-flags_of-flags) ∙ sym (zero-add (length (head₀ (start₁ c)))))

left₂ : (c : After-put_index-b) → Left (start₂ c) c.put_index-b.new.out c.put_index-b.result (cells₀ (start₂ c) ++ [])
left₂ c = next-turn _ _ (index₀ (start₂ c)) _ (left₁ (goal.at.After-put_index-b c).After-put_header-a) c.put_index-b.new.out c.put_index-b.result c.put_index-b.ensures.1 c.put_index-b.ensures.0

pub put_header-a-requires : goal.put_header-a-requires
put_header-a-requires c =
    omega (arith, next-room _ _ (head₀ (goal.at.put_header-a-requires c).Start) _ (left₀ (goal.at.put_header-a-requires c).Start), ap length (head-is (goal.at.put_header-a-requires c).After-flags_of-flags))

pub put_index-b-requires-clause-out_in_bounds : goal.put_index-b-requires-clause-out_in_bounds
put_index-b-requires-clause-out_in_bounds c = next-room _ _ (index₀ (goal.at.put_index-b-requires-clause-out_in_bounds c).Start) _ (left₁ (goal.at.put_index-b-requires-clause-out_in_bounds c).After-put_header-a)

pub put_cells-requires-clause-out_in_bounds : goal.put_cells-requires-clause-out_in_bounds
put_cells-requires-clause-out_in_bounds c = next-room _ _ (cells₀ (goal.at.put_cells-requires-clause-out_in_bounds c).Start) [] (left₂ (goal.at.put_cells-requires-clause-out_in_bounds c).After-put_index-b)

pub returns : goal.returns
returns c =
    let r = next-done _ _ (next-turn _ _ (cells₀ (goal.at.returns c).Start) [] (left₂ (goal.at.returns c).After-put_index-b) c.put_cells.new.out c.put_cells.result c.put_cells.ensures.1 c.put_cells.ensures.0) in
    (r.0 ∙ zero-add _, r.1)
