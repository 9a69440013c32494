-- `writer::put_header` meets its contract: at each place, what is left of the header. Assumes nothing.
use Prim.Native.Nat.{ℕ, ◌+◌}
use mathlib.Core.Path.{◌∙◌}
use mathlib.Core.List.{List, [], ◌∷◌, ◌++◌, append-nil}
use native.Mathlib.Nat.{zero-add}
use lib.ListN.{length}
use Rattle.scheme.specs.Bytes.{be}
use Rattle.laws.specs.Puts.{puts}
use Rattle.writer.specs.declared.Shape.{Shape}
use Rattle.writer.specs.Bytes.{head_bytes}
use Rattle.writer.proofs.Listing.{Next, next_start, next-room, next-turn, next-be-room, next-be, next-done}
use Rattle.writer.proofs.put_header.Goals as goal
use Rattle.writer.proofs.put_header.Goals.{Start, After-put-a, After-put-b, After-put_be-d, After-put_be-e, After-put_be-f, After-put_be-g, After-put_be}

abbrev whole : ℕ → Shape → List ℕ
whole flags h = head_bytes flags h.listed h.size h.off h.total

-- the header, and what is left of it at a place
abbrev Left : List ℕ → ℕ → Shape → List ℕ → ℕ → List ℕ → Type 0
Left o₀ flags h o to rest = Next (puts o₀ 0 (whole flags h)) (0 + length (whole flags h)) o to rest

abbrev last₁ : Shape → List ℕ
last₁ h = be h.size 0 ++ []

abbrev last₂ : Shape → List ℕ
last₂ h = be h.off h.total ++ last₁ h

abbrev last₃ : Shape → List ℕ
last₃ h = be h.size 0 ++ last₂ h

abbrev last₄ : Shape → List ℕ
last₄ h = be h.size 1 ++ last₃ h

abbrev last₅ : Shape → List ℕ
last₅ h = be h.size h.listed ++ last₄ h

left₀ : (c : Start) → Left c.args.out.now c.args.flags c.args.shape c.args.out.now 0 (be 4 0xb5ee_9c72 ++ ((c.args.flags ∷ c.args.shape.off ∷ []) ++ last₅ c.args.shape))
unfolding head_bytes
left₀ c = rw (append-nil (be c.args.shape.size 0)) (next_start c.args.out.now 0 (whole c.args.flags c.args.shape) (rw (zero-add (length (whole c.args.flags c.args.shape))) c.requires))

left₁ : (c : After-put-a) → Left c.args.out.now c.args.flags c.args.shape c.put-a.new.out c.put-a.result ((c.args.flags ∷ c.args.shape.off ∷ []) ++ last₅ c.args.shape)
left₁ c = next-turn _ _ (be 4 0xb5ee_9c72) _ (left₀ (goal.at.After-put-a c).Start) c.put-a.new.out c.put-a.result (rw c.to_be_bytes.ensures at c.put-a.ensures.1) (rw c.to_be_bytes.ensures at c.put-a.ensures.0)

left₂ : (c : After-put-b) → Left c.args.out.now c.args.flags c.args.shape c.put-b.new.out c.put-b.result (last₅ c.args.shape)
left₂ c = next-turn _ _ (_ ∷ _ ∷ []) _ (left₁ (goal.at.After-put-b c).After-put-a) c.put-b.new.out c.put-b.result c.put-b.ensures.1 c.put-b.ensures.0

left₃ : (c : After-put_be-d) → Left c.args.out.now c.args.flags c.args.shape c.put_be-d.new.out c.put_be-d.result (last₄ c.args.shape)
left₃ c = next-be _ _ c.args.shape.size c.args.shape.listed _ (left₂ (goal.at.After-put_be-d c).After-put-b) c.put_be-d.new.out c.put_be-d.result c.put_be-d.ensures.1 c.put_be-d.ensures.0

left₄ : (c : After-put_be-e) → Left c.args.out.now c.args.flags c.args.shape c.put_be-e.new.out c.put_be-e.result (last₃ c.args.shape)
left₄ c = next-be _ _ c.args.shape.size 1 _ (left₃ (goal.at.After-put_be-e c).After-put_be-d) c.put_be-e.new.out c.put_be-e.result c.put_be-e.ensures.1 c.put_be-e.ensures.0

left₅ : (c : After-put_be-f) → Left c.args.out.now c.args.flags c.args.shape c.put_be-f.new.out c.put_be-f.result (last₂ c.args.shape)
left₅ c = next-be _ _ c.args.shape.size 0 _ (left₄ (goal.at.After-put_be-f c).After-put_be-e) c.put_be-f.new.out c.put_be-f.result c.put_be-f.ensures.1 c.put_be-f.ensures.0

left₆ : (c : After-put_be-g) → Left c.args.out.now c.args.flags c.args.shape c.put_be-g.new.out c.put_be-g.result (last₁ c.args.shape)
left₆ c = next-be _ _ c.args.shape.off c.args.shape.total _ (left₅ (goal.at.After-put_be-g c).After-put_be-f) c.put_be-g.new.out c.put_be-g.result c.put_be-g.ensures.1 c.put_be-g.ensures.0

left₇ : (c : After-put_be) → Left c.args.out.now c.args.flags c.args.shape c.put_be.new.out c.put_be.result []
left₇ c = next-be _ _ c.args.shape.size 0 _ (left₆ (goal.at.After-put_be c).After-put_be-g) c.put_be.new.out c.put_be.result c.put_be.ensures.1 c.put_be.ensures.0

pub put-a-requires : goal.put-a-requires
put-a-requires c = rw c.to_be_bytes.ensures (next-room _ _ (be 4 0xb5ee_9c72) _ (left₀ (goal.at.put-a-requires c).Start))

pub put-b-requires : goal.put-b-requires
put-b-requires c = next-room _ _ (_ ∷ _ ∷ []) _ (left₁ (goal.at.put-b-requires c).After-put-a)

pub put_be-d-requires-clause-k_in_bounds : goal.put_be-d-requires-clause-k_in_bounds
put_be-d-requires-clause-k_in_bounds c = next-be-room _ _ c.args.shape.size _ _ (left₂ (goal.at.put_be-d-requires-clause-k_in_bounds c).After-put-b)

pub put_be-e-requires-clause-k_in_bounds : goal.put_be-e-requires-clause-k_in_bounds
put_be-e-requires-clause-k_in_bounds c = next-be-room _ _ c.args.shape.size _ _ (left₃ (goal.at.put_be-e-requires-clause-k_in_bounds c).After-put_be-d)

pub put_be-f-requires-clause-k_in_bounds : goal.put_be-f-requires-clause-k_in_bounds
put_be-f-requires-clause-k_in_bounds c = next-be-room _ _ c.args.shape.size _ _ (left₄ (goal.at.put_be-f-requires-clause-k_in_bounds c).After-put_be-e)

pub put_be-g-requires-clause-k_in_bounds : goal.put_be-g-requires-clause-k_in_bounds
put_be-g-requires-clause-k_in_bounds c = next-be-room _ _ c.args.shape.off _ _ (left₅ (goal.at.put_be-g-requires-clause-k_in_bounds c).After-put_be-f)

pub put_be-requires-clause-k_in_bounds : goal.put_be-requires-clause-k_in_bounds
put_be-requires-clause-k_in_bounds c = next-be-room _ _ c.args.shape.size _ _ (left₆ (goal.at.put_be-requires-clause-k_in_bounds c).After-put_be-g)

pub returns : goal.returns
returns c =
    let r = next-done _ _ (left₇ (goal.at.returns c).After-put_be) in
    (r.0 ∙ zero-add _, r.1)
