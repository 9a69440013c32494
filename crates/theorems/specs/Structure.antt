-- Text and depth depend on the unfolded structure alone: they are folds over it.
-- Assumes nothing.
use Rattle.std.specs.Prelude.{◌≡◌, refl, ℕ, zero, suc, ◌+◌, ◌*◌, ◌<◌, length, leb, ltb, Ok}
use Rattle.std.proofs.Common.{sym, ap, ◌∙◌, not-suc-le-zero, arith, ltb-true}
use mathlib.Core.List.Memᴰ.{head as here}
use mathlib.Core.List.Memᴰ.{tail as there}
use mathlib.Core.List.{List, [], ◌∷◌, map, Memᴰ as Mem}
use Rattle.scheme.specs.Refusals.{STORE, SCRATCH, NOCELL}
use Rattle.scheme.specs.Res.{Res, check, refusal}
use Rattle.scheme.specs.Cells.{Cell, Tree, Forest, node, none, more, at, with, forest, unfolded, tree}
use Rattle.scheme.specs.Fold.{value}
use Rattle.scheme.specs.Depth.{is_pruned, pruned_depth, depth_step, depth}
use Rattle.scheme.specs.Text.{text_step, size_step, height_step, page, Page}
use Rattle.scheme.specs.Memory.{cells_of, sound, held}
use Rattle.scheme.specs.Calls.{lent, measuring, printing, print_out}
use Rattle.laws.specs.Unique.{Low}
use Rattle.laws.specs.Accept.{then_use, check_inv}
use Rattle.laws.specs.Folds.{Under, value-eq}
use Rattle.theorems.specs.MeaningLaws.{memory-low}

-- a value of a structure, from each cell without its references and the values of the structures that it refers to
module _ {A : Type 0} (f : Cell → List A → A) where
  abbrev mutual
    pub fold_tree : Tree → A
    fold_tree (node exotic len bytes kids) = f (record { exotic = exotic; len = len; bytes = bytes; refs = [] }) (fold_forest kids)

    pub fold_forest : Forest → List A
    fold_forest none = []
    fold_forest (more t ts) = fold_tree t ∷ fold_forest ts

fold-forest : {A : Type 0} (f : Cell → List A → A) (g : ℕ → A) (u : ℕ → Tree) (rs : List ℕ)
    → ((r : ℕ) → Mem r rs → g r ≡ fold_tree f (u r)) → map g rs ≡ fold_forest f (forest u rs)
fold-forest f g u [] h = refl
fold-forest f g u (r ∷ rs) h = let p = h r (here refl) in let q = fold-forest f g u rs (λ x m. h x (there m)) in cc

under : (n : ℕ) (rs : List ℕ) → ((r : ℕ) → Mem r rs → r < n) → Under n rs
unfolding Under
under n [] h = tt
under n (r ∷ rs) h = (h r (here refl), under n rs (λ x m. h x (there m)))

-- a step that does not look at the numbers of the references
abbrev pub Plain : {A : Type 0} → (Cell → List A → A) → Type 0
Plain {A} f = (c : Cell) (vs : List A) → f c vs ≡ f (with c []) vs

module _ {A : Type 0} (f : Cell → List A → A) (z : A) (P : Plain f) (s : List Cell) (S : Low s) where
  value-levels : (m i : ℕ) → i < m → i < length s → value f z (at s) i ≡ fold_tree f (unfolded m s i)
  value-levels zero i hm h = absurd (not-suc-le-zero hm)
  value-levels (suc m) i hm h =
      let c = at s i in
      let kids = fold-forest f (value f z (at s)) (λ (r : ℕ). unfolded m s r) c.refs (λ r k. let g = S i h r k in value-levels m r (omega arith) (omega arith)) in
      value-eq f z (at s) i (under i c.refs (S i h)) ∙ P c (map (value f z (at s)) c.refs) ∙ ap (f (with c [])) kids

  -- Every value by number is the fold over the unfolded structure.
  pub value-is-fold : (i : ℕ) → i < length s → value f z (at s) i ≡ fold_tree f (tree s i)
  value-is-fold i h = value-levels (length s) i h h

plain-text : Plain text_step
plain-text c vs = refl

pub plain_size : Plain size_step
plain_size c vs = refl

plain-height : Plain height_step
plain-height c vs = refl

plain-depth : Plain depth_step
unfolding depth_step is_pruned pruned_depth
plain-depth c vs = refl

-- cells of the same structure, of two stores or of one
module _ (s u : List Cell) (S : Low s) (U : Low u) (i j : ℕ) (hi : i < length s) (hj : j < length u) (e : tree s i ≡ tree u j) where
  same-value : {A : Type 0} (f : Cell → List A → A) (z : A) → Plain f → value f z (at s) i ≡ value f z (at u) j
  same-value f z P = value-is-fold f z P s S i hi ∙ ap (fold_tree f) e ∙ sym (value-is-fold f z P u U j hj)

  -- Text and the count of the cells printed depend on the unfolded structure alone.
  pub same_text : (budget room : ℕ) → page s i budget room ≡ page u j budget room
  unfolding page
  same_text budget room =
      let t = same-value text_step [] plain-text in
      let n = same-value size_step 0 plain_size in
      let h = same-value height_step 0 plain-height in
      rw (t, n, h)

  -- max_depth depends on the unfolded structure alone.
  pub same-depth : depth s i ≡ depth u j
  unfolding depth
  same-depth = rw (same-value depth_step 0 plain-depth)

-- the cells of a structure
abbrev mutual
  pub cells_in : Tree → ℕ
  cells_in (node exotic len bytes kids) = 1 + cells_all kids

  pub cells_all : Forest → ℕ
  cells_all none = 0
  cells_all (more t ts) = cells_in t + cells_all ts

-- ---- the calls

-- memory that is lent to a call is a sound store's, and holds the cell
pub record Lent (n : ℕ) (t d : List ℕ) (i : ℕ) (s : List Cell) : Type 0 where
  pub is : s ≡ cells_of n t d
  pub low : Low s
  pub holds : i < length s

pub lent_is : (k n : ℕ) (t d : List ℕ) (i scratch : ℕ) (s : List Cell) → lent k n t d i scratch ≡ Ok s → Lent n t d i s
unfolding lent held
lent_is k n t d i scratch s e =
    then_use (held n t d) _ _ e λ s₁ x₁ e₁.
    then_use (check (sound n t d) (refusal STORE 0)) _ _ x₁ λ u₂ x₂ e₂.
    then_use (check (ltb i (length s₁)) (refusal NOCELL 0)) _ _ e₁ λ u₃ x₃ e₃.
    then_use (check (leb (k * length s₁) scratch) (refusal SCRATCH (k * length s₁))) _ _ e₃ λ u₄ x₄ e₄.
    let q : cells_of n t d ≡ s = cc in
    let r : s₁ ≡ s = cc in
    let h = ltb-true i (length s₁) (check_inv (ltb i (length s₁)) (refusal NOCELL 0) u₃ x₃) in
    record { is = sym q; low = rw (← q) (memory-low n t d (check_inv (sound n t d) (refusal STORE 0) u₂ x₂)); holds = rw r at h }

module _ (n m : ℕ) (t d t' d' : List ℕ) (i j : ℕ) (scratch scratch' : List ℕ) (s u : List Cell)
    (x : lent 1 n t d i (length scratch) ≡ Ok s) (y : lent 1 m t' d' j (length scratch') ≡ Ok u) (e : tree s i ≡ tree u j) where
  abbrev L : Lent n t d i s
  L = lent_is 1 n t d i (length scratch) s x

  abbrev M : Lent m t' d' j u
  M = lent_is 1 m t' d' j (length scratch') u y

  -- Two calls of max_depth on cells of the same structure, whose stores are held and whose scratch is long enough, answer the same.
  pub same-measuring : (measuring n t d i scratch).answer ≡ (measuring m t' d' j scratch').answer
  unfolding measuring
  same-measuring = rw (x, y) (same-depth s u L.low M.low i j L.holds M.holds e)

  -- Two calls of debug_text on such cells, with the same budget and outputs of the same length, have the outcome of one page: they answer the same
  -- and write the same text.
  pub same-printing : (budget : ℕ) (out out' : List ℕ) → length out ≡ length out'
      → (p : Res Page) × (printing n t d i budget scratch out ≡ print_out scratch out p) × (printing m t' d' j budget scratch' out' ≡ print_out scratch' out' p)
  unfolding printing
  same-printing budget out out' l =
      let q = same_text s u L.low M.low i j L.holds M.holds e budget (length out') in
      (page u j budget (length out'), rw (x, l, q), rw y)
