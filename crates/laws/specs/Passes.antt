-- One law for every pass by number: the scratch holds the values of the cells passed, each cut at a cap. Assumes nothing.
use Rattle.std.specs.Prelude.{◌≡◌, refl, List, [], ◌∷◌, ◌++◌, map, ℕ, zero, suc, ◌+◌, ◌<◌, min, max, length, drop, get_or, set}
use Rattle.std.proofs.Common.{sym, ap, ap₂, ◌∙◌, append_assoc, add_assoc, add-one, arith}
use Rattle.std.proofs.lemmas.List.{length-map, get_or_at}
use Rattle.scheme.specs.Cells.{Cell}
use Rattle.scheme.specs.Memory.{cell_at}
use Rattle.scheme.specs.Fold.{pick, below, value}
use Rattle.scheme.specs.Depth.{over}
use Rattle.scheme.specs.Text.{sum, size_step, height_step}
use Rattle.laws.specs.Lists.{filled}
use Rattle.laws.specs.Records.{refs_at, RecordOk}
use Rattle.laws.specs.Folds.{refs-under, pick-front, below_suc, below_length}

-- a step that may cut the values that it is given before it cuts its own
abbrev pub Caps : ℕ → (Cell → List ℕ → ℕ) → Type 0
Caps cap f = (c : Cell) (vs : List ℕ) → min cap (f c (map (min cap) vs)) ≡ min cap (f c vs)

map_snoc : {A B : Type 0} (g : A → B) (a : List A) (x : A) → map g (a ++ (x ∷ [])) ≡ map g a ++ (g x ∷ [])
map_snoc g [] x = refl
map_snoc g (y ∷ a) x = ap (λ l. g y ∷ l) (map_snoc g a x)

get_or-map : (g : ℕ → ℕ) (a : List ℕ) (r : ℕ) → g 0 ≡ 0 → get_or (map g a) r 0 ≡ g (get_or a r 0)
get_or-map g [] r e = sym e
get_or-map g (x ∷ a) zero e = refl
get_or-map g (x ∷ a) (suc r) e = get_or-map g a r e

pick-map : (g : ℕ → ℕ) (a : List ℕ) (rs : List ℕ) → g 0 ≡ 0 → pick 0 (map g a) rs ≡ map g (pick 0 a rs)
pick-map g a [] e = refl
pick-map g a (r ∷ rs) e = ap₂ (λ x xs. x ∷ xs) (get_or-map g a r e) (pick-map g a rs e)

module _ (f : Cell → List ℕ → ℕ) (cap : ℕ) (caps : Caps cap f) (t d : List ℕ) where
  -- the first i values, cut
  abbrev cut : ℕ → List ℕ
  cut i = map (min cap) (below f 0 (cell_at t d) i)

  pub cut-length : (i : ℕ) → length (cut i) ≡ i
  cut-length i = length-map (below f 0 (cell_at t d) i) (min cap) ∙ below_length f 0 (cell_at t d) i

  pub cut-suc : (i : ℕ) → cut (i + 1) ≡ cut i ++ (min cap (value f 0 (cell_at t d) i) ∷ [])
  cut-suc i = rw (add-one, below_suc f 0 (cell_at t d) i) (map_snoc (min cap) (below f 0 (cell_at t d) i) (value f 0 (cell_at t d) i))

  cut-value : (i : ℕ) (s rest : List ℕ) → RecordOk t i → s ≡ cut i ++ rest → min cap (f (cell_at t d i) (pick 0 s (refs_at t i))) ≡ min cap (value f 0 (cell_at t d) i)
  unfolding value cell_at refs_at
  cut-value i s rest h e =
      rw (e, pick-front 0 (cut i) rest i (refs_at t i) (cut-length i) (refs-under t i h), pick-map (min cap) (below f 0 (cell_at t d) i) (refs_at t i) (omega arith))
      (caps (cell_at t d i) (pick 0 (below f 0 (cell_at t d) i) (refs_at t i)))

  -- a turn: the store at i of the step's answer takes the values of the first i to those of the first i + 1
  pub pass-turn : (i r : ℕ) (s s₀ : List ℕ) → RecordOk t i → i < length s₀ → s ≡ cut i ++ drop i s₀ → r ≡ min cap (f (cell_at t d i) (pick 0 s (refs_at t i))) → set s i r ≡ cut (i + 1) ++ drop (i + 1) s₀
  pass-turn i r s s₀ h l e q =
      rw (cut-suc i, ← cut-value i s (drop i s₀) h e, ← q) (ap (λ x. set x i r) e ∙ filled (cut i) s₀ i r (cut-length i) l)

  -- the last value of a pass over n + 1 cells
  pub cut-last : (n : ℕ) (s rest : List ℕ) → s ≡ cut (n + 1) ++ rest → get_or s n 0 ≡ min cap (value f 0 (cell_at t d) n)
  cut-last n s rest e =
      let x : ℕ = min cap (value f 0 (cell_at t d) n) in
      rw (e, cut-suc n, append_assoc (cut n) (x ∷ []) rest) (get_or_at (cut n) x rest 0 n (cut-length n))

-- ---- the greatest, and the sum

min-max : (m a b : ℕ) → min m (max a b) ≡ max (min m a) (min m b)
min-max m a b = omega arith

min-one : (m a : ℕ) → min m (min m a + 1) ≡ min m (a + 1)
min-one m a = omega arith

pub over-cut : (m : ℕ) (vs : List ℕ) → min m (over (map (min m) vs)) ≡ min m (over vs)
unfolding over
over-cut m [] = refl
over-cut m (v ∷ vs) = rw (min-max m (min m v + 1) (over (map (min m) vs)), min-max m (v + 1) (over vs), min-one m v, over-cut m vs)

pub caps-over : (m : ℕ) → Caps m height_step
caps-over m c vs = over-cut m vs

-- the sum of cut numbers, cut
pub sum-cut : (m a : ℕ) (vs : List ℕ) → min m (a + sum (map (min m) vs)) ≡ min m (a + sum vs)
unfolding sum
sum-cut m a [] = refl
sum-cut m a (v ∷ vs) =
    let p : min m (a + (min m v + sum (map (min m) vs))) ≡ min m (a + v + sum (map (min m) vs)) = min-add m a v (sum (map (min m) vs)) in
    p ∙ sum-cut m (a + v) vs ∙ ap (min m) (add_assoc a v (sum vs))
  where
    min-add : (m a v x : ℕ) → min m (a + (min m v + x)) ≡ min m (a + v + x)
    min-add m a v x = omega arith

pub caps-size : (m : ℕ) → Caps m size_step
caps-size m c vs = sum-cut m 1 vs
