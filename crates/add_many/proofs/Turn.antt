-- The turns of `add_each`, over plain variables. Assumes nothing.
use Rattle.std.specs.Prelude.{Result, Ok, Err, IsErrAnd}
use Rattle.std.specs.Result.{MatchResult}
use Prim.Native.Nat.{ℕ, suc, ◌+◌, ◌*◌, ◌-◌, ◌<◌, ◌≤◌}
use mathlib.Core.Path.{◌≡◌, refl, sym, ap, subst, ◌∙◌}
use mathlib.Core.Bool.{Bool, true, false}
use mathlib.Core.List.{List}
use native.Mathlib.Numerals.{add-one}
use native.Mathlib.Omega.{arith}
use lib.ListN.{length, take, set, length-take, length-drop}
use lib.Dec.{leb}
use Rattle.scheme.specs.Refusals.{STORE, REFS, FULL, BITS}
use Rattle.scheme.specs.declared.Refusal.{Refusal}
use Rattle.scheme.specs.Res.{Res, then, check, refusal}
use Rattle.scheme.specs.Cells.{find, insert}
use Rattle.scheme.specs.Memory.{capacity, cells_of, sound, held}
use Rattle.scheme.specs.Builder.{Builder, cell_in}
use Rattle.scheme.specs.Add.{Added, refs_held, add}
use Rattle.scheme.specs.Calls.{StoreOut, add_out, adding}
use Rattle.laws.specs.Accept.{then_use}
use Rattle.laws.specs.Unique.{find-le}
use Rattle.laws.specs.Records.{sound-few, cells-length}
use Rattle.laws.specs.Adding.{adding-holds}
use Rattle.store.specs.Paper.{Adds}
use Rattle.add_many.specs.declared.Stop.{Stop}
use Rattle.add_many.specs.Many.{builder_at, stopped, ManyOut, after_one, many, AddsMany}

-- the number of an added cell is that of a record
number_small : (cap n : ℕ) (t d : List ℕ) (b : Builder) (x : Added) → add cap (cells_of n t d) b ≡ Ok x → sound n t d ≡ true → x.number ≤ 4096
unfolding add
number_small cap n t d b x e s =
    then_use (check (leb b.len 1023) (refusal BITS 0)) _ _ e λ u₁ x₁ e₁.
    then_use (check (leb b.count 4) (refusal REFS 0)) _ _ e₁ λ u₂ x₂ e₂.
    then_use (refs_held 0 (length (cells_of n t d)) (take b.count b.refs)) _ _ e₂ λ u₃ x₃ e₃.
    then_use (check (leb (length (insert (cells_of n t d) (cell_in b))) cap) (refusal FULL 0)) _ _ e₃ λ u₄ x₄ e₄.
    let y : find (cells_of n t d) (cell_in b) ≡ x.number = cc in
    omega (arith, find-le (cells_of n t d) (cell_in b), cells-length n t d, sound-few n t d s)

-- ---- one turn

pub bytes-long : (hs ds : List ℕ) (i : ℕ) → i * 128 + 128 ≤ length ds → length (builder_at hs ds i).bytes ≡ 128
unfolding builder_at
bytes-long hs ds i h = simp (length-take, length-drop) (omega arith)

pub adds-as : (n : ℕ) (t d : List ℕ) (b c : Builder) (r s : Res ℕ) (n' : ℕ) (t' d' : List ℕ) → b ≡ c → r ≡ s → Adds n t d b r n' t' d' → Adds n t d c s n' t' d'
adds-as n t d b c r s n' t' d' p q a = subst (λ (x : Builder). Adds n t d x s n' t' d') p (subst (λ (x : Res ℕ). Adds n t d b x n' t' d') q a)

module _ (hs ds : List ℕ) (k i n : ℕ) (t d xs : List ℕ) (X : ManyOut) (h : i < k) (q : many hs ds (k - i) i n t d xs ≡ X) where
  abbrev o : StoreOut ℕ
  o = adding n t d (builder_at hs ds i)

  left : k - i ≡ suc (k - (i + 1))
  left = omega arith

  turn : after_one i (adding n t d (builder_at hs ds i)) xs (λ m. many hs ds (k - (i + 1)) (suc i) o.count o.table o.bytes (set xs i m))
      (adding n t d (builder_at hs ds i)).answer ≡ X
  unfolding many
  turn = rw left at q

  module _ (m n' : ℕ) (t' d' : List ℕ) (a : Adds n t d (builder_at hs ds i) (Ok m) n' t' d') where
    pub turn-next : many hs ds (k - (i + 1)) (i + 1) n' t' d' (set xs i m) ≡ X
    turn-next =
        ap (λ (j : ℕ). many hs ds (k - (i + 1)) j n' t' d' (set xs i m)) (add-one i)
        ∙ ap (λ (x : ℕ). many hs ds (k - (i + 1)) (suc i) x t' d' (set xs i m)) a.count
        ∙ ap (λ (x : List ℕ). many hs ds (k - (i + 1)) (suc i) o.count x d' (set xs i m)) a.table
        ∙ ap (λ (x : List ℕ). many hs ds (k - (i + 1)) (suc i) o.count o.table x (set xs i m)) a.bytes
        ∙ ap (λ (r : Res ℕ). after_one i o xs (λ z. many hs ds (k - (i + 1)) (suc i) o.count o.table o.bytes (set xs i z)) r) a.answer
        ∙ turn

    pub turn-sound : sound n t d ≡ true → i * 128 + 128 ≤ length ds → sound n' t' d' ≡ true
    turn-sound s l = rw (a.count, a.table, a.bytes) (adding-holds n t d (builder_at hs ds i) (bytes-long hs ds i l) s).is-sound

    -- a number is that of a record
    pub turn_small : sound n t d ≡ true → m ≤ 4096
    unfolding adding held
    turn_small s = go (add (capacity t) (cells_of n t d) (builder_at hs ds i)) refl (a.answer ∙ ap
        (λ (b : Bool). (add_out n t d (then (then (check b (refusal STORE 0)) (λ _. Ok (cells_of n t d))) λ c. add (capacity t) c (builder_at hs ds i))).answer) s)
      where
        go : (r : Res Added) → add (capacity t) (cells_of n t d) (builder_at hs ds i) ≡ r → Ok m ≡ (add_out n t d r).answer → m ≤ 4096
        go (Err b) e z = absurd (let y : ◌≡◌ {A = ℕ} 0 1 = cc in omega arith)
        go (Ok x) e z = let y : m ≡ x.number = cc in omega (arith, number_small (capacity t) n t d (builder_at hs ds i) x e s)

  pub turn-stop : (r : Refusal) (n' : ℕ) (t' d' : List ℕ) → Adds n t d (builder_at hs ds i)
      (Err r) n' t' d' → record { answer = stopped i r; count = n'; table = t'; bytes = d'; numbers = xs } ≡ X
  turn-stop r n' t' d' a =
      ap (λ (x : ℕ). record { answer = stopped i r; count = x; table = t'; bytes = d'; numbers = xs }) a.count
      ∙ ap (λ (x : List ℕ). record { answer = stopped i r; count = o.count; table = x; bytes = d'; numbers = xs }) a.table
      ∙ ap (λ (x : List ℕ). record { answer = stopped i r; count = o.count; table = o.table; bytes = x; numbers = xs }) a.bytes
      ∙ ap (λ (x : Res ℕ). after_one i o xs (λ z. many hs ds (k - (i + 1)) (suc i) o.count o.table o.bytes (set xs i z)) x) a.answer
      ∙ turn

-- ---- the ways out

module _ (hs ds : List ℕ) (k n : ℕ) (t d xs : List ℕ) where
  pub many_is : (r : Result (Unit {0}) Stop) (n' : ℕ)
      (t' d' xs' : List ℕ) → record { answer = r; count = n'; table = t'; bytes = d'; numbers = xs' } ≡ many hs ds k 0 n t d xs → AddsMany hs ds k n t d xs r n' t' d' xs'
  many_is r n' t' d' xs' e =
      record {
        answer = ap (λ (o : ManyOut). o.answer) e;
        count = ap (λ (o : ManyOut). o.count) e;
        table = ap (λ (o : ManyOut). o.table) e;
        bytes = ap (λ (o : ManyOut). o.bytes) e;
        numbers = ap (λ (o : ManyOut). o.numbers) e;
      }

  pub many-start : many hs ds (k - 0) 0 n t d xs ≡ many hs ds k 0 n t d xs
  many-start = let z : k - 0 ≡ k = omega arith in ap (λ (j : ℕ). many hs ds j 0 n t d xs) z

  -- none are left
  pub many-end : (i n' : ℕ) (t' d' xs' : List ℕ) → k ≤ i → many hs ds (k - i) i n' t' d' xs' ≡ many hs ds k 0 n t d xs → AddsMany hs ds k n t d xs (Ok tt) n' t' d' xs'
  unfolding many
  many-end i n' t' d' xs' h e =
      let z : k - i ≡ 0 = omega arith in
      many_is (Ok tt) n' t' d' xs' (rw z at e)

  pub many-none : k ≡ 0 → AddsMany hs ds k n t d xs (Ok tt) n t d xs
  unfolding many
  many-none e = many_is (Ok tt) n t d xs (sym (ap (λ (j : ℕ). many hs ds j 0 n t d xs) e))

  pub many-store : (k ≡ 0 → ⊥) → sound n t d ≡ false → AddsMany hs ds k n t d xs (stopped 0 (refusal STORE 0)) n t d xs
  unfolding many adding held
  many-store h s =
      let z : k ≡ suc (k - 1) = omega arith in
      many_is (stopped 0 (refusal STORE 0)) n t d xs (rw (z, s))

-- by another name of k
pub many-as : (hs ds : List ℕ) (k j n : ℕ) (t d xs : List ℕ) (r : Result (Unit {0}) Stop) (n' : ℕ) (t' d' xs' : List ℕ) → k ≡ j → AddsMany hs ds k n t d xs r n' t' d' xs'
    → AddsMany hs ds j n t d xs r n' t' d' xs'
many-as hs ds k j n t d xs r n' t' d' xs' e a = subst (λ (m : ℕ). AddsMany hs ds m n t d xs r n' t' d' xs') e a

-- a refused add stops the batch: the exit of the `?`
pub stopped-at : (P : Refusal → Stop → Type 0) (i : ℕ) (x : Res ℕ) (y : Result ℕ Stop) (s : Stop) (z : Result (Unit {0}) Stop)
    → MatchResult x (λ n. y ≡ Ok n) (λ e. IsErrAnd y (P e)) → y ≡ Err s → ((e : Refusal) → P e s → s ≡ record { cell = i; refusal = e })
    → IsErrAnd z (λ t. t ≡ s)
    → (x ≡ Err s.refusal) × (z ≡ stopped i s.refusal)
stopped-at P i (Ok n) y s z m w h f = absurd (let q : ◌≡◌ {A = ℕ} 0 1 = cc in omega arith)
stopped-at P i (Err e) y s (Ok u) m w h f = elim f [ ]
stopped-at P i (Err e) y s (Err t) m w h f =
    let q : s ≡ record { cell = i; refusal = e } = h e (rw w at m) in
    let k : t ≡ s = f in
    rw (k, q) (refl, refl)
