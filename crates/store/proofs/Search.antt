-- Laws of the search: what the tests of a record against a cell say, and what is known below the next number. Assumes nothing.
use Prim.Native.Nat.{ℕ, zero, suc, ◌+◌, ◌*◌, ◌-◌, ◌<◌, ◌≤◌}
use mathlib.Core.Path.{◌≡◌, refl, sym, ap, subst, ◌∙◌}
use mathlib.Core.List.{List, [], ◌∷◌, ◌++◌}
use mathlib.Core.Bool.{Bool, true, false, ◌&&◌, cond}
use native.Mathlib.Nat.{not-suc-le-zero, le_of_suc-le-suc, add-zero, add_assoc}
use native.Mathlib.Numerals.{add-one}
use native.Mathlib.Omega.{arith}
use lib.ListN.{length, get_or, take, drop, length-take, length-drop}
use Rattle.std.proofs.lemmas.List.{take-take}
use lib.Seq.{take-length, take-suc, get_or-drop, get_or-take}
use lib.Dec.{eqb}
use lib.Pointwise.{pointwise}
use borrow.Author.Tests.{ne_eqb, eqb-true, eqb-false}
use Rattle.scheme.specs.Bits.{bytes_for}
use Rattle.scheme.specs.Cells.{Cell, eqbs, same, find}
use Rattle.scheme.specs.Memory.{cell_at, cells_of}
use Rattle.laws.specs.Tests.{eqbs-refl}
use Rattle.laws.specs.CellLaws.{same_true}
use Rattle.laws.specs.Wf.{WfCell}
use Rattle.laws.specs.Records.{SoundMemory, cells-length}
use Rattle.laws.specs.Lay.{wf-at}
use Rattle.store.specs.Search.{Fields, cell_of, same_head}

and-false : (b : Bool) → (b && false) ≡ false
and-false true = refl
and-false false = refl

and-true : (b : Bool) → (b && true) ≡ b
and-true true = refl
and-true false = refl

eqbs-eq : (xs ys : List ℕ) → xs ≡ ys → eqbs xs ys ≡ true
eqbs-eq xs ys e = rw e (eqbs-refl ys)

-- lists that differ at an index that both have
eqbs_diff : (xs ys : List ℕ) (k : ℕ) → k < length xs → k < length ys → (get_or xs k 0 ≡ get_or ys k 0 → ⊥) → eqbs xs ys ≡ false
eqbs_diff [] ys k h l n = absurd (not-suc-le-zero h)
eqbs_diff (x ∷ xs) [] k h l n = absurd (not-suc-le-zero l)
eqbs_diff (x ∷ xs) (y ∷ ys) zero h l n = rw (ne_eqb x y n)
eqbs_diff (x ∷ xs) (y ∷ ys) (suc k) h l n = rw (eqbs_diff xs ys k (le_of_suc-le-suc h) (le_of_suc-le-suc l) n) (and-false (eqb x y))

-- lists of two lengths
eqbs-long : (xs ys : List ℕ) → (length xs ≡ length ys → ⊥) → eqbs xs ys ≡ false
eqbs-long [] [] n = absurd (n refl)
eqbs-long [] (y ∷ ys) n = refl
eqbs-long (x ∷ xs) [] n = refl
eqbs-long (x ∷ xs) (y ∷ ys) n = rw (eqbs-long xs ys (λ e. n (ap suc e))) (and-false (eqb x y))

-- what `==` of two slices answers
pub compared : (xs ys : List ℕ) → pointwise eqb xs ys ≡ eqbs xs ys
compared [] [] = refl
compared [] (y ∷ ys) = refl
compared (x ∷ xs) [] = refl
compared (x ∷ xs) (y ∷ ys) = rw (compared xs ys)

-- fronts of two lists that agree, and the next element of each
front-more : (xs ys : List ℕ) (k : ℕ) → k < length xs → k < length ys → take k xs ≡ take k ys → get_or xs k 0 ≡ get_or ys k 0 → take (k + 1) xs ≡ take (k + 1) ys
front-more xs ys k h l e g = rw (add-one, take-suc xs k 0 h, take-suc ys k 0 l, e, g)

-- ---- the search: none of the first i cells is c when `find` gives i

suc-cond : (b : Bool) (m : ℕ) → suc (cond b m (suc m)) ≡ cond b (suc m) (suc (suc m))
suc-cond true m = refl
suc-cond false m = refl

find-snoc : (xs : List Cell) (x c : Cell) → find xs c ≡ length xs → find (xs ++ x ∷ []) c ≡ cond (same x c) (length xs) (suc (length xs))
find-snoc [] x c e = refl
find-snoc (y ∷ ys) x c e = go (same y c) (find-snoc ys x c) e
  where
    go : (b : Bool) → (find ys c ≡ length ys → find (ys ++ x ∷ []) c ≡ cond (same x c) (length ys) (suc (length ys))) → cond b 0 (suc (find ys c)) ≡ suc (length ys)
        → cond b 0 (suc (find (ys ++ x ∷ []) c)) ≡ cond (same x c) (suc (length ys)) (suc (suc (length ys)))
    go true ih q = absurd (omega arith)
    go false ih q = ap suc (ih (omega arith)) ∙ suc-cond (same x c) (length ys)

find-kept : (xs ys : List Cell) (c : Cell) → find xs c < length xs → find (xs ++ ys) c ≡ find xs c
find-kept [] ys c h = absurd (not-suc-le-zero h)
find-kept (x ∷ xs) ys c h = go (same x c) (find-kept xs ys c) h
  where
    go : (b : Bool) → (find xs c < length xs → find (xs ++ ys) c ≡ find xs c) → cond b 0 (suc (find xs c)) < suc (length xs)
        → cond b 0 (suc (find (xs ++ ys) c)) ≡ cond b 0 (suc (find xs c))
    go true ih q = refl
    go false ih q = ap suc (ih (le_of_suc-le-suc q))

cells-suc : (n : ℕ) (t d : List ℕ) → cells_of (n + 1) t d ≡ cells_of n t d ++ cell_at t d n ∷ []
unfolding cells_of
cells-suc n t d = rw (add-one n)

module _ (t d : List ℕ) (c : Cell) (i : ℕ) (none : find (cells_of i t d) c ≡ i) where
  find_at : find (cells_of (i + 1) t d) c ≡ cond (same (cell_at t d i) c) i (suc i)
  find_at =
      ap (λ (l : List Cell). find l c) (cells-suc i t d)
      ∙ find-snoc (cells_of i t d) (cell_at t d i) c (none ∙ sym (cells-length i t d))
      ∙ ap (λ (m : ℕ). cond (same (cell_at t d i) c) m (suc m)) (cells-length i t d)

  pub find-next : same (cell_at t d i) c ≡ false → find (cells_of (i + 1) t d) c ≡ i + 1
  find-next e = find_at ∙ ap (λ (b : Bool). cond b i (suc i)) e ∙ sym (add-one i)

  find_hit_add : (m : ℕ) → same (cell_at t d i) c ≡ true → find (cells_of (i + 1 + m) t d) c ≡ i
  find_hit_add zero e = ap (λ (k : ℕ). find (cells_of k t d) c) (add-zero (i + 1)) ∙ find_at ∙ ap (λ (b : Bool). cond b i (suc i)) e
  find_hit_add (suc m) e =
      let l = cells-length (i + 1 + m) t d in
      let ih = find_hit_add m e in
      let q : i + 1 + suc m ≡ i + 1 + m + 1 = omega arith in
      ap (λ (k : ℕ). find (cells_of k t d) c) q
      ∙ ap (λ (x : List Cell). find x c) (cells-suc (i + 1 + m) t d)
      ∙ find-kept (cells_of (i + 1 + m) t d) (cell_at t d (i + 1 + m) ∷ []) c (rw (l, ih) (omega arith))
      ∙ ih

  pub find_hit : (n : ℕ) → i < n → same (cell_at t d i) c ≡ true → i ≡ find (cells_of n t d) c
  find_hit n h e =
      let q : i + 1 + (n - (i + 1)) ≡ n = omega arith in
      sym (subst (λ (m : ℕ). find (cells_of m t d) c ≡ i) q (find_hit_add (n - (i + 1)) e))

-- ---- the tests of a record against a cell

cases_head : (a b m s x : Bool) → (m ≡ false → s ≡ false) → (a && (b && m)) ≡ false → (a && (b && (x && s))) ≡ false
cases_head false b m s x f e = refl
cases_head true false m s x f e = refl
cases_head true true m s x f e = rw (f e) (and-false x)

cases-refs : (a b s x : Bool) → s ≡ false → (a && (b && (x && s))) ≡ false
cases-refs false b s x e = refl
cases-refs true false s x e = refl
cases-refs true true s x e = rw e (and-false x)

cases-bytes : (a b m s x : Bool) → (a && (b && m)) ≡ true → s ≡ true → (a && (b && (x && s))) ≡ x
cases-bytes false b m s x e f = cc
cases-bytes true false m s x e f = cc
cases-bytes true true m s x e f = rw f (and-true x)

second : (a b m : Bool) → (a && (b && m)) ≡ true → b ≡ true
second true true m e = refl
second true false m e = e
second false b m e = cc

third : (a b m : Bool) → (a && (b && m)) ≡ true → m ≡ true
third true true m e = e
third true false m e = cc
third false b m e = cc

abbrev row_refs : List ℕ → ℕ → List ℕ
row_refs t i = take (get_or t (i * 7 + 2) 0) (drop (i * 7 + 3) t)

abbrev row_bytes : List ℕ → List ℕ → ℕ → List ℕ
row_bytes t d i = take (bytes_for (get_or t (i * 7 + 1) 0)) (drop (i * 128) d)

abbrev is_flag : List ℕ → ℕ → ℕ → Bool
is_flag t i flag = eqb (get_or t (i * 7) 0) flag

abbrev is_bits : List ℕ → ℕ → ℕ → Bool
is_bits t i bits = eqb (get_or t (i * 7 + 1) 0) bits

abbrev is_count : List ℕ → ℕ → ℕ → Bool
is_count t i m = eqb (get_or t (i * 7 + 2) 0) m

module _ (n : ℕ) (t d w rs : List ℕ) (flag bits i : ℕ) (fields : Fields n t d) (h : i < n) where
  -- the record's references are as many as it says
  refs-length : length (row_refs t i) ≡ get_or t (i * 7 + 2) 0
  refs-length = simp (length-take, length-drop) (omega (arith, fields.refs i h, fields.table))

  pub cell-head : same_head t i flag bits (length rs) ≡ false → same (cell_at t d i) (cell_of flag bits w rs) ≡ false
  unfolding same_head cell_at
  cell-head e =
      cases_head (is_flag t i flag) (is_bits t i bits) (is_count t i (length rs)) (eqbs (row_refs t i) rs) (eqbs (row_bytes t d i) (take (bytes_for bits) w))
      (λ q. eqbs-long (row_refs t i) rs (λ l. eqb-false (get_or t (i * 7 + 2) 0) (length rs) q (sym refs-length ∙ l))) e

  head-is-count : same_head t i flag bits (length rs) ≡ true → get_or t (i * 7 + 2) 0 ≡ length rs
  unfolding same_head
  head-is-count e = eqb-true (get_or t (i * 7 + 2) 0) (length rs) (third (is_flag t i flag) (is_bits t i bits) (is_count t i (length rs)) e)

  head-is-bits : same_head t i flag bits (length rs) ≡ true → get_or t (i * 7 + 1) 0 ≡ bits
  unfolding same_head
  head-is-bits e = eqb-true (get_or t (i * 7 + 1) 0) bits (second (is_flag t i flag) (is_bits t i bits) (is_count t i (length rs)) e)

  -- a reference that differs, as `find_cell` comes by it
  pub cell-refs : (k x y : ℕ) → k < length rs → same_head t i flag bits (length rs) ≡ true → x ≡ get_or t (i * 7 + (3 + k)) 0 → y ≡ get_or rs k 0 → (x ≡ y → ⊥)
      → same (cell_at t d i) (cell_of flag bits w rs) ≡ false
  unfolding cell_at
  cell-refs k x y l e p q g =
      let m : get_or t (i * 7 + 2) 0 ≡ length rs = head-is-count e in
      let a : get_or (row_refs t i) k 0 ≡ x = get_or-take (get_or t (i * 7 + 2) 0) (drop (i * 7 + 3) t) k 0 (omega arith) ∙ get_or-drop (i * 7 + 3) t k 0 ∙ ap
      (λ (j : ℕ). get_or t j 0) (add_assoc (i * 7) 3 k) ∙ sym p in
      cases-refs (is_flag t i flag) (is_bits t i bits) (eqbs (row_refs t i) rs) (eqbs (row_bytes t d i) (take (bytes_for bits) w))
      (eqbs_diff (row_refs t i) rs k (rw refs-length (omega arith)) l (λ z. g (sym a ∙ z ∙ sym q)))

  -- one more that agrees
  pub refs-more : (k x y : ℕ) → k < length rs → i * 7 + 7 ≤ length t → length rs ≤ 4 → take k (drop (i * 7 + 3) t) ≡ take k rs → x ≡ get_or t (i * 7 + (3 + k)) 0
      → y ≡ get_or rs k 0 → x ≡ y
      → take (k + 1) (drop (i * 7 + 3) t) ≡ take (k + 1) rs
  refs-more k x y l room few e p q g =
      front-more (drop (i * 7 + 3) t) rs k (simp length-drop (omega arith)) l e
      (get_or-drop (i * 7 + 3) t k 0 ∙ ap (λ (j : ℕ). get_or t j 0) (add_assoc (i * 7) 3 k) ∙ sym p ∙ g ∙ q)

  cell-bytes : same_head t i flag bits (length rs) ≡ true → take (length rs) (drop (i * 7 + 3) t) ≡ take (length rs) rs
      → same (cell_at t d i) (cell_of flag bits w rs) ≡ eqbs (take (bytes_for bits) (drop (i * 128) d)) (take (bytes_for bits) w)
  unfolding same_head cell_at
  cell-bytes e g =
      cases-bytes (is_flag t i flag) (is_bits t i bits) (is_count t i (length rs)) (eqbs (row_refs t i) rs) (eqbs (row_bytes t d i) (take (bytes_for bits) w)) e
      (eqbs-eq (row_refs t i) rs (rw (head-is-count e) (g ∙ take-length rs)))
      ∙ rw (head-is-bits e)

  -- all agree but the bytes, which are compared
  pub cell-last : (k : ℕ) (r : Bool) → same_head t i flag bits (length rs) ≡ true → k ≤ length rs → length rs ≤ k → take k (drop (i * 7 + 3) t) ≡ take k rs
      → bits ≤ 1023 → r ≡ eqbs (take (bytes_for bits) (take 128 (drop (i * 128) d))) (take (bytes_for bits) w) → same (cell_at t d i) (cell_of flag bits w rs) ≡ r
  cell-last k r e l g q h s =
      let m : k ≡ length rs = omega arith in
      let b : bytes_for bits ≤ 128 = omega arith in
      cell-bytes e (rw m at q) ∙ sym (rw (take-take (bytes_for bits) 128 (drop (i * 128) d) b) at s)

-- ---- an equal cell of a sound store stands above its references

-- p is at most what all the numbers of xs are below
abbrev pub Least : List ℕ → ℕ → Type 0
Least xs p = (m : ℕ) → ((k : ℕ) → k < length xs → get_or xs k 0 < m) → p ≤ m

module _ (n : ℕ) (t d : List ℕ) (s : SoundMemory n t d) (x : Cell) (p : ℕ) (h : p ≤ n) (l : Least x.refs p) where
  not_same : (i : ℕ) → i < p → same (cell_at t d i) x ≡ false
  not_same i j = go (same (cell_at t d i) x) refl
    where
      go : (b : Bool) → same (cell_at t d i) x ≡ b → b ≡ false
      go false e = refl
      go true e =
          let z = s.lengths in
          let w : WfCell i (cell_at t d i) = wf-at t d i (s.cells i (omega arith)) (omega (arith, s.held)) (omega (arith, s.held)) in
          let f : p ≤ i = l i (subst (λ (c : Cell). (k : ℕ) → k < length c.refs → get_or c.refs k 0 < i) (same_true (cell_at t d i) x e) w.below) in
          absurd (omega arith)

  none-to : (i : ℕ) → i ≤ p → find (cells_of i t d) x ≡ i
  unfolding cells_of
  none-to zero j = refl
  none-to (suc i) j = subst (λ (m : ℕ). find (cells_of m t d) x ≡ m) (add-one i) (find-next t d x i (none-to i (omega arith)) (not_same i j))

  pub none_below : find (cells_of p t d) x ≡ p
  none_below = none-to p (omega arith)

pub sound-fields : (n : ℕ) (t d : List ℕ) → SoundMemory n t d → Fields n t d
sound-fields n t d s =
    let z = s.lengths in
    record {
      few = omega (arith, s.held);
      table = omega (arith, s.held);
      bytes = omega (arith, s.held);
      bits = λ k h. (s.cells k h).bits;
      refs = λ k h. (s.cells k h).count;
    }
