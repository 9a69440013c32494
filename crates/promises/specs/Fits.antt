-- Every report fits the buffer that the programs lend for it: a line of at most 66 bytes, and one of at most 8,193 for each root place.
-- So what is in the buffer is what the program prints. Assumes nothing.
use Rattle.std.specs.Prelude.{◌≡◌, refl, ℕ, zero, suc, ◌+◌, ◌*◌, ◌/◌, ◌%◌, ◌≤◌, min, Bool, true, false, cond, List, [], ◌∷◌, ◌++◌, take, drop, leb, ltb, Ok, Err}
use Rattle.std.proofs.Common.{ap, not-suc-le-zero, arith, length-append, take_at, leb-true, le-leb}
use Rattle.std.proofs.Math.ListN.{length}
use Rattle.scheme.specs.declared.Refusal.{Refusal}
use Rattle.scheme.specs.Refusals.{reason_number, STORE, NOROOM, DEEP, BUDGET}
use Rattle.scheme.specs.Limits.{max_path, max_budget}
use Rattle.scheme.specs.Res.{Res, check, refusal}
use Rattle.scheme.specs.Cells.{Cell, at}
use Rattle.scheme.specs.Bag.{Got, read, read_scratch}
use Rattle.scheme.specs.Text.{digits, text_of, tree_size, height, Page, page}
use Rattle.scheme.specs.Memory.{capacity, sized}
use Rattle.scheme.specs.Calls.{onto}
use Rattle.scheme.specs.Program.{spaced, refused_line, page_line, root_lines, read_lines, too_long, max_input, printed, ReportOut, told, afresh, reporting}
use Rattle.laws.specs.Accept.{Small, then_use, check_inv}
use Rattle.theorems.proofs.Meaning.{read-means}
use Rattle.theorems.specs.Grammar.{bag_of}
use Rattle.theorems.proofs.Accepts.{grammar}
use Rattle.report.specs.Paper.{Reports, tells-printed}

digits-few : (k n : ℕ) → length (digits k n) ≤ k
unfolding digits
digits-few zero n = omega arith
digits-few (suc k) n = go (ltb n 10) (digits-few k (n / 10))
  where
    go : (b : Bool) → length (digits k (n / 10)) ≤ k → length (cond b ((48 + n) ∷ []) (digits k (n / 10) ++ (48 + n % 10) ∷ [])) ≤ suc k
    go true h = omega arith
    go false h = omega (arith, length-append (digits k (n / 10)) ((48 + n % 10) ∷ []))

spaced-few : (n : ℕ) (rest : List ℕ) → length (spaced n rest) ≤ 21 + length rest
spaced-few n rest = let h = digits-few 20 n in omega (arith, length-append (digits 20 n) rest)

refused-few : (r : Refusal) → length (refused_line r) ≤ 50
refused-few r =
    let a = spaced-few (reason_number r.reason) (spaced r.place (10 ∷ [])) in
    let b = spaced-few r.place (10 ∷ []) in
    omega arith

page-few : (s : List Cell) (i budget room : ℕ) (p : Page) → page s i budget room ≡ Ok p → length p.text ≤ room
unfolding page
page-few s i budget room p e =
    then_use (check (leb (height (at s) i) max_path) (refusal DEEP 0)) _ _ e λ u₁ x₁ e₁.
    then_use (check (leb (tree_size (at s) i) (min budget max_budget)) (refusal BUDGET (min budget max_budget))) _ _ e₁ λ u₂ x₂ e₂.
    then_use (check (leb (length (text_of (at s) i)) room) (refusal NOROOM (length (text_of (at s) i)))) _ _ e₂ λ u₃ x₃ e₃.
    let h = leb-true (length (text_of (at s) i)) room (check_inv (leb (length (text_of (at s) i)) room) (refusal NOROOM (length (text_of (at s) i))) u₃ x₃) in
    let q : record { text = text_of (at s) i; cells = tree_size (at s) i } ≡ p = cc in
    rw (← q) h

line-few : (s : List Cell) (i : ℕ) → length (page_line (page s i 1000 8192)) ≤ 8193
line-few s i = go (page s i 1000 8192) refl
  where
    go : (r : Res Page) → page s i 1000 8192 ≡ r → length (page_line r) ≤ 8193
    go (Err r) e = let h = refused-few r in omega arith
    go (Ok p) e = let h = page-few s i 1000 8192 p e in omega (arith, length-append p.text (10 ∷ []))

lines-few : (s : List Cell) (rs : List ℕ) → length (root_lines s rs) ≤ length rs * 8193
unfolding root_lines
lines-few s [] = omega arith
lines-few s (r ∷ rs) =
    let a = line-few s r in
    let b = lines-few s rs in
    omega (arith, length-append (page_line (page s r 1000 8192)) (root_lines s rs))

names-few : (scratch room cap : ℕ) (b : List ℕ) (g : Got) → Small b → read true scratch room cap [] b ≡ Ok g → length g.names ≤ room
unfolding bag_of
names-few scratch room cap b g B e =
    let M = read-means true scratch room cap [] b g (λ i h. absurd (not-suc-le-zero h)) B e in
    let S = (grammar true scratch room b M.0 B).0 M.1 in
    let q = S.is in
    omega (arith, M.2.names, ap (λ a. length a.roots) q, S.admissible.roots-lent)

shown_few : (room : ℕ) (r : Res Got) → ((g : Got) → r ≡ Ok g → length g.names ≤ room) → length (read_lines r) ≤ 66 + room * 8193
shown_few room (Err r) h = let f = refused-few r in omega arith
shown_few room (Ok g) h =
    let n = h g refl in
    let l = lines-few g.store g.names in
    let c = spaced-few g.counts.roots (10 ∷ root_lines g.store g.names) in
    let b = spaced-few g.counts.cells (spaced g.counts.roots (10 ∷ root_lines g.store g.names)) in
    let a = spaced-few g.counts.used (spaced g.counts.cells (spaced g.counts.roots (10 ∷ root_lines g.store g.names))) in
    omega arith

-- what the program prints for an input of bytes has at most 131,154 bytes
pub fits : (input : List ℕ) → Small input → length (printed input) ≤ 131154
unfolding printed
fits input B = go (leb (length input) 32768)
  where
    go : (b : Bool) → length (cond b (read_lines (read true (read_scratch 128) 16 128 [] input)) too_long) ≤ 131154
    go true = shown_few 16 (read true (read_scratch 128) 16 128 [] input) (λ g e. names-few (read_scratch 128) 16 128 input g B e)
    go false = omega arith

either : (b : Bool) (x y : ReportOut) (k : ℕ) → x.len ≤ k → y.len ≤ k → (cond b x y).len ≤ k
either true x y k h g = h
either false x y k h g = g

module _ (n : ℕ) (t d s rs o input : List ℕ) (B : Small input) (r n' : ℕ) (t' d' s' rs' o' : List ℕ) (R : Reports n t d s rs o input r n' t' d' s' rs' o') where
  fresh-few : (g : Got) → afresh t d (length s) (length rs) input ≡ Ok g → length g.names ≤ length rs
  unfolding afresh
  fresh-few g e =
      then_use (check (sized t d) (refusal STORE 0)) _ _ e λ u x e₁.
      names-few (length s) (length rs) (capacity t) input g B e₁

  len-few : (reporting n t d s rs o input).len ≤ 66 + length rs * 8193
  unfolding reporting
  len-few =
      either (leb (length input) max_input) _ (told n t d s rs o too_long) (66 + length rs * 8193)
      (shown_few (length rs) (afresh t d (length s) (length rs) input) fresh-few) (omega arith)

  -- of a report in any memory: a line of 66 bytes, and one of 8,193 for each root place
  pub report-fits : r ≤ 66 + length rs * 8193
  report-fits = rw R.len len-few

  -- in the program's memory it is written whole
  pub report-printed : length t ≡ 896 → length d ≡ 16384 → length s ≡ 256 → length rs ≡ 16 → length o ≡ 131154 → (r ≤ length o') × (take r o' ≡ printed input)
  report-printed et ed es er eo =
      let T = tells-printed n t d s rs o input et ed es er r n' t' d' s' rs' o' R in
      let h : length (printed input) ≤ length o = omega (arith, fits input B) in
      let q : o' ≡ onto (printed input) o = rw (le-leb (length (printed input)) (length o) h) at T.out in (
        omega (arith, T.len, ap length q, length-append (printed input) (drop (length (printed input)) o)),
        rw (T.len, q) (take_at (printed input) (drop (length (printed input)) o) (length (printed input)) refl),
      )
