-- The lines of a report: their lengths, and that they are written piece after piece. Assumes nothing.
use Rattle.std.specs.Prelude.{Ok, Err}
use mathlib.Core.Path.{◌≡◌, refl, sym, ap, ◌∙◌}
use mathlib.Core.List.{List, [], ◌∷◌, ◌++◌, append_assoc, append-nil}
use mathlib.Core.Bool.{true}
use mathlib.Core.Logic.{⊎_elim}
use Prim.Native.Nat.{ℕ, zero, suc, ◌+◌, ◌<◌, ◌≤◌}
use native.Mathlib.Nat.{zero-add, not-suc-le-zero, le_of_suc-le-suc, eq-or-lt_of_le, le_refl}
use native.Mathlib.Numerals.{add-one}
use native.Mathlib.Omega.{arith}
use lib.ListN.{length, take, drop, get_or, length-append}
use lib.Seq.{take_at, take-suc}
use Rattle.scheme.specs.declared.Refusal.{Refusal}
use borrow.Author.Tests.{lt-leb, le-leb}
use Rattle.scheme.specs.Refusals.{reason_number}
use Rattle.scheme.specs.Res.{Res, mapped}
use Rattle.scheme.specs.Cells.{Cell}
use Rattle.scheme.specs.Memory.{sound, cells_of}
use Rattle.scheme.specs.Text.{digits, Page, page}
use Rattle.scheme.specs.Calls.{Printed, WriteOut, zeroed, print_out, printing}
use Rattle.scheme.specs.Program.{spaced, refused_line, page_line, root_lines}
use Rattle.laws.specs.Lent.{lent-cells}
use Rattle.laws.specs.Puts.{puts, puts_then, puts-start}
use Rattle.text.specs.declared.Printed.{Printed as Out}
use Rattle.text.specs.Paper.{printed_of, Prints}
use Rattle.report.specs.Lines.{ok_line}
use Rattle.report.specs.Paper.{Tells}

-- ---- the pieces of a line

pub spaced-length : (n : ℕ) (rest : List ℕ) → length (spaced n rest) ≡ 1 + length (digits 20 n) + length rest
spaced-length n rest = let e = length-append (digits 20 n) rest in omega arith

-- a number behind a space, and the rest behind it
spaced-append : (n : ℕ) (rest : List ℕ) → spaced n rest ≡ spaced n [] ++ rest
spaced-append n rest = ap (λ (l : List ℕ). 32 ∷ l) (ap (λ (l : List ℕ). l ++ rest) (sym (append-nil (digits 20 n))))

pub refused-length : (r : Refusal) → length (refused_line r) ≡ length (digits 20 (reason_number r.reason)) + length (digits 20 r.place) + 10
refused-length r = omega (arith, spaced-length (reason_number r.reason) (spaced r.place (10 ∷ [])), spaced-length r.place (10 ∷ []))

pub ok-length : (a b c : ℕ) → length (ok_line a b c) ≡ length (digits 20 a) + length (digits 20 b) + length (digits 20 c) + 6
ok-length a b c =
    omega (arith, spaced-length a (spaced b (spaced c (10 ∷ []))), spaced-length b (spaced c (10 ∷ [])), spaced-length c (10 ∷ []))

-- the calls of `put_spaced`, one behind the other
pub spaced-put : (n at a : ℕ) (l₀ l₁ l₂ : List ℕ) → l₁ ≡ puts l₀ at (32 ∷ []) → a ≡ at + 1 → l₂ ≡ puts l₁ a (digits 20 n) → l₂ ≡ puts l₀ at (spaced n [])
spaced-put n at a l₀ l₁ l₂ e₁ ea e₂ = puts_then l₀ l₁ l₂ at a (32 ∷ []) (digits 20 n) e₁ ea e₂ ∙ ap (λ (l : List ℕ). puts l₀ at (32 ∷ l)) (sym (append-nil (digits 20 n)))

-- of `put_refused`
pub refused-put : (r : Refusal) (at a b e : ℕ) (l₀ l₁ l₂ l₃ l₄ : List ℕ)
    → l₁ ≡ puts l₀ at (114 ∷ 101 ∷ 102 ∷ 117 ∷ 115 ∷ 101 ∷ 100 ∷ []) → a ≡ at + 7
    → l₂ ≡ puts l₁ a (spaced (reason_number r.reason) []) → b ≡ a + (1 + length (digits 20 (reason_number r.reason)))
    → l₃ ≡ puts l₂ b (spaced r.place []) → e ≡ b + (1 + length (digits 20 r.place))
    → l₄ ≡ puts l₃ e (10 ∷ [])
    → l₄ ≡ puts l₀ at (refused_line r)
refused-put r at a b e l₀ l₁ l₂ l₃ l₄ e₁ ea e₂ eb e₃ ee e₄ =
    let w : List ℕ = 114 ∷ 101 ∷ 102 ∷ 117 ∷ 115 ∷ 101 ∷ 100 ∷ [] in
    let x : List ℕ = spaced (reason_number r.reason) [] in
    let y : List ℕ = spaced r.place [] in
    let q₂ = puts_then l₀ l₁ l₂ at a w x e₁ ea e₂ in
    let b₃ : b ≡ at + length (w ++ x) = omega (arith, spaced-length (reason_number r.reason) []) in
    let q₃ = puts_then l₀ l₂ l₃ at b (w ++ x) y q₂ b₃ e₃ in
    let e₅ : e ≡ at + length (w ++ x ++ y) = omega (arith, length-append (w ++ x) y, b₃, spaced-length r.place []) in
    let q₄ = puts_then l₀ l₃ l₄ at e (w ++ x ++ y) (10 ∷ []) q₃ e₅ e₄ in
    let f : (w ++ x ++ y) ++ 10 ∷ [] ≡ refused_line r =
    append_assoc (w ++ x) y (10 ∷ []) ∙ append_assoc w x (y ++ 10 ∷ [])
    ∙ ap (λ (l : List ℕ). w ++ (x ++ l)) (sym (spaced-append r.place (10 ∷ [])))
    ∙ ap (λ (l : List ℕ). w ++ l) (sym (spaced-append (reason_number r.reason) (spaced r.place (10 ∷ [])))) in
    q₄ ∙ ap (puts l₀ at) f

-- of `put_ok`
pub ok-put : (u v w a b d e : ℕ) (l₀ l₁ l₂ l₃ l₄ l₅ : List ℕ)
    → l₁ ≡ puts l₀ 0 (111 ∷ 107 ∷ []) → a ≡ 2
    → l₂ ≡ puts l₁ a (spaced u []) → b ≡ a + (1 + length (digits 20 u))
    → l₃ ≡ puts l₂ b (spaced v []) → d ≡ b + (1 + length (digits 20 v))
    → l₄ ≡ puts l₃ d (spaced w []) → e ≡ d + (1 + length (digits 20 w))
    → l₅ ≡ puts l₄ e (10 ∷ [])
    → l₅ ≡ puts l₀ 0 (ok_line u v w)
ok-put u v w a b d e l₀ l₁ l₂ l₃ l₄ l₅ e₁ ea e₂ eb e₃ ed e₄ ee e₅ =
    let k : List ℕ = 111 ∷ 107 ∷ [] in
    let x : List ℕ = spaced u [] in
    let y : List ℕ = spaced v [] in
    let z : List ℕ = spaced w [] in
    let q₂ = puts_then l₀ l₁ l₂ 0 a k x e₁ ea e₂ in
    let b₃ : b ≡ 0 + length (k ++ x) = omega (arith, spaced-length u []) in
    let q₃ = puts_then l₀ l₂ l₃ 0 b (k ++ x) y q₂ b₃ e₃ in
    let d₄ : d ≡ 0 + length (k ++ x ++ y) = omega (arith, length-append (k ++ x) y, b₃, spaced-length v []) in
    let q₄ = puts_then l₀ l₃ l₄ 0 d (k ++ x ++ y) z q₃ d₄ e₄ in
    let e₆ : e ≡ 0 + length (k ++ x ++ y ++ z) = omega (arith, length-append (k ++ x ++ y) z, d₄, spaced-length w []) in
    let q₅ = puts_then l₀ l₄ l₅ 0 e (k ++ x ++ y ++ z) (10 ∷ []) q₄ e₆ e₅ in
    let f : (k ++ x ++ y ++ z) ++ 10 ∷ [] ≡ ok_line u v w =
    append_assoc (k ++ x ++ y) z (10 ∷ []) ∙ append_assoc (k ++ x) y (z ++ 10 ∷ []) ∙ append_assoc k x (y ++ (z ++ 10 ∷ []))
    ∙ ap (λ (l : List ℕ). k ++ (x ++ (y ++ l))) (sym (spaced-append w (10 ∷ [])))
    ∙ ap (λ (l : List ℕ). k ++ (x ++ l)) (sym (spaced-append v (spaced w (10 ∷ []))))
    ∙ ap (λ (l : List ℕ). k ++ l) (sym (spaced-append u (spaced v (spaced w (10 ∷ []))))) in
    q₅ ∙ ap (puts l₀ 0) f

-- ---- a root's line

-- the line of a page, which is w bytes at the front of o' and the end of the line
pub record Line (p : Res Page) (w : ℕ) (o' : List ℕ) : Type 0 where
  pub text : page_line p ≡ take w o' ++ 10 ∷ []
  pub room : w ≤ length o'
  pub part : length (take w o') ≡ w
  pub long : length (page_line p) ≡ w + 1

refused-page : (s o : List ℕ) (p : Res Page) (r : Refusal) → Err r ≡ (print_out s o p).answer → page_line p ≡ refused_line r
refused-page s o (Err q) r e = let z : r ≡ q = cc in rw z
refused-page s o (Ok q) r e = let z : ◌≡◌ {A = ℕ} 0 1 = cc in absurd (omega arith)

printed-page : (s o : List ℕ) (p : Res Page) (x : Printed) (o' : List ℕ) → Ok x ≡ (print_out s o p).answer → o' ≡ (print_out s o p).out → Line p x.written o'
printed-page s o (Err q) x o' e f = let z : ◌≡◌ {A = ℕ} 0 1 = cc in absurd (omega arith)
printed-page s o (Ok q) x o' e f =
    let z : x ≡ record { written = length q.text; cells = q.cells } = cc in
    let w : x.written ≡ length q.text = ap (λ (y : Printed). y.written) z in
    let front : take (length q.text) o' ≡ q.text = rw f (take_at q.text (drop (length q.text) o) (length q.text) refl) in
    record {
      text = rw (w, front);
      room = rw (w, f, length-append q.text (drop (length q.text) o)) (omega arith);
      part = rw (w, front);
      long = rw w (length-append q.text (10 ∷ []));
    }

page-scratch : (s o : List ℕ) (p : Res Page) → (print_out s o p).scratch ≡ zeroed s
page-scratch s o (Err q) = refl
page-scratch s o (Ok q) = refl

module _ (n : ℕ) (t d : List ℕ) (i budget : ℕ) (s o : List ℕ) (H : (sound n t d ≡ true) × (i < n)) (L : (n ≤ length s) × (length o ≡ 8192)) (r : Res Out) (s' o' : List ℕ)
    (P : Prints n t d i budget s o r s' o') where
  abbrev said : Res Page
  said = page (cells_of n t d) i budget 8192

  -- what is printed of a root of a sound store is what its page says
  as-page : printing n t d i budget s o ≡ print_out s o said
  unfolding printing
  as-page = rw (lent-cells 1 n t d i (length s) H.0 H.1 (omega (arith, L.0)), L.1)

  pub line_clean : s' ≡ zeroed s
  line_clean = P.scratch ∙ ap (λ (w : WriteOut Printed). w.scratch) as-page ∙ page-scratch s o said

  pub line_refused : (q : Refusal) → r ≡ Err q → page_line said ≡ refused_line q
  line_refused q g = refused-page s o said q (sym (ap (mapped printed_of) g) ∙ P.answer ∙ ap (λ (w : WriteOut Printed). w.answer) as-page)

  pub line-printed : (x : Out) → r ≡ Ok x → Line said x.written o'
  line-printed x g =
      printed-page s o said (record { written = x.written; cells = x.cells }) o' (sym (ap (mapped printed_of) g) ∙ P.answer ∙ ap (λ (w : WriteOut Printed). w.answer) as-page)
      (P.out ∙ ap (λ (w : WriteOut Printed). w.out) as-page)

-- ---- all roots' lines

module _ (s : List Cell) where
  abbrev line : ℕ → List ℕ
  line i = page_line (page s i 1000 8192)

  lines_snoc : (rs : List ℕ) (r : ℕ) → root_lines s (rs ++ r ∷ []) ≡ root_lines s rs ++ line r
  unfolding root_lines
  lines_snoc [] r = append-nil (line r)
  lines_snoc (x ∷ rs) r =
      ap (λ (l : List ℕ). line x ++ l) (lines_snoc rs r) ∙ sym (append_assoc (line x) (root_lines s rs) (line r))

  -- one root more
  lines_more : (rs : List ℕ) (i : ℕ) → i < length rs → root_lines s (take (i + 1) rs) ≡ root_lines s (take i rs) ++ line (get_or rs i 0)
  lines_more rs i h = rw (add-one i, take-suc rs i 0 h) (lines_snoc (take i rs) (get_or rs i 0))

  pub lines_next : (rs : List ℕ) (i r : ℕ) → r ≡ get_or rs i 0 → i < length rs → root_lines s (take (i + 1) rs) ≡ root_lines s (take i rs) ++ line r
  lines_next rs i r e h = rw e (lines_more rs i h)

  pub next-length : (rs : List ℕ) (i r : ℕ) → r ≡ get_or rs i 0 → i < length rs → length (root_lines s (take (i + 1) rs)) ≡ length (root_lines s (take i rs)) + length (line r)
  next-length rs i r e h = ap length (lines_next rs i r e h) ∙ length-append (root_lines s (take i rs)) (line r)

  pub lines_none : (rs : List ℕ) → root_lines s (take 0 rs) ≡ []
  unfolding root_lines
  lines_none rs = refl

  lines-le : (rs : List ℕ) (i k : ℕ) → i < k → k ≤ length rs → length (root_lines s (take i rs)) + length (line (get_or rs i 0)) ≤ length (root_lines s (take k rs))
  lines-le rs i zero h g = absurd (not-suc-le-zero h)
  lines-le rs i (suc k) h g = ⊎_elim
      (λ q. rw (q, ← add-one k, lines_more rs k (omega arith), length-append (root_lines s (take k rs)) (line (get_or rs k 0))) (le_refl _))
      (λ l.
      let ih = lines-le rs i k l (omega arith) in
      let m : length (root_lines s (take (suc k) rs)) ≡ length (root_lines s (take k rs)) + length (line (get_or rs k 0)) =
      rw (← add-one k, lines_more rs k (omega arith)) (length-append (root_lines s (take k rs)) (line (get_or rs k 0))) in
      omega arith)
      (eq-or-lt_of_le (le_of_suc-le-suc h))

  -- those of the first i roots, with the next one's, are no longer than all
  pub lines-room : (rs : List ℕ) (i k r : ℕ) → r ≡ get_or rs i 0 → i < k → k ≤ length rs → length (root_lines s (take i rs)) + length (line r) ≤ length (root_lines s (take k rs))
  lines-room rs i k r e h g = rw e (lines-le rs i k h g)

-- ---- the outcome

module _ (text o : List ℕ) where
  pub told-short : length o < length text → (n : ℕ) → n ≡ length text → Tells text o n o
  told-short h n e = record { len = e; out = rw (lt-leb (length text) (length o) h) }

  pub told : length text ≤ length o → (n : ℕ) (o' : List ℕ) → n ≡ length text → o' ≡ puts o 0 text → Tells text o n o'
  told h n o' e f = record { len = e; out = rw (le-leb (length text) (length o) h) (f ∙ puts-start o text h) }

-- the first line, and the roots' lines behind it
pub both-put : (a b o o₁ o₂ : List ℕ) (at : ℕ) → o₁ ≡ puts o 0 a → at ≡ length a → o₂ ≡ puts o₁ at b → o₂ ≡ puts o 0 (a ++ b)
both-put a b o o₁ o₂ at e₁ ea e₂ = puts_then o o₁ o₂ 0 at a b e₁ (rw zero-add ea) e₂
