-- What each test of printing leads to; a bound on a text's length; what is printed. Assumes nothing.
use Rattle.std.specs.Prelude.{Ok, Err}
use mathlib.Core.Path.{◌≡◌, refl, ap}
use mathlib.Core.List.{List, [], ◌∷◌, ◌++◌}
use mathlib.Core.Logic.{⊎_elim}
use Prim.Native.Nat.{ℕ, ◌+◌, ◌*◌, ◌<◌, ◌≤◌, min}
use native.Mathlib.Nat.{le_refl}
use native.Mathlib.Omega.{arith}
use lib.ListN.{length, drop, get_or, replicate}
use borrow.Author.Tests.{lt-leb, le-leb}
use Rattle.std.proofs.lemmas.Bool.{cases_lt}
use Rattle.scheme.specs.Refusals.{NOROOM, DEEP, BUDGET}
use Rattle.scheme.specs.declared.Refusal.{Refusal}
use Rattle.scheme.specs.Res.{Res, then, mapped, refusal}
use Rattle.scheme.specs.Cells.{Cell, at}
use Rattle.scheme.specs.Memory.{cell_at, cells_of}
use Rattle.scheme.specs.Text.{digits, sum, own, height_step, height, size_step, tree_size, text_step, text_of, Page, page}
use Rattle.scheme.specs.Calls.{lent, printing}
use Rattle.laws.specs.Records.{CellOk, CellsOk, cell-refs, refs-length}
use Rattle.laws.specs.Folds.{Both, value-both, value-cells}
use Rattle.laws.specs.Lent.{lent-cells}
use Rattle.depth.specs.Lent.{IsLent, is-lent}
use Rattle.text.specs.Parts.{bytes_at, length_step, text_at, size_at}
use Rattle.text.specs.Paper.{page_at, Prints}
use Rattle.text.proofs.Digits.{digits-length}
use Rattle.text.proofs.Texts.{own-width, around-le, length-eq}

-- ---- a text is at most 300 times as long as its tree has cells

Within : ℕ → ℕ → Type 0
Within l s = l ≤ 300 * s

sums_within : (ls ss : List ℕ) → Both Within ls ss → sum ls ≤ 300 * sum ss
unfolding sum Within
sums_within [] [] h = omega arith
sums_within [] (s ∷ ss) h = absurd h
sums_within (l ∷ ls) [] h = absurd h
sums_within (l ∷ ls) (s ∷ ss) h = omega (arith, h.0, sums_within ls ss h.1)

own-within : (t d : List ℕ) (i : ℕ) → CellOk t d i → length (own (cell_at t d i).len (cell_at t d i).bytes) ≤ 280
unfolding cell_at bytes_at
own-within t d i g =
    let o = own-width t d i (get_or t (i * 7 + 1) 0) (length (digits 20 (get_or t (i * 7 + 1) 0))) g.bytes refl g.ok.bits refl in
    omega (arith, o, digits-length 20 (get_or t (i * 7 + 1) 0), g.ok.bits)

few : (t d : List ℕ) (i : ℕ) (ls : List ℕ) → CellOk t d i → length ls ≡ length (cell_at t d i).refs → length ls ≤ 4
few t d i ls g e = omega (arith, rw (cell-refs t d i) at e, refs-length t i g.ok, g.ok.few)

within_step : (t d : List ℕ) (i : ℕ) (ls ss : List ℕ) → CellOk t d i → length ls ≡ length (cell_at t d i).refs → Both Within ls ss
    → Within (length_step (cell_at t d i) ls) (size_step (cell_at t d i) ss)
unfolding Within
within_step t d i ls ss g e b = omega (arith, own-within t d i g, around-le (length ls) (few t d i ls g e), sums_within ls ss b)

pub text-bound : (t d : List ℕ) (n : ℕ) → CellsOk t d (n + 1) → length (text_of (cell_at t d) n) ≤ 300 * tree_size (cell_at t d) n
unfolding Within
text-bound t d n s =
    let w = value-both Within length_step size_step 0 0 (cell_at t d) n (omega arith)
    (λ i l xs ys e b. within_step t d i xs ys (s i (omega arith)) e b) n (le_refl n) in
    rw (length-eq (cell_at t d) n) at w

-- ---- the tests in their order

module _ (n : ℕ) (t d : List ℕ) (i budget scratch room : ℕ) where
  abbrev Said : Res Page
  Said = page_at n t d i budget scratch room

  module _ (g : IsLent n t d i scratch) where
    paged : Said ≡ page (cells_of n t d) i budget room
    paged = rw (lent-cells 1 n t d i scratch g.whole g.held (omega (arith, g.entries)))

    -- the values over the list of cells are those over the cells in memory
    high : height (at (cells_of n t d)) i ≡ height (cell_at t d) i
    high = value-cells height_step 0 t d n i g.held

    many : tree_size (at (cells_of n t d)) i ≡ size_at t d i
    many = value-cells size_step 0 t d n i g.held

    long : text_of (at (cells_of n t d)) i ≡ text_at t d i
    long = value-cells text_step [] t d n i g.held

    pub too_deep : 256 < height (cell_at t d) i → Said ≡ Err (refusal DEEP 0)
    unfolding page
    too_deep p = rw (paged, high, lt-leb (height (cell_at t d) i) 256 p)

    module _ (p : height (cell_at t d) i ≤ 256) where
      pub over_budget : min budget 65535 < size_at t d i → Said ≡ Err (refusal BUDGET (min budget 65535))
      unfolding page
      over_budget q = rw (paged, high, le-leb (height (cell_at t d) i) 256 p, many, lt-leb (size_at t d i) (min budget 65535) q)

      module _ (q : size_at t d i ≤ min budget 65535) where
        pub no_room : room < length (text_at t d i) → Said ≡ Err (refusal NOROOM (length (text_at t d i)))
        unfolding page
        no_room r =
            rw (paged, high, le-leb (height (cell_at t d) i) 256 p, many, le-leb (size_at t d i) (min budget 65535) q, long)
            (rw (lt-leb (length (text_at t d i)) room r))

        pub all-fits : length (text_at t d i) ≤ room → Said ≡ Ok (record { text = text_at t d i; cells = size_at t d i })
        unfolding page
        all-fits r =
            rw (paged, high, le-leb (height (cell_at t d) i) 256 p, many, le-leb (size_at t d i) (min budget 65535) q, long)
            (rw (le-leb (length (text_at t d i)) room r))

  -- ---- what a verdict says

  pub record Went : Type 0 where
    pub lent : IsLent n t d i scratch
    pub within : size_at t d i ≤ min budget 65535
    pub fits : length (text_at t d i) ≤ room
    pub page-is : Said ≡ Ok (record { text = text_at t d i; cells = size_at t d i })

  not-go : (r : Refusal) → Said ≡ Err r → mapped (λ _. tt {0}) Said ≡ Ok (tt {0}) → ⊥
  not-go r e g = let v : mapped (λ _. tt {0}) Said ≡ Err r = ap (mapped (λ _. tt {0})) e in cc

  lent-went : mapped (λ _. tt {0}) Said ≡ Ok (tt {0}) → IsLent n t d i scratch
  lent-went g = is-lent n t d i scratch (go (lent 1 n t d i scratch) g)
    where
      go : (x : Res (List Cell)) → mapped (λ _. tt {0}) (then x λ s. page s i budget room) ≡ Ok (tt {0}) → mapped (λ _. tt {0}) x ≡ Ok (tt {0})
      go (Err r) e = cc
      go (Ok a) e = refl

  pub went : mapped (λ _. tt {0}) Said ≡ Ok (tt {0}) → Went
  went g =
      let k = lent-went g in
      ⊎_elim
      (λ p. absurd (not-go _ (too_deep k p) g))
      (λ p. ⊎_elim
      (λ q. absurd (not-go _ (over_budget k p q) g))
      (λ q. ⊎_elim
      (λ r. absurd (not-go _ (no_room k p q r) g))
      (λ r. record { lent = k; within = q; fits = r; page-is = all-fits k p q r })
      (cases_lt room (length (text_at t d i))))
      (cases_lt (min budget 65535) (size_at t d i)))
      (cases_lt 256 (height (cell_at t d) i))

said-no : (x : Res Page) (r : Refusal) → mapped (λ _. tt {0}) x ≡ Err r → x ≡ Err r
said-no (Err q) r e = cc
said-no (Ok p) r e = cc

-- ---- the outcome

module _ (n : ℕ) (t d : List ℕ) (i budget : ℕ) (s o s' : List ℕ) (z : s' ≡ replicate (length s) 0) where
  pub refused : (r : Refusal) → mapped (λ _. tt {0}) (page_at n t d i budget (length s) (length o)) ≡ Err r → Prints n t d i budget s o (Err r) s' o
  unfolding printing
  refused r e =
      let q = said-no (page_at n t d i budget (length s) (length o)) r e in
      record { answer = rw q; scratch = rw q z; out = rw q }

  pub printed : (w m : ℕ) (o' : List ℕ) → Went n t d i budget (length s) (length o) → w ≡ length (text_at t d i) → m ≡ size_at t d i
      → o' ≡ text_at t d i ++ drop (length (text_at t d i)) o → Prints n t d i budget s o (Ok (record { written = w; cells = m })) s' o'
  unfolding printing
  printed w m o' g ew em eo =
      let q = g.page-is in
      record { answer = rw (q, ew, em); scratch = rw q z; out = rw q eo }
