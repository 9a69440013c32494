-- From the outcomes of clearing and of reading to what a report tells. Assumes nothing.
use Rattle.std.specs.Prelude.{Ok, Err}
use mathlib.Core.Path.{◌≡◌, refl, sym, ap, ◌∙◌, subst}
use mathlib.Core.Logic.{◌⊎◌, inl, inr}
use mathlib.Core.Bool.{Bool, true, false}
use mathlib.Core.List.{List, [], ◌∷◌, ◌++◌, append_assoc}
use Prim.Native.Nat.{ℕ, suc, ◌+◌, ◌-◌, ◌*◌, ◌<◌, ◌≤◌}
use native.Mathlib.Nat.{not-suc-le-zero}
use native.Mathlib.Omega.{arith}
use lib.ListN.{length, take, drop, get_or, replicate, length-append, length-map, length-replicate, get_or-append}
use lib.Seq.{take_at}
use borrow.Author.Tests.{lt-leb, le-leb}
use Rattle.scheme.specs.Refusals.{STORE}
use Rattle.scheme.specs.declared.Refusal.{Refusal}
use Rattle.scheme.specs.Res.{Res, then, check, mapped, refusal}
use Rattle.scheme.specs.Cells.{Cell, find, insert}
use Rattle.scheme.specs.Memory.{capacity, sized, sound, held, cells_of, rows, lay_table, lay_bytes}
use Rattle.scheme.specs.Bag.{Counts as Totals, Got, link, load, read}
use Rattle.scheme.specs.Calls.{StoreOut, clear_out, clearing, ReadOut, read_out, reading, zeroed}
use Rattle.scheme.specs.Text.{digits}
use Rattle.scheme.specs.Program.{spaced, refused_line, root_lines, read_lines, too_long, max_input, afresh, reporting}
use Rattle.laws.specs.Wf.{Wf}
use Rattle.laws.specs.Unique.{find_cases, insert-old, insert-new}
use Rattle.laws.specs.Records.{sized-is}
use Rattle.laws.specs.Accept.{Small}
use Rattle.laws.proofs.Accept.{read-inv}
use Rattle.laws.specs.RoundLaws.{cells-back}
use Rattle.laws.specs.Lay.{wf-nil, sound-lay}
use Rattle.theorems.specs.Grammar.{cell_of, bag_of}
use Rattle.theorems.proofs.Accepts.{grammar}
use Rattle.theorems.proofs.Meaning.{read-means}
use Rattle.store.specs.Paper.{Clears}
use Rattle.reader.specs.declared.Counts.{Counts}
use Rattle.reader.specs.Load.{load-held}
use Rattle.reader.specs.Paper.{totals_of, Reads}
use Rattle.report.specs.Lines.{ok_line, lines_of, Roots}
use Rattle.report.specs.Paper.{Tells, Reports}

-- the first line, and what stands behind it
spaced-then : (n : ℕ) (rest l : List ℕ) → spaced n rest ++ l ≡ spaced n (rest ++ l)
spaced-then n rest l = ap (λ (y : List ℕ). 32 ∷ y) (append_assoc (digits 20 n) rest l)

ok-then : (u v w : ℕ) (l : List ℕ) → 111 ∷ 107 ∷ spaced u (spaced v (spaced w (10 ∷ l))) ≡ ok_line u v w ++ l
ok-then u v w l =
    ap (λ (y : List ℕ). 111 ∷ 107 ∷ y) (sym (
    spaced-then u (spaced v (spaced w (10 ∷ []))) l
    ∙ ap (spaced u) (spaced-then v (spaced w (10 ∷ [])) l ∙ ap (spaced v) (spaced-then w (10 ∷ []) l))))

-- ---- a bag that is read into an empty store

-- each bag cell adds one cell at most
insert-few : (s : List Cell) (c : Cell) → length (insert s c) ≤ length s + 1
insert-few s c = go (find_cases s c)
  where
    go : (find s c < length s) ⊎ (find s c ≡ length s) → length (insert s c) ≤ length s + 1
    go (inl h) = rw (insert-old s c h) (omega arith)
    go (inr e) = rw (insert-new s c e) (omega (arith, length-append s (c ∷ [])))

load-few : (s : List Cell) (i : ℕ) (cs : List Cell) → length (load s i cs).store ≤ length s + length cs
load-few s i [] = omega arith
load-few s i (c ∷ cs) =
    let l = load s (suc i) cs in
    omega (arith, load-few s (suc i) cs, insert-few l.store (link i c l.nums))

-- what a report needs of it
record Fresh (scratch : ℕ) (g : Got) : Type 0 where
  wf : Wf g.store
  roots : g.counts.roots ≡ length g.names
  few : length g.names ≤ 4096
  below : (i : ℕ) → i < length g.names → get_or g.names i 0 < length g.store
  room : length g.store ≤ scratch

fresh-got : (scratch room cap : ℕ) (b : List ℕ) (g : Got) → Small b → read true scratch room cap [] b ≡ Ok g → Fresh scratch g
unfolding bag_of
fresh-got scratch room cap b g S e =
    let A = read-inv true scratch room cap [] b g S e in
    let M = read-means true scratch room cap [] b g (λ i h. absurd (not-suc-le-zero h)) S e in
    let P = (grammar true scratch room b M.0 S).0 M.1 in
    let roots : length M.0.roots ≡ length P.head.roots = ap (λ a. length a.roots) P.is in
    let cells : length M.0.cells ≡ length P.cells = ap (λ a. length a.cells) P.is ∙ length-map P.cells cell_of in
    let stored : length g.store ≤ length A.bag.cells = omega (arith, ap length A.store_is, load-few [] 0 A.bag.cells) in
    record {
      wf = subst (λ (l : List Cell). Wf l) (sym A.store_is) (load-held [] wf-nil 0 A.bag.cells A.whole.fit A.whole.linked).wf;
      roots = M.2.roots ∙ sym M.2.names;
      few = omega (arith, M.2.names, roots, P.admissible.counts, P.admissible.cells);
      below = λ i h. M.2.held i (omega (arith, M.2.names));
      room = omega (arith, A.cells_is, M.2.cells, cells, stored, P.admissible.scratch-lent);
    }

-- ---- a cleared store

clear-capacity : (cap : ℕ) → capacity (lay_table cap []) ≡ cap
unfolding lay_table rows
clear-capacity cap = rw (length-replicate {A = ℕ} ((cap - 0) * 7) 0) (omega arith)

clear-held : (cap : ℕ) → cap ≤ 4096 → held 0 (lay_table cap []) (lay_bytes cap []) ≡ Ok []
unfolding held cells_of
clear-held cap few = rw (sound-lay cap [] wf-nil (omega arith) few)

unsized_held : (n : ℕ) (t d : List ℕ) → sized t d ≡ false → held n t d ≡ Err (refusal STORE 0)
unfolding held sound
unsized_held n t d e = rw e

module _ (n : ℕ) (t d s rs b : List ℕ) where
  -- what is read into the store once it is cleared
  abbrev pub fresh : Res Got
  fresh = afresh t d (length s) (length rs) b

  abbrev c : StoreOut (Unit {0})
  c = clearing n t d

  -- memory that has not a store's lengths is not cleared, and not read into
  fresh-is : then (held c.count c.table c.bytes) (λ z. read true (length s) (length rs) (capacity c.table) z b) ≡ fresh
  unfolding clearing afresh
  fresh-is = go (sized t d) refl
    where
      go : (x : Bool) → sized t d ≡ x → let k = clear_out n t d (check x (refusal STORE 0)) in
          then (held k.count k.table k.bytes) (λ z. read true (length s) (length rs) (capacity k.table) z b)
          ≡ then (check x (refusal STORE 0)) (λ _. read true (length s) (length rs) (capacity t) [] b)
      go true e = rw (clear-held (capacity t) (sized-is t d e).few, clear-capacity (capacity t))
      go false e = rw (unsized_held n t d e)

  fresh-reading : reading true c.count c.table c.bytes s rs b ≡ read_out c.count c.table c.bytes s rs fresh
  unfolding reading
  fresh-reading = rw fresh-is

  -- the table of a store that is read into is as long as it was
  fresh_ok : (g : Got) → fresh ≡ Ok g → (capacity c.table ≡ capacity t) × (capacity t ≤ 4096) × (read true (length s) (length rs) (capacity t) [] b ≡ Ok g)
  unfolding clearing afresh
  fresh_ok g e = go (sized t d) refl e
    where
      go : (x : Bool) → sized t d ≡ x → then (check x (refusal STORE 0)) (λ _. read true (length s) (length rs) (capacity t) [] b) ≡ Ok g
          → (capacity (clear_out n t d (check x (refusal STORE 0))).table ≡ capacity t) × (capacity t ≤ 4096) × (read true (length s) (length rs) (capacity t) [] b ≡ Ok g)
      go true q e = (clear-capacity (capacity t), (sized-is t d q).few, e)
      go false q e = let z : ◌≡◌ {A = ℕ} 0 1 = cc in absurd (omega arith)

  module _ (S : Small b) (a : Res (Unit {0})) (n₁ : ℕ) (t₁ d₁ : List ℕ) (C : Clears n t d a n₁ t₁ d₁) (r : Res Counts) (n' : ℕ) (t' d' s' rs' : List ℕ)
      (R : Reads true n₁ t₁ d₁ s rs b r n' t' d' s' rs') where
    R₁ : Reads true c.count c.table c.bytes s rs b r n' t' d' s' rs'
    R₁ = rw (C.count, C.table, C.bytes) at R

    abbrev out : Res Got → ReadOut
    out x = read_out c.count c.table c.bytes s rs x

    -- a read that is refused
    pub record Left-it (q : Refusal) : Type 0 where
      pub lines : read_lines fresh ≡ refused_line q
      pub clean : s' ≡ zeroed s

    refused-by : (x : Res Got) → fresh ≡ x → (q : Refusal) → Err q ≡ (out x).answer → s' ≡ (out x).scratch → Left-it q
    refused-by (Err p) x q e es = let z : q ≡ p = cc in record { lines = rw (x, z); clean = es }
    refused-by (Ok g) x q e es = let z : ◌≡◌ {A = ℕ} 0 1 = cc in absurd (omega arith)

    pub read-refused : (q : Refusal) → r ≡ Err q → Left-it q
    read-refused q e =
        refused-by fresh refl q (sym (ap (mapped totals_of) e) ∙ R₁.answer ∙ ap (λ (o : ReadOut). o.answer) fresh-reading)
        (R₁.scratch ∙ ap (λ (o : ReadOut). o.scratch) fresh-reading)

    -- a bag that is read
    pub record Got-it (k : Counts) : Type 0 where
      pub roots : Roots n' t' d' rs' k.roots s'
      pub lines : read_lines fresh ≡ ok_line k.used k.cells k.roots ++ lines_of n' t' d' rs' k.roots
      pub clean : s' ≡ zeroed s

    module _ (g : Got) (x : fresh ≡ Ok g) (k : Counts) (e : totals_of k ≡ g.counts) (en : n' ≡ length g.store) (et : t' ≡ lay_table (capacity c.table) g.store)
        (ed : d' ≡ lay_bytes (capacity c.table) g.store) (es : s' ≡ zeroed s) (er : rs' ≡ g.names ++ drop (length g.names) rs) where
      F : Fresh (length s) g
      F = fresh-got (length s) (length rs) (capacity t) b g S (fresh_ok g x).2

      k_is : k.roots ≡ length g.names
      k_is = ap (λ (y : Totals). y.roots) e ∙ F.roots

      cells_are : cells_of n' t' d' ≡ g.store
      cells_are = rw (en, et, ed) (cells-back (capacity c.table) g.store F.wf)

      roots-are : take k.roots rs' ≡ g.names
      roots-are = rw (k_is, er) (take_at g.names (drop (length g.names) rs) (length g.names) refl)

      root-held : (i : ℕ) → i < k.roots → get_or rs' i 0 < n'
      root-held i h =
          let h' : i < length g.names = omega (arith, k_is) in
          rw (er, en, get_or-append g.names (drop (length g.names) rs) 0 i h') (F.below i h')

      is-sound : sound n' t' d' ≡ true
      is-sound =
          let A = read-inv true (length s) (length rs) (capacity t) [] b g S (fresh_ok g x).2 in
          let q = fresh_ok g x in
          rw (en, et, ed) (sound-lay (capacity c.table) g.store F.wf (omega (arith, q.0, A.free)) (omega (arith, q.0, q.1)))

      long : length s' ≡ length s
      long = ap length es ∙ length-replicate (length s) 0

      got : Got-it k
      got = record {
        roots = record {
          whole = is-sound;
          few = omega (arith, k_is, F.few);
          there = omega (arith, k_is, ap length er, length-append g.names (drop (length g.names) rs));
          held = root-held;
          room = omega (arith, en, long, F.room);
          clean = es ∙ ap (λ (m : ℕ). replicate m 0) (sym long);
        };
        lines = rw (cells_are, roots-are, x, ← e) (ok-then k.used k.cells k.roots (root_lines g.store g.names));
        clean = es;
      }

    done-by : (x : Res Got) → fresh ≡ x → (k : Counts) → Ok (totals_of k) ≡ (out x).answer → n' ≡ (out x).count → t' ≡ (out x).table → d' ≡ (out x).bytes
        → s' ≡ (out x).scratch → rs' ≡ (out x).roots → Got-it k
    done-by (Err q) x k e en et ed es er = let z : ◌≡◌ {A = ℕ} 0 1 = cc in absurd (omega arith)
    done-by (Ok g) x k e en et ed es er = let q : totals_of k ≡ g.counts = cc in got g x k q en et ed es er

    pub read_done : (k : Counts) → r ≡ Ok k → Got-it k
    read_done k e =
        let q = fresh-reading in
        done-by fresh refl k (sym (ap (mapped totals_of) e) ∙ R₁.answer ∙ ap (λ (o : ReadOut). o.answer) q) (R₁.count ∙ ap (λ (o : ReadOut). o.count) q)
        (R₁.table ∙ ap (λ (o : ReadOut). o.table) q) (R₁.bytes ∙ ap (λ (o : ReadOut). o.bytes) q) (R₁.scratch ∙ ap (λ (o : ReadOut). o.scratch) q)
        (R₁.roots ∙ ap (λ (o : ReadOut). o.roots) q)

    -- the report of either
    pub reported : length b ≤ max_input → (text : List ℕ) → read_lines fresh ≡ text → (o : List ℕ) (len : ℕ) (o' s'' : List ℕ) → Tells text o len o' → s'' ≡ zeroed s
        → Reports n t d s rs o b len n' t' d' s'' rs' o'
    unfolding reporting
    reported h text e o len o' s'' T es =
        let q = le-leb (length b) max_input h in
        record {
          len = rw (q, e) T.len;
          count = rw q R₁.count;
          table = rw q R₁.table;
          bytes = rw q R₁.bytes;
          scratch = rw q es;
          roots = rw q R₁.roots;
          out = rw (q, e) T.out;
        }

  -- the report of a reply that is too long
  pub reported-long : max_input < length b → (o : List ℕ) (len : ℕ) (o' s' : List ℕ) → Tells too_long o len o' → s' ≡ zeroed s → Reports n t d s rs o b len n t d s' rs o'
  unfolding reporting
  reported-long h o len o' s' T es =
      let q = lt-leb (length b) max_input h in
      record { len = rw q T.len; count = rw q; table = rw q; bytes = rw q; scratch = rw q es; roots = rw q; out = rw q T.out }
