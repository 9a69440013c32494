-- Demand 2 (docs/DEMANDS.md), the meaning: an accepted read means what the bag says. The words are in specs/Meaning.
-- Assumes nothing.
use Rattle.std.specs.Prelude.{◌≡◌, refl, ℕ, ◌-◌, ◌<◌, Bool, List, map, length, get_or, drop, leb, Ok}
use Rattle.std.proofs.Common.{sym, ap, ◌∙◌, subst, arith, length-append, drop_at}
use Rattle.std.proofs.lemmas.List.{length-map}
use Rattle.std.proofs.Math.ListN.{get_or-append}
use Rattle.scheme.specs.Refusals.{FULL}
use Rattle.scheme.specs.Res.{check, refusal}
use Rattle.scheme.specs.Cells.{Cell, tree}
use Rattle.scheme.specs.Bag.{Bag, bag, Got, Counts, read, load}
use Rattle.scheme.specs.Memory.{capacity, cells_of, held, lay_table, lay_bytes}
use Rattle.scheme.specs.Calls.{read_out, reading, onto}
use Rattle.laws.specs.Accept.{then_use, Small}
use Rattle.laws.proofs.Accept.{bag-inv, read-inv}
use Rattle.laws.specs.Unique.{Low}
use Rattle.laws.specs.Lists.{get_or-map, mem-at}
use Rattle.laws.proofs.Meaning.{placed, same-tree, tree-append}
use Rattle.laws.specs.Records.{cells-length}
use Rattle.theorems.proofs.Cut.{used-fields}
use Rattle.theorems.specs.MeaningLaws.{memory-low, held-load, call-taken}
use Rattle.theorems.specs.Meaning.{Means, CallMeans}

-- Demand 2: an accepted read is of a bag, and means what the bag says, in every store whose references go to lower numbers.
pub read-means : (whole : Bool) (scratch room cap : ℕ) (s : List Cell) (b : List ℕ) (g : Got) → Low s → Small b → read whole scratch room cap s b ≡ Ok g
    → (a : Bag) × (bag whole scratch room b ≡ Ok a) × Means s b a g
unfolding read
read-means whole scratch room cap s b g S B e =
    then_use (bag whole scratch room b) _ _ e λ a x₁ e₁.
    then_use (check (leb (length (load s 0 a.cells).store) cap) (refusal FULL 0)) _ _ e₁ λ u₂ x₂ e₂.
    let l = load s 0 a.cells in
    let q : record {
      counts = record { used = a.used; cells = length a.cells; roots = length a.roots; added = length l.store - length s };
      names = map (λ (r : ℕ). get_or l.nums r 0) a.roots;
      store = l.store;
    } ≡ g = cc in
    (a, x₁, rw (← q) (go a x₁))
  where
    go : (a : Bag) → bag whole scratch room b ≡ Ok a → Means s b a (record {
      counts = record { used = a.used; cells = length a.cells; roots = length a.roots; added = length (load s 0 a.cells).store - length s };
      names = map (λ (r : ℕ). get_or (load s 0 a.cells).nums r 0) a.roots;
      store = (load s 0 a.cells).store;
    })
    go a x =
        let l = load s 0 a.cells in
        let I = bag-inv whole scratch room b a B x in
        let P = placed s S 0 a.cells I.linked in
        let name : (i : ℕ) → i < length a.roots → get_or (map (λ (r : ℕ). get_or l.nums r 0) a.roots) i 0 ≡ get_or l.nums (get_or a.roots i 0) 0 =
        λ i h. get_or-map (λ (r : ℕ). get_or l.nums r 0) a.roots i h in
        let inside : (i : ℕ) → i < length a.roots → get_or a.roots i 0 < length a.cells = λ i h. I.inside (get_or a.roots i 0) (mem-at a.roots i h) in
        record {
          new = P.extends.more-cells;
          appends = P.extends.is;
          keeps = λ i h. rw P.extends.is (tree-append s P.extends.more-cells S i h);
          names = length-map a.roots (λ (r : ℕ). get_or l.nums r 0);
          held = λ i h. rw (name i h) (P.held (get_or a.roots i 0) (inside i h));
          root = λ i h. rw (name i h) (same-tree s a.cells l I.linked P (get_or a.roots i 0) (inside i h));
          cell = λ i h. (get_or l.nums i 0, P.held i h, same-tree s a.cells l I.linked P i h);
          only = λ n h j. let r = P.only n h j in (r.0, r.1, ap (tree l.store) r.2 ∙ same-tree s a.cells l I.linked P r.0 r.1);
          used = used-fields whole scratch room b a x;
          cells = refl;
          roots = refl;
          added = refl;
        }

-- the outcome of an accepted call, from what the read in it means
call-means : (n : ℕ) (t d scratch roots b : List ℕ) (a : Bag) (g : Got) → held n t d ≡ Ok (cells_of n t d) → Means (cells_of n t d) b a g
    → held (length g.store) (lay_table (capacity t) g.store) (lay_bytes (capacity t) g.store) ≡ Ok g.store
    → CallMeans n t d roots b a g.counts (read_out n t d scratch roots (Ok g))
call-means n t d scratch roots b a g x M H =
    let s = cells_of n t d in
    let p = M.appends in
    let k : length s ≡ n = cells-length n t d in
    let name : (i : ℕ) → i < g.counts.roots → get_or (onto g.names roots) i 0 ≡ get_or g.names i 0 =
    λ i h. get_or-append g.names (drop (length g.names) roots) 0 i (omega (arith, M.names, M.roots)) in
    record {
      new = M.new;
      before = x;
      after = H ∙ ap Ok p;
      keeps = λ i h. rw p at (M.keeps i (omega arith));
      names = λ i h. rw (name i h) (M.held i (omega (arith, M.roots)));
      root = λ i h. rw (name i h) (rw p at (M.root i (omega (arith, M.roots))));
      behind = rw (M.roots, ← M.names) (drop_at g.names (drop (length g.names) roots) (length g.names) refl);
      cell = λ i h. let r = M.cell i (omega (arith, M.cells)) in (r.0, r.1, rw p at r.2);
      only = λ j h l. let r = M.only j (omega arith) l in (r.0, omega (arith, r.1, M.cells), ap (λ (u : List Cell). tree u j) (sym p) ∙ r.2);
      used = M.used;
      bag-cells = M.cells;
      bag-roots = M.roots;
      added = omega (arith, M.added, ap length p, length-append s M.new);
    }

-- Demand 2, of the calls with all memory: an accepted deserialize or unpack_fully means what the bag says.
pub reading-means : (whole : Bool) (n : ℕ) (t d scratch roots b : List ℕ) (c : Counts) → Small b → (reading whole n t d scratch roots b).answer ≡ Ok c
    → (a : Bag) × (bag whole (length scratch) (length roots) b ≡ Ok a) × CallMeans n t d roots b a c (reading whole n t d scratch roots b)
unfolding held
reading-means whole n t d scratch roots b c B e =
    let A = call-taken whole n t d scratch roots b c e in
    let g = A.0 in
    let T = A.1 in
    let S = memory-low n t d T.sound-store in
    let M = read-means whole (length scratch) (length roots) (capacity t) (cells_of n t d) b g S B T.reads in
    let I = read-inv whole (length scratch) (length roots) (capacity t) (cells_of n t d) b g B T.reads in
    let H = held-load n t d I.bag.cells T.sound-store I.whole.linked I.whole.fit (rw I.store_is at I.free) g.store I.store_is in
    let x : held n t d ≡ Ok (cells_of n t d) = rw T.sound-store in
    let R = call-means n t d scratch roots b M.0 g x M.2 H in
    (M.0, M.1, rw T.out (subst (λ (k : Counts). CallMeans n t d roots b M.0 k (read_out n t d scratch roots (Ok g))) T.counts R))
