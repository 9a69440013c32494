-- The memory of a store before and after a read: references go to lower numbers, and what was loaded is held.
-- Assumes nothing.
use Rattle.std.specs.Prelude.{◌≡◌, refl, ◌≢◌, ℕ, zero, suc, ◌+◌, ◌-◌, ◌*◌, ◌/◌, ◌%◌, ◌^◌, ◌≤◌, ◌<◌, Bool, true, length, get_or, drop, Ok, Err}
use Rattle.std.proofs.Common.{◌∙◌, arith}
use mathlib.Core.List.Memᴰ.{head as here}
use mathlib.Core.List.Memᴰ.{tail as there}
use mathlib.Core.List.{List, [], ◌∷◌, map, Memᴰ as Mem}
use Rattle.std.proofs.lemmas.List.{length-map}
use Rattle.scheme.specs.Cells.{Cell, at}
use Rattle.scheme.specs.Bag.{link, load, Got, Counts, read}
use Rattle.scheme.specs.Calls.{read_out, reading}
use Rattle.scheme.specs.Refusals.{STORE}
use Rattle.scheme.specs.Bits.{bytes_for, last_of}
use Rattle.scheme.specs.Res.{Res, then, check, refusal}
use Rattle.scheme.specs.Memory.{cell_at, cells_of, sound, held, lay_table, lay_bytes, capacity}
use Rattle.laws.specs.Accept.{Small, then_use, check_inv, mem-take, mem-drop}
use Rattle.laws.specs.Kept.{fit-with}
use Rattle.laws.specs.Lists.{mem-at, mem-place}
use Rattle.laws.specs.Unique.{Below, Low}
use Rattle.laws.specs.Meaning.{Linked, link-below}
use Rattle.laws.proofs.Meaning.{placed}
use Rattle.laws.specs.CellRound.{Fit}
use Rattle.laws.specs.Wf.{WfCell, Wf}
use Rattle.laws.specs.Lay.{wf-cells, wf-insert, sound-lay}
use Rattle.laws.specs.RoundLaws.{cells-back}
use Rattle.laws.specs.Records.{sound-is, sound-cells, cells-length, cells_at_lem, cell-refs, refs_at, refs-get, refs-length}

-- the cells of sound memory refer to lower numbers
pub memory-low : (n : ℕ) (t d : List ℕ) → sound n t d ≡ true → Low (cells_of n t d)
memory-low n t d e i h =
    let g : i < n = rw (cells-length n t d) at h in
    let K = sound-cells n t d e i g in
    rw (cells_at_lem n t d i g, cell-refs t d i) (λ x m.
    let r = mem-place (refs_at t i) x m in
    let j : r.0 < get_or t (i * 7 + 2) 0 = rw (refs-length t i K.ok) at r.1 in
    rw (r.2, refs-get t i r.0 j) (K.ok.back r.0 j))

-- ---- the memory of the store that a read leaves

last-at : (l : List ℕ) (k : ℕ) → length l ≡ suc k → last_of l ≡ get_or l k 0
last-at [] k e = absurd (omega arith)
last-at (x ∷ []) zero e = refl
last-at (x ∷ []) (suc k) e = absurd (omega arith)
last-at (x ∷ y ∷ ys) zero e = absurd (omega arith)
last-at (x ∷ y ∷ ys) (suc k) e = last-at (y ∷ ys) k (omega arith)

clean-tail : (c : Cell) → Fit c → get_or c.bytes (c.len / 8) 0 % 2 ^ ((8 - c.len % 8) % 8) ≡ 0
clean-tail c F = go (c.len % 8) refl
  where
    go : (r : ℕ) → c.len % 8 ≡ r → get_or c.bytes (c.len / 8) 0 % 2 ^ ((8 - c.len % 8) % 8) ≡ 0
    go zero e = rw e (omega arith)
    go (suc r) e =
        let q : (8 - c.len % 8) % 8 ≡ 8 - c.len % 8 = omega (arith, e) in
        let n : length c.bytes ≡ suc (c.len / 8) = F.many ∙ omega (arith, e) in
        rw (q, ← last-at c.bytes (c.len / 8) n) (F.clean (λ z. omega (arith, z, e)))

-- a cell that sound memory holds may stand in a bag
wf-fit : (i : ℕ) (c : Cell) → WfCell i c → Small c.bytes → Fit c
wf-fit i c W S = record { flag = W.flag; few = W.bits; many = W.size; small = S; clean = clean; arity = W.count }
  where
    clean : (c.len % 8 ≡ 0 → ⊥) → last_of c.bytes % 2 ^ (8 - c.len % 8) ≡ 0
    clean z =
        let y : c.len % 8 ≢ 0 = z in
        let q : (8 - c.len % 8) % 8 ≡ 8 - c.len % 8 = omega arith in
        let n : length c.bytes ≡ suc (c.len / 8) = W.size ∙ omega arith in
        rw (last-at c.bytes (c.len / 8) n) (rw q at W.tail)

pub memory-fit : (n : ℕ) (t d : List ℕ) → sound n t d ≡ true → Small d → (x : ℕ) → x < length (cells_of n t d) → Fit (at (cells_of n t d) x)
unfolding cell_at
memory-fit n t d e S x h =
    let W = (wf-cells n t d (sound-is n t d e)).each x h in
    let g : x < n = rw (cells-length n t d) at h in
    let small : Small (at (cells_of n t d) x).bytes = rw (cells_at_lem n t d x g) (λ y m. S y (mem-drop (x * 128) d y (mem-take (bytes_for (get_or t (x * 7 + 1) 0)) (drop (x * 128) d) y m))) in
    wf-fit x (at (cells_of n t d) x) W small

-- a cell that a bag may hold, with references below i, may stand at number i of a store
pub fit-wf : (i : ℕ) (c : Cell) → Fit c → Below i c.refs → WfCell i c
fit-wf i c F B = record {
  flag = F.flag;
  bits = F.few;
  count = F.arity;
  below = λ k h. B (get_or c.refs k 0) (mem-at c.refs k h);
  size = F.many;
  tail = clean-tail c F;
}

wf-load : (s : List Cell) → Low s → Wf s → (i : ℕ) (bag : List Cell) → Linked i bag → ((c : Cell) → Mem c bag → Fit c) → Wf (load s i bag).store
wf-load s S W i [] L F = W
wf-load s S W i (b ∷ bs) L F =
    let l = load s (suc i) bs in
    let P = placed s S (suc i) bs L.1 in
    let f : ℕ → ℕ = λ r. get_or l.nums (r - suc i) 0 in
    let below = link-below i b bs L.0 l P.held in
    wf-insert l.store (link i b l.nums) (wf-load s S W (suc i) bs L.1 (λ c m. F c (there m)))
    (fit-wf (length l.store) (link i b l.nums) (fit-with b (map f b.refs) (length-map b.refs f) (F b (here refl))) below)

-- the memory of what was loaded into sound memory is sound, and holds it
pub held-load : (n : ℕ) (t d : List ℕ) (bag : List Cell) → sound n t d ≡ true → Linked 0 bag → ((c : Cell) → Mem c bag → Fit c)
    → length (load (cells_of n t d) 0 bag).store ≤ capacity t → (s : List Cell) → s ≡ (load (cells_of n t d) 0 bag).store
    → held (length s) (lay_table (capacity t) s) (lay_bytes (capacity t) s) ≡ Ok s
unfolding held
held-load n t d bag e L F h s q =
    let M = sound-is n t d e in
    let W : Wf s = rw q (wf-load (cells_of n t d) (memory-low n t d e) (wf-cells n t d M) 0 bag L F) in
    rw (sound-lay (capacity t) s W (rw q h) M.lengths.few, cells-back (capacity t) s W)

-- an accepted call: its store was sound, and the read of the cells in it was accepted
pub record Taken (whole : Bool) (n : ℕ) (t d scratch roots b : List ℕ) (c : Counts) (g : Got) : Type 0 where
  pub sound-store : sound n t d ≡ true
  pub reads : read whole (length scratch) (length roots) (capacity t) (cells_of n t d) b ≡ Ok g
  pub counts : g.counts ≡ c
  pub out : reading whole n t d scratch roots b ≡ read_out n t d scratch roots (Ok g)

pub call-taken : (whole : Bool) (n : ℕ) (t d scratch roots b : List ℕ) (c : Counts) → (reading whole n t d scratch roots b).answer ≡ Ok c → (g : Got) × Taken whole n t d scratch roots b c g
unfolding reading held
call-taken whole n t d scratch roots b c e = go (then (held n t d) λ s. read whole (length scratch) (length roots) (capacity t) s b) refl e
  where
    got : (g : Got) → then (held n t d) (λ s. read whole (length scratch) (length roots) (capacity t) s b) ≡ Ok g → g.counts ≡ c → Taken whole n t d scratch roots b c g
    got g x q =
        then_use (held n t d) _ _ x λ s x₁ e₁.
        then_use (check (sound n t d) (refusal STORE 0)) _ _ x₁ λ u x₂ e₂.
        let r : cells_of n t d ≡ s = cc in
        record { sound-store = check_inv (sound n t d) (refusal STORE 0) u x₂; reads = rw r e₁; counts = q; out = rw x }

    go : (r : Res Got) → then (held n t d) (λ s. read whole (length scratch) (length roots) (capacity t) s b) ≡ r → (read_out n t d scratch roots r).answer ≡ Ok c → (g : Got) × Taken whole n t d scratch roots b c g
    go (Ok g) x e = (g, got g x (cc))
    go (Err r) x e = let z : ◌≡◌ {A = ℕ} 0 1 = cc in absurd (omega arith)
