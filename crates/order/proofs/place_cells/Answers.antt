use Prim.Native.Nat.{ℕ, ◌≤◌, ◌<◌, ◌+◌, ◌*◌}
use mathlib.Core.Path.{◌≡◌, refl, sym, ◌∙◌}
use mathlib.Core.List.Memᴰ
use mathlib.Core.List.{List, Memᴰ as Mem}
use native.Mathlib.Omega.{arith}
use lib.ListN.{length, take, get_or}
use lib.Seq.{slice, length-slice, take_all, get_or-set_other}
use Rattle.laws.specs.Slices.{slice_get, mem-get}
use Rattle.order.proofs.Places.{place-turn}
use Rattle.order.proofs.place_cells.Invariants.{Kept}
use Rattle.order.proofs.place_cells.Goals as goal
use Rattle.order.proofs.place_cells.Goals.{After-entry-x}

module _ (s₀ s : List ℕ) (n m p x : ℕ) (h : p < m) (g : m ≤ n) (q : x ≡ get_or s (n + p) 0) (kept : Kept s₀ s n m) where
  -- the cell at place p is the listing's
  listed : x ≡ get_or (slice n (n + m) s₀) p 0
  listed = q ∙ kept (n + p) (λ y i e. omega arith) ∙ sym (slice_get n (n + m) p s₀ (omega arith))

  among : 3 * n ≤ length s₀ → Mem x (slice n (n + m) s₀)
  among l =
      let k : p < length (slice n (n + m) s₀) = rw (length-slice n (n + m) s₀ (omega arith)) (omega arith) in
      rw listed (mem-get (slice n (n + m) s₀) p k)

pub loop-p-init : goal.loop-p-init
loop-p-init c = (λ d h. refl, λ x m. absurd (Memᴰ.not-nil m))

here : (c : After-entry-x) → Mem c.entry-x.result (slice c.args.n (c.args.n + c.args.m) c.args.scratch.now)
here c =
    let a = c.args in
    let l = c.loop-p in
    among a.scratch.now l.scratch a.n a.m l.p c.entry-x.result (omega arith) (omega arith) c.entry-x.ensures l.invariant.0 (omega arith)

pub bounds-scratch-n : goal.bounds-scratch-n
bounds-scratch-n c = let b = c.requires.by_index _ (here (goal.at.bounds-scratch-n c).After-entry-x) in omega arith

pub loop-p-preserved : goal.loop-p-preserved
loop-p-preserved c =
    let a = c.args in
    let l = c.loop-p in
    let x = c.entry-x in
    let i = here (goal.at.loop-p-preserved c).After-entry-x in
    let b = c.requires.by_index x.result i in
    let q = listed a.scratch.now l.scratch a.n a.m l.p x.result (omega arith) (omega arith) c.entry-x.ensures l.invariant.0 in
    let out = slice a.n (a.n + a.m) a.scratch.now in
    let k : l.p < length out = omega (arith, length-slice a.n (a.n + a.m) a.scratch.now (omega arith)) in (
      λ d h. get_or-set_other l.scratch (2 * a.n + x.result) d l.p 0 (h x.result i) ∙ l.invariant.0 d h,
      place-turn out l.scratch a.n l.p x.result c.requires.nodup k q (omega arith) l.invariant.1,
    )

pub returns : goal.returns
returns c =
    let a = c.args in
    let l = c.loop-p in
    let out = slice a.n (a.n + a.m) a.scratch.now in
    let e : l.p ≡ a.m = omega arith in
    let w : take l.p out ≡ out = take_all l.p out (omega (arith, length-slice a.n (a.n + a.m) a.scratch.now (omega arith))) in
    record { kept = l.invariant.0; places = λ x k. l.invariant.1 x (rw w k) }
