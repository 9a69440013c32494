-- A pass by number over a scratch, for any step; and what it leaves where the step is a fold's, cut at a cap. Assumes nothing.
use Rattle.std.specs.Prelude.{◌≡◌, refl, List, [], ◌++◌, map, ℕ, zero, suc, ◌<◌, ◌≤◌, min, length, drop, set}
use Rattle.std.proofs.Common.{sym, ◌∙◌, add-one, arith}
use denote.Ref.{Bor}
use Rattle.scheme.specs.Cells.{Cell}
use Rattle.scheme.specs.Memory.{cell_at}
use Rattle.scheme.specs.Fold.{pick, below}
use Rattle.laws.specs.Records.{refs_at, Linked}
use Rattle.laws.specs.Passes.{Caps, pass-turn}

-- s' is the scratch s after n turns: turn i stores at i an answer r of the step to the scratch before it and i
abbrev pub Turns : (Bor (List ℕ) → ℕ → ℕ → Type 0) → ℕ → List ℕ → List ℕ → Type 0
Turns step zero s s' = s' ≡ s
Turns step (suc n) s s' = (v : Bor (List ℕ)) × Turns step n s v.now × ((r : ℕ) × step v n r × (s' ≡ set v.now n r))

-- where the step has one answer to a scratch and a number, the turns leave one scratch
pub one-turns : (step : Bor (List ℕ) → ℕ → ℕ → Type 0) → ((v w : Bor (List ℕ)) (i r q : ℕ) → v.now ≡ w.now → step v i r → step w i q → r ≡ q)
    → (n : ℕ) (s a b : List ℕ) → Turns step n s a → Turns step n s b → a ≡ b
one-turns step one zero s a b p q = p ∙ sym q
one-turns step one (suc n) s a b p q =
    let e = one-turns step one n s p.0.now q.0.now p.1 q.1 in
    let f = one p.0 q.0 n p.2.0 q.2.0 e p.2.1 q.2.1 in
    rw (p.2.2, q.2.2, e, f)

below-none : (f : Cell → List ℕ → ℕ) (cs : ℕ → Cell) → below f 0 cs 0 ≡ []
unfolding below
below-none f cs = refl

-- the scratch holds the values of the first n cells, each cut at the cap
pub turns-values : (f : Cell → List ℕ → ℕ) (cap : ℕ) → Caps cap f → (t d : List ℕ) (step : Bor (List ℕ) → ℕ → ℕ → Type 0)
    → (n : ℕ) (s s' : List ℕ) → Linked t n → n ≤ length s
    → ((v : Bor (List ℕ)) (i r : ℕ) → i < n → step v i r → r ≡ min cap (f (cell_at t d i) (pick 0 v.now (refs_at t i))))
    → Turns step n s s' → s' ≡ map (min cap) (below f 0 (cell_at t d) n) ++ drop n s
turns-values f cap caps t d step zero s s' l k h p = p ∙ rw (below-none f (cell_at t d))
turns-values f cap caps t d step (suc n) s s' l k h p =
    let e = turns-values f cap caps t d step n s p.0.now (λ i j. l i (omega arith)) (omega arith) (λ v i r j. h v i r (omega arith)) p.1 in
    p.2.2 ∙ rw (← add-one n) (pass-turn f cap caps t d n p.2.0 p.0.now s (l n (omega arith)) (omega arith) e (h p.0 n p.2.0 (omega arith) p.2.1))
