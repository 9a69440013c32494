use Prim.Native.Nat.{ℕ, suc, ◌<◌, ◌+◌}
use mathlib.Core.Path.{◌≡◌}
use mathlib.Core.List.{List, ◌∷◌}
use native.Mathlib.Omega.{arith}
use native.Mathlib.Numerals.{add-one}
use lib.ListN.{length, drop, get_or, set}
use lib.Seq.{drop-cons, drop-length}
use Rattle.laws.specs.Puts.{puts}
use Rattle.memory.proofs.put.Goals as goal

-- a turn: the first element of what is left is written where what is left goes
turn : {A : Type 0} (src out X : List A) (to i : ℕ) (x : A) → i < length src → x ≡ get_or src i x → puts out to (drop i src) ≡ X
    → puts (set out to x) (to + 1) (drop (i + 1) src) ≡ X
unfolding puts
turn src out X to i x h e p =
    let q : puts out to (get_or src i x ∷ drop (suc i) src) ≡ X = rw (drop-cons src i x h) at p in
    rw (add-one i, e) q

-- nothing is left
end : {A : Type 0} (src out X : List A) (to i : ℕ) → i ≡ length src → puts out to (drop i src) ≡ X → out ≡ X
unfolding puts
end src out X to i e p = rw (e, drop-length src) at p

pub loop-x-preserved : goal.loop-x-preserved
loop-x-preserved g c =
    let l = c.loop-x in
    (omega arith, turn c.args.src.now l.out _ l.to l.x-index c.x-item.result (omega arith) c.x-item.is l.invariant.1)

pub returns : goal.returns
returns g c =
    let l = c.loop-x in
    (omega arith, end c.args.src.now l.out _ l.to l.x-index (omega arith) l.invariant.1)
