-- What every store keeps to, whatever calls follow one another: the theorems over specs/Kept.
-- Assumes nothing.
use Rattle.std.specs.Prelude.{◌≡◌, refl, ◌⊎◌, ℕ, suc, ◌-◌, ◌<◌, length, get_or, Ok, Err}
use Rattle.std.proofs.Common.{inl, inr}
use mathlib.Core.List.Memᴰ.{head as here}
use mathlib.Core.List.Memᴰ.{tail as there}
use mathlib.Core.List.{List, [], ◌∷◌, ◌++◌, map, Memᴰ as Mem}
use Rattle.std.proofs.lemmas.List.{length-map}
use Rattle.scheme.specs.Cells.{Cell, at, find, insert}
use Rattle.laws.specs.Unique.{find_cases, insert-old, insert-new, place-cases, at_old, at_new}
use Rattle.laws.proofs.Unique.{sound-insert}
use Rattle.scheme.specs.Bag.{link, load, read, Got}
use Rattle.laws.proofs.Meaning.{sound-load}
use Rattle.scheme.specs.Res.{Res}
use Rattle.laws.specs.CellRound.{Fit}
use Rattle.laws.specs.Accept.{Accepted}
use Rattle.laws.proofs.Accept.{read-inv}
use Rattle.laws.specs.Add.{Taken}
use Rattle.laws.proofs.Add.{add-inv}
use Rattle.scheme.specs.Add.{Added, add}
use Rattle.laws.specs.Kept.{AllFit, fit-with, Kept, Op, clears, adds, reads, TypedOp, added_store, got_store, kept-nil, after}

fit-insert : (s : List Cell) (c : Cell) → AllFit s → Fit c → AllFit (insert s c)
fit-insert s c F G = go (find_cases s c)
  where
    last : (x : ℕ) → (x < length s) ⊎ (x ≡ length s) → Fit (at (s ++ c ∷ []) x)
    last x (inl h) = rw (at_old s c x h) (F x h)
    last x (inr e) = rw (e, at_new s c) G

    go : (find s c < length s) ⊎ (find s c ≡ length s) → AllFit (insert s c)
    go (inl h) = rw (insert-old s c h) F
    go (inr e) = rw (insert-new s c e) (λ x h. last x (place-cases s c x h))

fit-load : (s : List Cell) (i : ℕ) (bag : List Cell) → AllFit s → ((c : Cell) → Mem c bag → Fit c) → AllFit (load s i bag).store
fit-load s i [] F G = F
fit-load s i (b ∷ bs) F G =
    let l = load s (suc i) bs in
    fit-insert l.store (link i b l.nums) (fit-load s (suc i) bs F (λ c m. G c (there m))) (fit-with b (map (λ (r : ℕ). get_or l.nums (r - suc i) 0) b.refs) (length-map b.refs (λ (r : ℕ). get_or l.nums (r - suc i) 0)) (G b (here refl)))

module _ (cap : ℕ) where
  kept-add : (s : List Cell) (a : Added) → Kept cap s → Taken cap s a → Kept cap a.store
  kept-add s a K T = rw T.store_is (record { sound = sound-insert s T.cell K.sound T.below; fit = fit-insert s T.cell K.fit T.fit; room = T.free })

  kept_read : (s : List Cell) (g : Got) → Kept cap s → Accepted cap s g → Kept cap g.store
  kept_read s g K T = record { sound = rw T.store_is (sound-load s K.sound 0 T.bag.cells T.whole.linked); fit = rw T.store_is (fit-load s 0 T.bag.cells K.fit T.whole.fit); room = T.free }

  pub kept-after : (s : List Cell) (op : Op) → Kept cap s → TypedOp op → Kept cap (after cap s op)
  kept-after s clears K t = kept-nil cap
  kept-after s (adds b) K t = go (add cap s b) refl
    where
      go : (r : Res Added) → add cap s b ≡ r → Kept cap (added_store s r)
      go (Err r) e = K
      go (Ok a) e = kept-add s a K (add-inv cap s b a t e)
  kept-after s (reads whole scratch room b) K t = go (read whole scratch room cap s b) refl
    where
      go : (r : Res Got) → read whole scratch room cap s b ≡ r → Kept cap (got_store s r)
      go (Err r) e = K
      go (Ok g) e = kept_read s g K (read-inv whole scratch room cap s b g t e)
