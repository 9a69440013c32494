-- Steps that hand a refusal on. Assumes nothing.
use Rattle.std.specs.Prelude.{◌≡◌, refl, Ok, Err}
use Rattle.scheme.specs.Res.{Res, then}

-- what follows a step may be changed where the step gave a value
pub then_same : {A B : Type 0} (x : Res A) {f g : A → Res B} → ((a : A) → x ≡ Ok a → f a ≡ g a) → then x f ≡ then x g
then_same (Err r) h = refl
then_same (Ok a) h = h a refl

-- two steps in a row
pub then-then : {A B C : Type 0} (x : Res A) (f : A → Res B) (g : B → Res C) → then (then x f) g ≡ then x (λ a. then (f a) g)
then-then (Err r) f g = refl
then-then (Ok a) f g = refl

-- a step that two readings begin with, each with its own steps behind it
pub then-first : {A B C D E : Type 0} (x : Res A) (h : A → Res B) (t : B → Res E) (f : A → Res C) (p : C → Res D) (y : D → Res E)
    → ((a : A) → x ≡ Ok a → then (h a) t ≡ then (then (f a) p) y) → then (then x h) t ≡ then (then (then x f) p) y
then-first (Err r) h t f p y k = refl
then-first (Ok a) h t f p y k = k a refl
