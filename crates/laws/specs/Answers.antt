-- Answers that a call hands over. Assumes nothing.
use Rattle.std.specs.Prelude.{◌≡◌, Ok, Err, IsErrAnd}
use Rattle.scheme.specs.Res.{Res, mapped}
use Rattle.scheme.specs.declared.Refusal.{Refusal}

-- words that tell two values apart tell two answers apart
pub mapped-apart : {A B : Type 0} (f : A → B) → ((a b : A) → f a ≡ f b → a ≡ b) → (x y : Res A) → mapped f x ≡ mapped f y → x ≡ y
mapped-apart f apart (Err r) (Err s) e = cc
mapped-apart f apart (Err r) (Ok b) e = cc
mapped-apart f apart (Ok a) (Err s) e = cc
mapped-apart {A} {B} f apart (Ok a) (Ok b) e = let p : f a ≡ f b = cc in let q = apart a b p in cc

-- the exit of a `?`: the refusal is handed on
pub handed-on : {A : Type 0} {r : Refusal} (x : Res A) → IsErrAnd x (λ s. s ≡ r) → x ≡ Err r
handed-on (Err s) e = let p : s ≡ _ = e in cc
handed-on {A = A} {r = r} (Ok a) e = elim e [ ]
