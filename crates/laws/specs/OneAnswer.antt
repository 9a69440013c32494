-- One law for every contract: what says of an outcome that it equals a given one leaves one outcome. Assumes nothing.
use Rattle.std.specs.Prelude.{◌≡◌}
use Rattle.std.proofs.Common.{sym, ◌∙◌}

-- an answer, in words that tell two answers apart
pub one_answer : {A B : Type 0} (paper : A → B) → ((a b : A) → paper a ≡ paper b → a ≡ b) → (a b : A) {x : B} → paper a ≡ x → paper b ≡ x → a ≡ b
one_answer paper apart a b p q = apart a b (p ∙ sym q)

-- what a lent place holds
pub one-content : {A : Type 0} {a b x : A} → a ≡ x → b ≡ x → a ≡ b
one-content p q = p ∙ sym q

-- an answer, and what a lent place holds afterwards
pub one-pair : {A B : Type 0} {a b x : A} {c d y : B} → (a ≡ x) × (c ≡ y) → (b ≡ x) × (d ≡ y) → (a ≡ b) × (c ≡ d)
one-pair p q = (one-content p.0 q.0, one-content p.1 q.1)
