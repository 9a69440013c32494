-- Two answers that meet a function's contract are equal. Assumes nothing.
use Rattle.std.specs.Prelude.{◌≡◌, Bool, ℕ, List}
use Rattle.scheme.specs.Memory.{sized, sound}
use Rattle.laws.specs.Records.{unused_in}
use Rattle.laws.specs.OneAnswer.{one-content}

pub one-unused-in : (bits r s : ℕ) → r ≡ unused_in bits → s ≡ unused_in bits → r ≡ s
one-unused-in bits r s p q = one-content p q

pub one-is-sized : (t d : List ℕ) (r s : Bool) → r ≡ sized t d → s ≡ sized t d → r ≡ s
one-is-sized t d r s p q = one-content p q

pub one-is-sound : (n : ℕ) (t d : List ℕ) (r s : Bool) → r ≡ sound n t d → s ≡ sound n t d → r ≡ s
one-is-sound n t d r s p q = one-content p q
