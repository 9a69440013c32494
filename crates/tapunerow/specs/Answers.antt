-- An answer as C takes it: a number, and the entries of a lent slice of numbers.
use Rattle.std.specs.Prelude.{ℕ, List, [], ◌∷◌, replicate, Ok, Err}
use Rattle.scheme.specs.Refusals.{reason_number}
use Rattle.scheme.specs.Res.{Res}
use Rattle.scheme.specs.Cells.{Cell}
use Rattle.scheme.specs.Memory.{row_of}
use Rattle.scheme.specs.Bag.{Counts}
use Rattle.scheme.specs.Calls.{Printed}

-- 0 where the call is accepted, else the number of the refusal
abbrev pub number_of : {A : Type 0} → Res A → ℕ
number_of (Err r) = reason_number r.reason
number_of (Ok a) = 0

-- the entries: the values, or the place of the refusal and 0 in the k others
abbrev pub entries_of : {A : Type 0} → ℕ → (A → List ℕ) → Res A → List ℕ
entries_of k values (Err r) = r.place ∷ replicate k 0
entries_of k values (Ok a) = values a

-- the values of each call
abbrev pub nothing : Unit {0} → List ℕ
nothing u = 0 ∷ []

abbrev pub single : ℕ → List ℕ
single n = n ∷ []

-- flag, bits, number of references, the four references
abbrev pub fields : Cell → List ℕ
fields c = row_of [] c

abbrev pub counts : Counts → List ℕ
counts c = c.used ∷ c.cells ∷ c.roots ∷ c.added ∷ []

abbrev pub lengths : Printed → List ℕ
lengths p = p.written ∷ p.cells ∷ []
