-- A cell as C hands it over: a flag, a number of bits, bytes and references.
use Rattle.std.specs.Prelude.{ℕ, ◌-◌, List, ◌++◌, not, length, take, replicate, eqb}
use Rattle.scheme.specs.Builder.{Builder}

-- the first m of xs, and x for each that xs lacks
unfoldable pub fit : {A : Type 0} → ℕ → A → List A → List A
fit m x xs = take m xs ++ replicate (m - length xs) x

-- any flag but 0 is exotic; the references count also where there are more than 4
unfoldable pub wire_cell : ℕ → ℕ → List ℕ → List ℕ → Builder
wire_cell flag bits own refs = record { exotic = not (eqb flag 0); len = bits; bytes = fit 128 0 own; count = length refs; refs = fit 4 0 refs }
