-- The cell that is looked for, and the first test of a record against it.
use Rattle.std.specs.Prelude.{ℕ, ◌+◌, ◌*◌, ◌<◌, ◌≤◌, Bool, ◌&&◌, List, length, get_or, take, eqb}
use Rattle.scheme.specs.Bits.{bytes_for}
use Rattle.scheme.specs.Cells.{Cell}

-- the cell of these fields, whose bytes stand at the front of w
abbrev pub cell_of : ℕ → ℕ → List ℕ → List ℕ → Cell
cell_of flag bits w rs = record { exotic = flag; len = bits; bytes = take (bytes_for bits) w; refs = rs }

-- record i of the table t has this flag, this many bits and this many references
unfoldable pub same_head : List ℕ → ℕ → ℕ → ℕ → ℕ → Bool
same_head t i flag bits n = eqb (get_or t (i * 7) 0) flag && (eqb (get_or t (i * 7 + 1) 0) bits && eqb (get_or t (i * 7 + 2) 0) n)

-- n records fit, and each has at most 1023 bits and 4 references
pub record Fields (n : ℕ) (t d : List ℕ) : Type 0 where
  pub few : n ≤ 4096
  pub table : n * 7 ≤ length t
  pub bytes : n * 128 ≤ length d
  pub bits : (k : ℕ) → k < n → get_or t (k * 7 + 1) 0 ≤ 1023
  pub refs : (k : ℕ) → k < n → get_or t (k * 7 + 2) 0 ≤ 4
