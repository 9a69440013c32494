-- The first line of a bag that is read and its roots' lines; and a store with roots in it.
use Rattle.std.specs.Prelude.{◌≡◌, true, ℕ, ◌≤◌, ◌<◌, List, [], ◌∷◌, length, take, get_or}
use Rattle.scheme.specs.Memory.{sound, cells_of}
use Rattle.scheme.specs.Calls.{zeroed}
use Rattle.scheme.specs.Text.{page}
use Rattle.scheme.specs.Program.{spaced, page_line, root_lines}

-- `ok` used cells roots
abbrev pub ok_line : ℕ → ℕ → ℕ → List ℕ
ok_line used cells roots = 111 ∷ 107 ∷ spaced used (spaced cells (spaced roots (10 ∷ [])))

-- of the n cells in t and d: the line of cell i, and those of the first k roots
abbrev pub line_of : ℕ → List ℕ → List ℕ → ℕ → List ℕ
line_of n t d i = page_line (page (cells_of n t d) i 1000 8192)

abbrev pub lines_of : ℕ → List ℕ → List ℕ → List ℕ → ℕ → List ℕ
lines_of n t d roots k = root_lines (cells_of n t d) (take k roots)

-- a sound store of n cells, k roots, no more than a bag has, that name cells of it, and scratch for its texts
pub record Roots (n : ℕ) (t d roots : List ℕ) (k : ℕ) (s : List ℕ) : Type 0 where
  pub whole : sound n t d ≡ true
  pub few : k ≤ 4096
  pub there : k ≤ length roots
  pub held : (i : ℕ) → i < k → get_or roots i 0 < n
  pub room : n ≤ length s
  pub clean : s ≡ zeroed s
