-- The parts that a text is printed in, of the cells in memory, and its length by number: tied to the definitions by the laws of proofs/.
use Rattle.std.specs.Prelude.{ℕ, zero, suc, ◌+◌, ◌*◌, List, map, length, take, drop, get_or}
use Rattle.scheme.specs.Bits.{bytes_for}
use Rattle.scheme.specs.Cells.{Cell}
use Rattle.scheme.specs.Memory.{cell_at}
use Rattle.scheme.specs.Fold.{value}
use Rattle.scheme.specs.Text.{own, joined, text_of, tree_size, sum}
use Rattle.laws.specs.Records.{refs_at}

-- a text's length by number: what stands around k texts, and the lengths
unfoldable pub around : ℕ → ℕ
around zero = 0
around (suc k) = 6 + 2 * k

abbrev pub length_step : Cell → List ℕ → ℕ
length_step c vs = length (own c.len c.bytes) + around (length vs) + sum vs

abbrev pub text_length : (ℕ → Cell) → ℕ → ℕ
text_length cs n = value length_step 0 cs n

-- the data bytes of a record of len bits that is record n of d
unfoldable pub bytes_at : List ℕ → ℕ → ℕ → List ℕ
bytes_at d n len = take (bytes_for len) (drop (n * 128) d)

-- of the cells in memory: cell n's own part; the texts and the sizes of its references from the j-th on
abbrev pub own_at : List ℕ → List ℕ → ℕ → List ℕ
own_at t d n = own (get_or t (n * 7 + 1) 0) (bytes_at d n (get_or t (n * 7 + 1) 0))

abbrev pub text_at : List ℕ → List ℕ → ℕ → List ℕ
text_at t d n = text_of (cell_at t d) n

abbrev pub size_at : List ℕ → List ℕ → ℕ → ℕ
size_at t d n = tree_size (cell_at t d) n

abbrev pub refs_text : List ℕ → List ℕ → ℕ → ℕ → List ℕ
refs_text t d n j = joined (map (text_at t d) (drop j (refs_at t n)))

abbrev pub refs_size : List ℕ → List ℕ → ℕ → ℕ → ℕ
refs_size t d n j = sum (map (size_at t d) (drop j (refs_at t n)))
