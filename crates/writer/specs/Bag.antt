-- The whole bag by the numbers of the table and the scratch. Assumes nothing: these are definitions.
use Rattle.std.specs.Prelude.{ℕ, ◌+◌, ◌*◌, Bool, cond, List, [], ◌++◌, take}
use Rattle.std.proofs.Math.Seq.{slice}
use Rattle.scheme.specs.Bits.{bit_of}
use Rattle.scheme.specs.Bytes.{le}
use Rattle.scheme.specs.Crc.{crc_of}
use Rattle.scheme.specs.Write.{all_bytes}
use Rattle.writer.specs.Bytes.{head_bytes, index_of, placed_cells, sizes}

-- the index, where it is asked for
unfoldable pub index_if : Bool → List ℕ → ℕ → ℕ → List ℕ → List ℕ
index_if has_idx t size off list = cond has_idx (index_of t size off 0 list) []

-- the bag without its checksum, of the m cells listed
unfoldable pub body_of : Bool → Bool → List ℕ → List ℕ → List ℕ → ℕ → ℕ → ℕ → ℕ → List ℕ
body_of has_idx has_crc t d s n m size off =
    head_bytes (128 * bit_of has_idx + 64 * bit_of has_crc + size) m size off (sizes t size (slice n (n + m) s))
    ++ (index_if has_idx t size off (slice n (n + m) s) ++ all_bytes size (placed_cells t d s n (slice n (n + m) s)))

-- the checksum of the first bytes of a list, where it is asked for
unfoldable pub checksum_of : Bool → List ℕ → ℕ → List ℕ
checksum_of has_crc bytes at = cond has_crc (le 4 (crc_of (take at bytes))) []

-- a body with its checksum, where it is asked for
unfoldable pub sealed_of : Bool → List ℕ → List ℕ
sealed_of has_crc body = body ++ cond has_crc (le 4 (crc_of body)) []

-- the length of the bag
unfoldable pub needed_of : Bool → Bool → ℕ → ℕ → ℕ → ℕ → ℕ
needed_of has_idx has_crc m size off total = 6 + 4 * size + off + cond has_idx (off * m) 0 + total + cond has_crc 4 0
