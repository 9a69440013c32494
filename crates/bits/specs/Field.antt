-- Fields of the bytes b at a place p, with the place behind them.
use Rattle.std.specs.Prelude.{ℕ, zero, suc, ◌+◌, ◌-◌, ◌*◌, List, [], ◌∷◌, length, take, drop, Ok}
use Rattle.scheme.specs.Res.{Res, then}
use Rattle.scheme.specs.Bytes.{unbe, chunk, field, fields}

abbrev pub last_eight : List ℕ → List ℕ
last_eight xs = drop (length xs - 8) xs

-- the number of n bytes; of more than eight bytes that of the last eight
unfoldable pub field_at : List ℕ → ℕ → ℕ → Res (ℕ × ℕ)
field_at b p n = then (chunk b p n) λ xs. Ok (unbe 0 (last_eight xs), p + n)

unfoldable pub byte_at : List ℕ → ℕ → Res (ℕ × ℕ)
byte_at b p = then (field b p 1) λ x. Ok (x, p + 1)

-- the place behind n bytes, and behind n fields of k bytes
unfoldable pub skip_at : List ℕ → ℕ → ℕ → Res ℕ
skip_at b p n = then (chunk b p n) λ xs. Ok (p + n)

unfoldable pub skip_fields_at : List ℕ → ℕ → ℕ → ℕ → Res ℕ
skip_fields_at b k n p = then (fields b k n p) λ xs. Ok (p + n * k)

-- the number of the k bytes at place p, and the n numbers from p on, where they are whole
abbrev pub number_at : List ℕ → ℕ → ℕ → ℕ
number_at b k p = unbe 0 (take k (drop p b))

abbrev pub numbers_at : List ℕ → ℕ → ℕ → ℕ → List ℕ
numbers_at b k zero p = []
numbers_at b k (suc n) p = number_at b k p ∷ numbers_at b k n (p + k)
