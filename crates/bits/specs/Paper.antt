-- Two answers that meet the contract of a public function are equal. Assumes nothing.
use Rattle.std.specs.Prelude.{◌≡◌, ℕ, List}
use Rattle.scheme.specs.Res.{Res}
use Rattle.laws.specs.OneAnswer.{one-content}
use Rattle.bits.specs.Field.{field_at, byte_at, skip_at, skip_fields_at}

pub read-field-unique : (b : List ℕ) (p n : ℕ) (r s : Res (ℕ × ℕ)) → r ≡ field_at b p n → s ≡ field_at b p n → r ≡ s
read-field-unique b p n r s e f = one-content e f

pub read-byte-unique : (b : List ℕ) (p : ℕ) (r s : Res (ℕ × ℕ)) → r ≡ byte_at b p → s ≡ byte_at b p → r ≡ s
read-byte-unique b p r s e f = one-content e f

pub skip-bytes-unique : (b : List ℕ) (p n : ℕ) (r s : Res ℕ) → r ≡ skip_at b p n → s ≡ skip_at b p n → r ≡ s
skip-bytes-unique b p n r s e f = one-content e f

pub skip-fields-unique : (b : List ℕ) (k n p : ℕ) (r s : Res ℕ) → r ≡ skip_fields_at b k n p → s ≡ skip_fields_at b k n p → r ≡ s
skip-fields-unique b k n p r s e f = one-content e f
