-- Two answers that meet the contract of `read_header` are equal. Assumes nothing.
use Rattle.std.specs.Prelude.{◌≡◌, ℕ, List}
use Rattle.scheme.specs.Res.{Res}
use Rattle.laws.specs.OneAnswer.{one-content}
use Rattle.header.specs.Header.{header_at}
use Rattle.header.specs.declared.Header.{Header}

pub read-header-unique : (b : List ℕ) (scratch room : ℕ) (r s : Res Header) → r ≡ header_at b scratch room → s ≡ header_at b scratch room → r ≡ s
read-header-unique b scratch room r s e f = one-content e f
