-- Two answers that meet the contract of `Reason::number`, `Reason::at`, `scheme::refusal_numbers` or `scheme::limit_numbers` are equal. Assumes nothing.
use Rattle.std.specs.Prelude.{◌≡◌, ℕ, List}
use Rattle.scheme.specs.Refusals.{reason_number, refusals}
use Rattle.scheme.specs.Res.{refusal}
use Rattle.scheme.specs.declared.Reason.{Reason}
use Rattle.scheme.specs.declared.Refusal.{Refusal}
use Rattle.scheme.specs.Limits.{limits}
use Rattle.laws.specs.OneAnswer.{one-content}

pub one-refusal-numbers : (r s : List ℕ) → r ≡ refusals → s ≡ refusals → r ≡ s
one-refusal-numbers r s p q = one-content p q

pub one_limit_numbers : (r s : List ℕ) → r ≡ limits → s ≡ limits → r ≡ s
one_limit_numbers r s p q = one-content p q

pub one_number : (q : Reason) (r s : ℕ) → r ≡ reason_number q → s ≡ reason_number q → r ≡ s
one_number q r s e f = one-content e f

pub one_refusal : (q : Reason) (place : ℕ) (r s : Refusal) → r ≡ refusal q place → s ≡ refusal q place → r ≡ s
one_refusal q place r s e f = one-content e f
