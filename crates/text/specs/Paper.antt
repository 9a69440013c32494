-- What printing answers in the definitions' words, what it promises, and that the promise leaves one outcome.
use Rattle.std.specs.Prelude.{◌≡◌, ℕ, List}
use Rattle.std.proofs.Common.{ap}
use Rattle.scheme.specs.Res.{Res, then, mapped}
use Rattle.scheme.specs.Text.{Page, page}
use Rattle.scheme.specs.Calls.{Printed, lent, printing}
use Rattle.laws.specs.OneAnswer.{one_answer, one-content}
use Rattle.laws.specs.Answers.{mapped-apart}
use Rattle.text.specs.declared.Printed.{Printed as Out}

-- the page of cell i of the n cells in t and d, or the refusal
abbrev pub page_at : ℕ → List ℕ → List ℕ → ℕ → ℕ → ℕ → ℕ → Res Page
page_at n t d i budget scratch room = then (lent 1 n t d i scratch) λ s. page s i budget room

-- the bytes written and the cells printed, as the definitions have them
abbrev pub printed_of : Out → Printed
printed_of p = record { written = p.written; cells = p.cells }

out_path : (p q : Out) → p.written ≡ q.written → p.cells ≡ q.cells → p ≡ q
out_path p q e f = λ i. record { written = e i; cells = f i }

pub printed_inj : (p q : Out) → printed_of p ≡ printed_of q → p ≡ q
printed_inj p q e = out_path p q (ap (λ (x : Printed). x.written) e) (ap (λ (x : Printed). x.cells) e)

-- of cell i of the n cells in t and d, with the scratch s and the output o lent
pub record Prints (n : ℕ) (t d : List ℕ) (i budget : ℕ) (s o : List ℕ) (r : Res Out) (s' o' : List ℕ) : Type 0 where
  pub answer : mapped printed_of r ≡ (printing n t d i budget s o).answer
  pub scratch : s' ≡ (printing n t d i budget s o).scratch
  pub out : o' ≡ (printing n t d i budget s o).out

-- two outcomes that keep the promise are equal
pub unique : (n : ℕ) (t d : List ℕ) (i budget : ℕ) (s o : List ℕ) (r q : Res Out) (s₁ s₂ o₁ o₂ : List ℕ)
    → Prints n t d i budget s o r s₁ o₁ → Prints n t d i budget s o q s₂ o₂ → (r ≡ q) × (s₁ ≡ s₂) × (o₁ ≡ o₂)
unique n t d i budget s o r q s₁ s₂ o₁ o₂ a b = (
  one_answer (mapped printed_of) (mapped-apart printed_of printed_inj) r q a.answer b.answer,
  one-content a.scratch b.scratch,
  one-content a.out b.out,
)
