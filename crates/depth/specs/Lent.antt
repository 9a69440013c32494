-- What it says that cell i of the n cells in t and d is lent, with a scratch of k entries, and that it is not. Assumes nothing.
use Rattle.std.specs.Prelude.{◌≡◌, true, List, ℕ, ◌<◌, ◌≤◌, Ok, Err}
use Rattle.std.proofs.Common.{⊎_elim, arith}
use Rattle.std.proofs.lemmas.Bool.{cases_lt}
use Rattle.scheme.specs.declared.Refusal.{Refusal}
use Rattle.scheme.specs.Res.{Res, then, mapped}
use Rattle.scheme.specs.Cells.{Cell}
use Rattle.scheme.specs.Memory.{sound}
use Rattle.scheme.specs.Calls.{lent}
use Rattle.laws.specs.Tests.{bool_cases}
use Rattle.laws.specs.Lent.{lent-store, lent_nocell, lent-scratch}

-- the store is sound, the cell is held, and each cell has an entry
pub record IsLent (n : ℕ) (t d : List ℕ) (i k : ℕ) : Type 0 where
  pub whole : sound n t d ≡ true
  pub held : i < n
  pub entries : n ≤ k

no-refusal : (x : Res (List Cell)) (r : Refusal) → x ≡ Err r → mapped (λ _. tt {0}) x ≡ Ok (tt {0}) → ⊥
no-refusal (Err q) r e f = cc
no-refusal (Ok a) r e f = cc

pub is-lent : (n : ℕ) (t d : List ℕ) (i k : ℕ) → mapped (λ _. tt {0}) (lent 1 n t d i k) ≡ Ok (tt {0}) → IsLent n t d i k
is-lent n t d i k e =
    ⊎_elim
    (λ s. ⊎_elim
    (λ h. ⊎_elim
    (λ l. absurd (no-refusal _ _ (lent-scratch 1 n t d i k s h (omega arith)) e))
    (λ l. record { whole = s; held = h; entries = l })
    (cases_lt k n))
    (λ h. absurd (no-refusal _ _ (lent_nocell 1 n t d i k s h) e))
    (cases_lt i n))
    (λ s. absurd (no-refusal _ _ (lent-store 1 n t d i k s) e))
    (bool_cases (sound n t d))

-- a refusal is handed on
pub not-lent : {A : Type 0} (x : Res (List Cell)) (f : List Cell → Res A) (r : Refusal) → mapped (λ _. tt {0}) x ≡ Err r → then x f ≡ Err r
not-lent (Err q) f r e = cc
not-lent (Ok a) f r e = cc
