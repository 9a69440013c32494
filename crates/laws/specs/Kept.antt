-- What a store keeps to: its references go down, its cells differ and are fit, and they have room. That clears, adds and reads keep it is in proofs/Kept.
-- Assumes nothing.
use Rattle.std.specs.Prelude.{◌≡◌, ℕ, ◌≤◌, ◌<◌, length, leb, Bool, Ok, Err}
use Rattle.std.proofs.Common.{not-suc-le-zero, arith}
use mathlib.Core.List.{List, []}
use Rattle.scheme.specs.Refusals.{NOROOM}
use Rattle.scheme.specs.Cells.{Cell, at, with}
use Rattle.laws.specs.Unique.{Sound, sound-nil}
use Rattle.scheme.specs.Bag.{read, Got}
use Rattle.scheme.specs.Res.{Res, check, refusal}
use Rattle.scheme.specs.Write.{write, serialized}
use Rattle.laws.specs.CellRound.{Fit}
use Rattle.laws.specs.Accept.{Small, then_use}
use Rattle.laws.specs.Add.{Typed}
use Rattle.scheme.specs.Add.{Added, add}
use Rattle.scheme.specs.Builder.{Builder}

abbrev pub AllFit : List Cell → Type 0
AllFit s = (x : ℕ) → x < length s → Fit (at s x)

pub fit-with : (b : Cell) (rs : List ℕ) → length rs ≡ length b.refs → Fit b → Fit (with b rs)
fit-with b rs e F = record { flag = F.flag; few = F.few; many = F.many; small = F.small; clean = F.clean; arity = rw e F.arity }

-- what every store keeps to
pub record Kept (cap : ℕ) (s : List Cell) : Type 0 where
  pub sound : Sound s
  pub fit : AllFit s
  pub room : length s ≤ cap

-- a call: its arguments
pub data Op : Type 0 where
  clears : Op
  adds : Builder → Op
  reads : Bool → ℕ → ℕ → List ℕ → Op

abbrev pub TypedOp : Op → Type 0
TypedOp clears = Unit {0}
TypedOp (adds b) = Typed b
TypedOp (reads whole scratch room b) = Small b

abbrev pub added_store : List Cell → Res Added → List Cell
added_store s (Err r) = s
added_store s (Ok a) = a.store

abbrev pub got_store : List Cell → Res Got → List Cell
got_store s (Err r) = s
got_store s (Ok g) = g.store

module _ (cap : ℕ) where
  -- a store that was cleared
  pub kept-nil : Kept cap []
  kept-nil = record { sound = sound-nil; fit = λ x h. absurd (not-suc-le-zero h); room = omega arith }

  abbrev pub after : List Cell → Op → List Cell
  after s clears = []
  after s (adds b) = added_store s (add cap s b)
  after s (reads whole scratch room b) = got_store s (read whole scratch room cap s b)

-- what is written, if it is not refused
pub write-inv : (out : ℕ) (idx sum : Bool) (s : List Cell) (root : ℕ) (b : List ℕ) → serialized idx sum s root out ≡ Ok b → b ≡ write idx sum s root
unfolding serialized
write-inv out idx sum s root b e =
    then_use (check (leb (length (write idx sum s root)) out) (refusal NOROOM (length (write idx sum s root)))) _ _ e λ u₃ x₃ e₃.
    cc
