-- No refusal has the number 0, so the number that a call answers says whether it is accepted. Assumes nothing.
use Rattle.std.specs.Prelude.{ℕ, ◌<◌, ◌≡◌, Bool, List, Err}
use Rattle.std.proofs.Common.{ap, arith}
use lib.Dec.{lit<}
use Rattle.scheme.specs.Refusals.{reason_number}
use Rattle.scheme.specs.Res.{Res}
use Rattle.scheme.specs.declared.Reason.{Reason}
use Rattle.scheme.specs.declared.Reason.TheVariants.{Store, Cut, Tag, Indexed, Size, Offset, Counts, Cells, Scratch, RootRoom, Refs, Padding, Crc, Extra, Back, Range, Root, Full, NoCell, NoRoom, Bits, Depth, Deep, Budget}
use Rattle.scheme.specs.declared.Refusal.{Refusal}
use Rattle.scheme.specs.Calls.{clearing, asking, reading, writing, measuring, printing}
use Rattle.tapunerow.specs.Answers.{number_of}
use Rattle.tapunerow.specs.Outcomes.{offering, copying}

pub positive : (q : Reason) → 0 < reason_number q
positive Store = lit< tt
positive Cut = lit< tt
positive Tag = lit< tt
positive Indexed = lit< tt
positive Size = lit< tt
positive Offset = lit< tt
positive Counts = lit< tt
positive Cells = lit< tt
positive Scratch = lit< tt
positive RootRoom = lit< tt
positive Refs = lit< tt
positive Padding = lit< tt
positive Crc = lit< tt
positive Extra = lit< tt
positive Back = lit< tt
positive Range = lit< tt
positive Root = lit< tt
positive Full = lit< tt
positive NoCell = lit< tt
positive NoRoom = lit< tt
positive Bits = lit< tt
positive Depth = lit< tt
positive Deep = lit< tt
positive Budget = lit< tt

-- if it is a refusal, its number is not 0
pub record Numbered {A : Type 0} (x : Res A) : Type 0 where
  pub by : (r : Refusal) → x ≡ Err r → 0 < reason_number r.reason

-- of every call
pub numbered : {A : Type 0} (x : Res A) → Numbered x
numbered x = record { by = λ r e. positive r.reason }

-- a call that answers 0 is not refused
pub zero-accepted : {A : Type 0} (x : Res A) → number_of x ≡ 0 → (r : Refusal) → x ≡ Err r → ⊥
zero-accepted x z r e =
    let p : number_of x ≡ reason_number r.reason = ap number_of e in
    omega (arith, positive r.reason)

-- and so of each call of the C interface
module _ (n : ℕ) (t d : List ℕ) where
  pub clear-answer : Numbered (clearing n t d).answer
  clear-answer = numbered _

  pub add-answer : (flag bits : ℕ) (own refs : List ℕ) → Numbered (offering n t d flag bits own refs).answer
  add-answer flag bits own refs = numbered _

  pub cell-answer : (i : ℕ) → Numbered (asking n t d i)
  cell-answer i = numbered _

  pub cell_data_answer : (i : ℕ) (o : List ℕ) → Numbered (copying n t d i o).answer
  cell_data_answer i o = numbered _

  pub read_answer : (whole : Bool) (s rs reply : List ℕ) → Numbered (reading whole n t d s rs reply).answer
  read_answer whole s rs reply = numbered _

  pub write-answer : (idx crc : Bool) (i : ℕ) (s o : List ℕ) → Numbered (writing idx crc n t d i s o).answer
  write-answer idx crc i s o = numbered _

  pub depth-answer : (i : ℕ) (s : List ℕ) → Numbered (measuring n t d i s).answer
  depth-answer i s = numbered _

  pub text-answer : (i budget : ℕ) (s o : List ℕ) → Numbered (printing n t d i budget s o).answer
  text-answer i budget s o = numbered _
