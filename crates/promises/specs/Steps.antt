-- Demand 3 (docs/DEMANDS.md), of the code: what the public calls promise, as steps of a history that starts with an accepted clearing. A call that may
-- change a store has one line in `Step` and one in `leads` (proofs/Steps), and demand 3 is proved there of whatever memory they leave.
use Rattle.std.specs.Prelude.{◌≡◌, ℕ, ◌≤◌, Bool, true, List, length, Result, Ok}
use Rattle.scheme.specs.Res.{Res}
use Rattle.scheme.specs.Memory.{sized}
use Rattle.scheme.specs.Program.{max_input}
use Rattle.laws.specs.Accept.{Small}
use Rattle.laws.specs.Add.{Typed}
use Rattle.builder.specs.Paper.{builder_of}
use Rattle.builder.specs.declared.CellBuilder.{CellBuilder}
use Rattle.store.specs.Paper.{Clears, Adds}
use Rattle.add_many.specs.Many.{cells_in, AddsMany}
use Rattle.add_many.specs.declared.Stop.{Stop}
use Rattle.reader.specs.Paper.{Reads}
use Rattle.reader.specs.declared.Counts.{Counts}
use Rattle.report.specs.Paper.{Reports}
use Rattle.tapunerow.specs.Promises.{WireClears, WireAdds, WireReads}
use Rattle.theorems.specs.Histories.{Memory}

-- what a public call that may change a store promises, from the memory m before it to m' after it. Of the arguments their types' bounds are asked
pub data Step (m m' : Memory) : Type 0 where
  clear : (r : Res (Unit {0})) → Clears m.count m.table m.bytes r m'.count m'.table m'.bytes → Step m m'
  add : (c : CellBuilder) (r : Res ℕ) → Typed (builder_of c)
      → Adds m.count m.table m.bytes (builder_of c) r m'.count m'.table m'.bytes → Step m m'
  add-many : (hs ds xs : List ℕ) (r : Result (Unit {0}) Stop) (xs' : List ℕ) → Small ds
      → AddsMany hs ds (cells_in (length hs) (length ds) (length xs)) m.count m.table m.bytes xs r m'.count m'.table m'.bytes xs' → Step m m'
  -- deserialize, and unpack_fully if `whole`
  read : (whole : Bool) (s rs reply : List ℕ) (r : Res Counts) (s' rs' : List ℕ) → Small reply
      → Reads whole m.count m.table m.bytes s rs reply r m'.count m'.table m'.bytes s' rs' → Step m m'
  report : (s rs o reply : List ℕ) (r : ℕ) (s' rs' o' : List ℕ) → Small reply
      → Reports m.count m.table m.bytes s rs o reply r m'.count m'.table m'.bytes s' rs' o' → Step m m'
  tapunerow_clear : (r : ℕ) (a : List ℕ) → WireClears m.count m.table m.bytes r m'.count m'.table m'.bytes a → Step m m'
  tapunerow_add : (flag bits : ℕ) (own refs : List ℕ) (r : ℕ) (a : List ℕ) → Small own
      → WireAdds m.count m.table m.bytes flag bits own refs r m'.count m'.table m'.bytes a → Step m m'
  tapunerow_read : (whole : ℕ) (s rs reply : List ℕ) (r : ℕ) (s' rs' a : List ℕ) → Small reply
      → WireReads whole m.count m.table m.bytes s rs reply r m'.count m'.table m'.bytes s' rs' a → Step m m'

-- a clearing that was accepted: `clear` answered Ok, or `tapunerow_clear` 0, or `report` cleared memory that has a store's lengths
pub data Start (m m' : Memory) : Type 0 where
  clear-done : Clears m.count m.table m.bytes (Ok tt) m'.count m'.table m'.bytes → Start m m'
  tapunerow_clear_0 : (a : List ℕ) → WireClears m.count m.table m.bytes 0 m'.count m'.table m'.bytes a → Start m m'
  report-cleared : (s rs o reply : List ℕ) (r : ℕ) (s' rs' o' : List ℕ) → Small reply → sized m.table m.bytes ≡ true → length reply ≤ max_input
      → Reports m.count m.table m.bytes s rs o reply r m'.count m'.table m'.bytes s' rs' o' → Start m m'

-- memory that the functions leave, called in any order and with any arguments, from a clearing that was accepted on
pub data Ran : Memory → Type 0 where
  starts : (m m' : Memory) → Start m m' → Ran m'
  steps : (m m' : Memory) → Ran m → Step m m' → Ran m'
