-- `text::decide` meets its contract: each `return` is the verdict of the tests that led there. Assumes nothing.
use Prim.Native.Nat.{◌≤◌, ◌+◌, ◌*◌, min}
use mathlib.Core.Path.{◌≡◌, ap, sym, ◌∙◌}
use native.Mathlib.Omega.{arith}
use lib.ListN.{length}
use Rattle.scheme.specs.Memory.{cell_at}
use Rattle.scheme.specs.Res.{mapped}
use Rattle.scheme.specs.Text.{height}
use Rattle.laws.specs.Records.{Linked, CellsOk, sound-cells}
use Rattle.depth.specs.Lent.{IsLent, is-lent}
use Rattle.text.specs.Parts.{text_at, size_at}
use Rattle.text.proofs.Printing.{too_deep, over_budget, no_room, all-fits, text-bound}
use Rattle.text.proofs.decide.Goals as goal
use Rattle.text.proofs.decide.Goals.{In_ok-check_lent, Else-path-gt-MAX_PATH, Else-limit-size, After-length_of-len}

given : (c : In_ok-check_lent) → IsLent c.args.store.count c.args.store.table.now c.args.store.bytes.now c.args.n (length c.args.scratch.now)
given c = is-lent _ _ _ _ _ (sym c.check_lent.ensures ∙ c.in_ok-check_lent.was)

cells : (c : In_ok-check_lent) → CellsOk c.args.store.table.now c.args.store.bytes.now (c.args.n + 1)
cells c = let g = given c in λ i l. sound-cells _ _ _ g.whole i (omega arith)

linked : (c : In_ok-check_lent) → Linked c.args.store.table.now (c.args.n + 1)
linked c = λ i l. (cells c i l).ok

low : (c : Else-path-gt-MAX_PATH) → height (cell_at c.args.store.table.now c.args.store.bytes.now) c.args.n ≤ 256
low c = omega (arith, c.height_of-path.ensures c.args.store.bytes.now)

few : (c : Else-limit-size) → size_at c.args.store.table.now c.args.store.bytes.now c.args.n ≤ min c.args.budget 65535
few c = omega (arith, c.size_of-size.ensures c.args.store.bytes.now)

-- the text is within the cap
long : (c : After-length_of-len) → c.length_of-len.result ≡ length (text_at c.args.store.table.now c.args.store.bytes.now c.args.n)
long c =
    let a = c.args in
    let s = cells (goal.at.After-length_of-len c).In_ok-check_lent in
    let q = few (goal.at.After-length_of-len c).Else-limit-size in
    let l : (a.n + 1) * 128 ≤ length a.store.bytes.now = omega (arith, (s a.n (omega arith)).bytes) in
    omega (arith, c.length_of-len.ensures a.store.bytes.now l, text-bound a.store.table.now a.store.bytes.now a.n s)

pub height_of-path-requires : goal.height_of-path-requires
height_of-path-requires c =
    let d = (goal.at.height_of-path-requires c).In_ok-check_lent in
    let g = given d in
    record { linked = linked d; n_in_bounds = omega arith }

pub returns-then-path-gt-MAX_PATH : goal.returns-then-path-gt-MAX_PATH
returns-then-path-gt-MAX_PATH c =
    let g = given (goal.at.returns-then-path-gt-MAX_PATH c).In_ok-check_lent in
    rw c.at.ensures (ap (mapped (λ _. tt)) (sym (too_deep _ _ _ _ _ _ _ g (omega (arith, c.height_of-path.ensures c.args.store.bytes.now)))))

pub size_of-size-requires : goal.size_of-size-requires
size_of-size-requires c =
    let d = (goal.at.size_of-size-requires c).In_ok-check_lent in
    let g = given d in
    record { linked = linked d; n_in_bounds = omega (arith, c.height_of-path.auto.scratch) }

pub returns-then-limit-size : goal.returns-then-limit-size
returns-then-limit-size c =
    let g = given (goal.at.returns-then-limit-size c).In_ok-check_lent in
    let p = low (goal.at.returns-then-limit-size c).Else-path-gt-MAX_PATH in
    rw (c.at-then-limit-size.ensures, c.min-limit.ensures)
    (ap (mapped (λ _. tt)) (sym (over_budget _ _ _ _ _ _ _ g p (omega (arith, c.size_of-size.ensures c.args.store.bytes.now)))))

pub length_of-len-requires : goal.length_of-len-requires
length_of-len-requires c =
    let d = (goal.at.length_of-len-requires c).In_ok-check_lent in
    let g = given d in
    record { linked = linked d; n_in_bounds = omega (arith, c.height_of-path.auto.scratch, c.size_of-size.auto.scratch) }

pub returns-then-room-len : goal.returns-then-room-len
returns-then-room-len c =
    let g = given (goal.at.returns-then-room-len c).In_ok-check_lent in
    let p = low (goal.at.returns-then-room-len c).Else-path-gt-MAX_PATH in
    let q = few (goal.at.returns-then-room-len c).Else-limit-size in
    let z = long (goal.at.returns-then-room-len c).After-length_of-len in
    rw (c.at-then-room-len.ensures, z) (ap (mapped (λ _. tt)) (sym (no_room _ _ _ _ _ _ _ g p q (omega arith))))

pub returns : goal.returns
returns c =
    let g = given (goal.at.returns c).In_ok-check_lent in
    let p = low (goal.at.returns c).Else-path-gt-MAX_PATH in
    let q = few (goal.at.returns c).Else-limit-size in
    let z = long (goal.at.returns c).After-length_of-len in
    ap (mapped (λ _. tt)) (sym (all-fits _ _ _ _ _ _ _ g p q (omega arith)))
