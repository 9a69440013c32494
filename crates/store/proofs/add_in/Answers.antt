-- `store::add_in` meets its contract: each way out is a law of `Ways`. Assumes nothing.
use Rattle.std.proofs.Common.{◌≡◌, ◌<◌, ◌≤◌, ℕ, arith, rules, length, take, get_or}
use Rattle.std.proofs.lemmas.Iterator.{IsFirst-from_position, YieldsList-from_slice}
use borrow.Author.Tests.{tests}
use lib.Seq.{length-take-le}
use Rattle.store.proofs.Ways.{adds-bits, adds-refs, adds_nocell, adds-placed, block-is, flag_is}
use Rattle.store.proofs.add_in.Goals as goal
use Rattle.store.proofs.add_in.Goals.{In_default}

pub returns-then-bits-gt-MAX_BITS_LEN : goal.returns-then-bits-gt-MAX_BITS_LEN
returns-then-bits-gt-MAX_BITS_LEN c = rw c.at.ensures (adds-bits _ _ _ _ c.requires c.if-bits-gt-MAX_BITS_LEN.true)

pub returns-then-cell-gt-MAX_REFS_COUNT : goal.returns-then-cell-gt-MAX_REFS_COUNT
returns-then-cell-gt-MAX_REFS_COUNT c =
    rw c.at-then-cell-gt-MAX_REFS_COUNT.ensures (adds-refs _ _ _ _ c.requires c.if-bits-gt-MAX_BITS_LEN.false c.if-cell-gt-MAX_REFS_COUNT.true)

pub returns-in-Some : goal.returns-in-Some
returns-in-Some c =
    let n = c.args.count.now in
    let m = IsFirst-from_position _ _ _ (λ x. n ≤ x) (λ x. x < n) c.position.ensures.ran (YieldsList-from_slice (take c.args.cell.count c.args.cell.refs) cc)
    (λ x q k. search (rules, tests)) (λ x q k. search (rules, tests)) in
    let f = rw c.in-Some.is at m in
    rw c.at-in-Some.ensures (adds_nocell _ _ _ _ c.requires c.if-bits-gt-MAX_BITS_LEN.false c.if-cell-gt-MAX_REFS_COUNT.false _
    f.0 (f.1 0) (λ i l. f.2 i 0 (omega arith) l))

-- every reference is to a cell that is held
held-all : (c : In_default) → (i : ℕ) → i < length (take c.args.cell.count c.args.cell.refs)
    → get_or (take c.args.cell.count c.args.cell.refs) i 0 < c.args.count.now
held-all c =
    let n = c.args.count.now in
    let m = IsFirst-from_position _ _ _ (λ x. n ≤ x) (λ x. x < n) c.position.ensures.ran (YieldsList-from_slice (take c.args.cell.count c.args.cell.refs) cc)
    (λ x q k. search (rules, tests)) (λ x q k. search (rules, tests)) in
    let f = rw c.in_default.is at m in
    λ i l. f i 0 (omega arith) l

pub place-requires : goal.place-requires
place-requires c =
    let b = c.args.cell in
    let q : length b.refs ≡ 4 = search rules in
    let w : length b.bytes ≡ 128 = search rules in
    let l = length-take-le b.count b.refs (omega arith) in
    let f = flag_is b.exotic _ c.from.ensures in record {
      bytes_value = c.requires;
      flag_bound = (f.1, omega arith, omega arith, omega arith);
      block_value = block-is c.from.result b.len b.bytes _ (take b.count b.refs) w c.if-bits-gt-MAX_BITS_LEN.false c.clean.ensures;
      by_index = held-all (goal.at.place-requires c).In_default;
    }

pub returns : goal.returns
returns c =
    let b = c.args.cell in
    let w : length b.bytes ≡ 128 = search rules in
    adds-placed _ _ _ _ c.requires c.if-bits-gt-MAX_BITS_LEN.false c.if-cell-gt-MAX_REFS_COUNT.false (held-all (goal.at.returns c).In_default)
    _ _ _ _ _ _ (flag_is b.exotic _ c.from.ensures).0 w c.clean.ensures c.place.ensures
