-- `report::tell_bag` meets its contract: the length of both parts first, then the parts. Assumes nothing.
use mathlib.Core.Path.{◌∙◌}
use mathlib.Core.List.{List, ◌++◌}
use native.Mathlib.Omega.{arith}
use Prim.Native.Nat.{ℕ}
use lib.ListN.{length-append}
use Rattle.report.specs.Lines.{ok_line, lines_of}
use Rattle.report.proofs.Lines.{told-short, told, both-put}
use Rattle.report.proofs.tell_bag.Goals as goal

pub returns-then-out-len : goal.returns-then-out-len
returns-then-out-len c =
    let a = c.args in
    let v = c.lines_len.ensures in
    let x : List ℕ = ok_line a.used a.cells a.k in
    let y : List ℕ = lines_of a.store.count a.store.table.now a.store.bytes.now a.roots.now a.k in
    let e = length-append x y in
    record { told = told-short (x ++ y) _ (omega arith) _ (omega arith); clean = v.clean }

pub put_lines-requires-clause-roots : goal.put_lines-requires-clause-roots
put_lines-requires-clause-roots c = rw c.lines_len.ensures.clean c.requires

pub returns : goal.returns
returns c =
    let a = c.args in
    let v = c.lines_len.ensures in
    let w = c.put_ok-at.ensures in
    let z = c.put_lines.ensures in
    let x : List ℕ = ok_line a.used a.cells a.k in
    let y : List ℕ = lines_of a.store.count a.store.table.now a.store.bytes.now a.roots.now a.k in
    let e = length-append x y in
    let b = both-put x y _ _ _ _ w.put w.next z.put in
    record { told = told (x ++ y) _ (omega arith) _ _ (omega arith) b; clean = z.clean ∙ v.clean }
