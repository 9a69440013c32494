use Prim.Native.Nat.{◌<◌, ◌≤◌, ◌+◌, ◌*◌}
use mathlib.Core.Path.{◌≡◌}
use native.Mathlib.Omega.{arith}
use lib.ListN.{get_or}
use Rattle.text.proofs.Texts.{some-refs, text_leaf, size-eq, size_leaf, own-le, node-length, node-put}
use Rattle.text.proofs.Texts.{size-more, size-last, text-last, first-le, more-length, more-put, cells-down}
use Rattle.text.proofs.+print_cell_print_refs.Goals as goal

-- ---- print_cell

pub print_cell-overflow_sub-rest : goal.print_cell-overflow_sub-rest
print_cell-overflow_sub-rest t c =
    let ok = (c.requires.cells_ok c.args.n (omega arith)).ok in
    omega (arith, size-eq c.args.cells.now.table.now c.args.cells.now.bytes.now c.args.n ok)

pub print_cell-put_own-a-requires-clause-n_in_bounds : goal.print_cell-put_own-a-requires-clause-n_in_bounds
print_cell-put_own-a-requires-clause-n_in_bounds t c =
    let ok = (c.requires.cells_ok c.args.n (omega arith)).ok in
    omega (arith, own-le c.args.cells.now.table.now c.args.cells.now.bytes.now c.args.n ok)

pub print_cell-returns-then-k-eq0 : goal.print_cell-returns-then-k-eq0
print_cell-returns-then-k-eq0 t c =
    let T = c.args.cells.now.table.now in
    let D = c.args.cells.now.bytes.now in
    let n = c.args.n in
    let ok = (c.requires.cells_ok n (omega arith)).ok in
    let k : get_or T (n * 7 + 2) 0 ≡ 0 = omega arith in
    let e = text_leaf T D n ok k in
    record {
      next = rw e c.put_own-a.ensures.next;
      remains = omega (arith, size-eq T D n ok, size_leaf T D n ok k);
      put = rw e c.put_own-a.ensures.put;
    }

pub print_cell-put-b-requires : goal.print_cell-put-b-requires
print_cell-put-b-requires t c =
    let T = c.args.cells.now.table.now in
    let n = c.args.n in
    let ok = (c.requires.cells_ok n (omega arith)).ok in
    let k = some-refs T n _ c.field-k.ensures c.if-k-eq0.false in
    omega (arith, node-length T c.args.cells.now.bytes.now n ok k)

pub print_cell-print_refs-p-requires : goal.print_cell-print_refs-p-requires
print_cell-print_refs-p-requires t c =
    let T = c.args.cells.now.table.now in
    let D = c.args.cells.now.bytes.now in
    let n = c.args.n in
    let ok = (c.requires.cells_ok n (omega arith)).ok in
    let k = some-refs T n _ c.field-k.ensures c.if-k-eq0.false in
    let l = node-length T D n ok k in
    (omega (arith, c.decreases), (c.requires.cells_ok, (k, (omega arith, omega (arith, size-eq T D n ok)))))

pub print_cell-put_byte-requires : goal.print_cell-put_byte-requires
print_cell-put_byte-requires t c =
    let T = c.args.cells.now.table.now in
    let n = c.args.n in
    let ok = (c.requires.cells_ok n (omega arith)).ok in
    let k = some-refs T n _ c.field-k.ensures c.if-k-eq0.false in
    omega (arith, node-length T c.args.cells.now.bytes.now n ok k)

pub print_cell-returns : goal.print_cell-returns
print_cell-returns t c =
    let T = c.args.cells.now.table.now in
    let D = c.args.cells.now.bytes.now in
    let n = c.args.n in
    let ok = (c.requires.cells_ok n (omega arith)).ok in
    let k = some-refs T n _ c.field-k.ensures c.if-k-eq0.false in
    let o = c.put_own-a in
    let w = c.put-b in
    let p = c.print_refs-p in
    let z = c.put_byte in
    record {
      next = omega (arith, node-length T D n ok k);
      remains = omega (arith, size-eq T D n ok);
      put = node-put T D n ok c.args.at o.result w.result p.result.next
          c.args.out.now o.new.out w.new.out p.new.out z.new.out
          k o.ensures.put o.ensures.next w.ensures.1 w.ensures.0 p.ensures.put p.ensures.next z.ensures.1;
    }

-- ---- print_refs

pub print_refs-print_cell-p-requires : goal.print_refs-print_cell-p-requires
print_refs-print_cell-p-requires t c =
    let T = c.args.cells.now.table.now in
    let D = c.args.cells.now.bytes.now in
    let n = c.args.n in
    let j = c.args.j in
    let h = c.requires.j_bound in
    let ok = (c.requires.cells_ok n (omega arith)).ok in
    let r = c.field-r.result in
    let e = c.field-r.ensures in
    let back = ok.back j h in (
      omega (arith, c.decreases),
      (
        cells-down T D n r c.requires.cells_ok (omega arith),
        (omega (arith, first-le T D n ok j h r e), omega (arith, size-more T D n ok j h r e)),
      ),
    )

pub print_refs-returns-then-k-j : goal.print_refs-returns-then-k-j
print_refs-returns-then-k-j t c =
    let T = c.args.cells.now.table.now in
    let D = c.args.cells.now.bytes.now in
    let n = c.args.n in
    let j = c.args.j in
    let h = c.requires.j_bound in
    let ok = (c.requires.cells_ok n (omega arith)).ok in
    let f = c.field-r in
    let p = c.print_cell-p in
    let k : get_or T (n * 7 + 2) 0 ≤ j + 1 = omega arith in
    let q = text-last T D n ok j h f.result f.ensures k in
    record {
      next = rw q p.ensures.next;
      remains = rw (size-last T D n ok j h f.result f.ensures k) p.ensures.remains;
      put = rw q p.ensures.put;
    }

pub print_refs-put-b-requires : goal.print_refs-put-b-requires
print_refs-put-b-requires t c =
    let T = c.args.cells.now.table.now in
    let D = c.args.cells.now.bytes.now in
    let n = c.args.n in
    let j = c.args.j in
    let ok = (c.requires.cells_ok n (omega arith)).ok in
    let f = c.field-r in
    let k : j + 1 < get_or T (n * 7 + 2) 0 = omega arith in
    omega (arith, more-length T D n ok j c.requires.j_bound f.result f.ensures k)

pub print_refs-print_refs-requires : goal.print_refs-print_refs-requires
print_refs-print_refs-requires t c =
    let T = c.args.cells.now.table.now in
    let D = c.args.cells.now.bytes.now in
    let n = c.args.n in
    let j = c.args.j in
    let h = c.requires.j_bound in
    let ok = (c.requires.cells_ok n (omega arith)).ok in
    let f = c.field-r in
    let k : j + 1 < get_or T (n * 7 + 2) 0 = omega arith in
    let l = more-length T D n ok j h f.result f.ensures k in
    (omega (arith, c.decreases, ok.few), (c.requires.cells_ok, (k, (omega arith, omega (arith, size-more T D n ok j h f.result f.ensures)))))

pub print_refs-returns : goal.print_refs-returns
print_refs-returns t c =
    let T = c.args.cells.now.table.now in
    let D = c.args.cells.now.bytes.now in
    let n = c.args.n in
    let j = c.args.j in
    let h = c.requires.j_bound in
    let ok = (c.requires.cells_ok n (omega arith)).ok in
    let f = c.field-r in
    let p = c.print_cell-p in
    let w = c.put-b in
    let q = c.print_refs in
    let k : j + 1 < get_or T (n * 7 + 2) 0 = omega arith in
    let l = more-length T D n ok j h f.result f.ensures k in
    record {
      next = omega arith;
      remains = omega (arith, size-more T D n ok j h f.result f.ensures);
      put = more-put T D n ok j h f.result f.ensures c.args.at p.result.next w.result
          c.args.out.now p.new.out w.new.out q.new.out
          k p.ensures.put p.ensures.next w.ensures.1 w.ensures.0 q.ensures.put;
    }
