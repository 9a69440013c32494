-- `report::put_ok` meets its contract: each call goes on where the one before it ended. Assumes nothing.
use native.Mathlib.Omega.{arith}
use Rattle.report.proofs.Lines.{ok-length, ok-put}
use Rattle.report.proofs.put_ok.Goals as goal

pub put_spaced-b-requires : goal.put_spaced-b-requires
put_spaced-b-requires c = omega (arith, ok-length c.args.used c.args.cells c.args.roots)

pub put_spaced-d-requires : goal.put_spaced-d-requires
put_spaced-d-requires c = omega (arith, ok-length c.args.used c.args.cells c.args.roots)

pub put_spaced-e-requires : goal.put_spaced-e-requires
put_spaced-e-requires c = omega (arith, ok-length c.args.used c.args.cells c.args.roots)

pub put_byte-requires : goal.put_byte-requires
put_byte-requires c = omega (arith, ok-length c.args.used c.args.cells c.args.roots)

pub returns : goal.returns
returns c =
    let a = c.args in
    let w = c.put-a in
    let x = c.put_spaced-b in
    let y = c.put_spaced-d in
    let z = c.put_spaced-e in
    let n = c.put_byte in
    record {
      next = omega (arith, ok-length a.used a.cells a.roots);
      put = ok-put a.used a.cells a.roots _ _ _ _ _ _ _ _ _ _
          w.ensures.1 w.ensures.0 x.ensures.put x.ensures.next y.ensures.put y.ensures.next z.ensures.put z.ensures.next n.ensures.1;
    }
