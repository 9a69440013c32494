-- `report::put_refused` meets its contract: each call goes on where the one before it ended. Assumes nothing.
use Prim.Native.Nat.{ℕ, ◌+◌}
use mathlib.Core.Path.{◌≡◌, ap}
use native.Mathlib.Omega.{arith}
use lib.ListN.{length}
use Rattle.scheme.specs.Refusals.{reason_number}
use Rattle.scheme.specs.Text.{digits}
use Rattle.report.proofs.Lines.{refused-length, refused-put}
use Rattle.report.proofs.put_refused.Goals as goal
use Rattle.report.proofs.put_refused.Goals.{After-number}

long : (c : After-number) → length (digits 20 c.number.result) ≡ length (digits 20 (reason_number c.args.r.reason))
long c = ap (λ (n : ℕ). length (digits 20 n)) c.number.ensures

pub put_spaced-b-requires : goal.put_spaced-b-requires
put_spaced-b-requires c = omega (arith, refused-length c.args.r, long c)

pub put_spaced-e-requires : goal.put_spaced-e-requires
put_spaced-e-requires c = omega (arith, refused-length c.args.r, long (goal.at.put_spaced-e-requires c).After-number)

pub put_byte-requires : goal.put_byte-requires
put_byte-requires c = omega (arith, refused-length c.args.r, long (goal.at.put_byte-requires c).After-number)

pub returns : goal.returns
returns c =
    let w = c.put-a in
    let x = c.put_spaced-b in
    let y = c.put_spaced-e in
    let z = c.put_byte in
    let r = c.args.r in
    record {
      next = omega (arith, refused-length r, long (goal.at.returns c).After-number);
      put = refused-put r _ _ _ _ _ _ _ _ _ w.ensures.1 w.ensures.0 (rw c.number.ensures at x.ensures.put) (rw c.number.ensures at x.ensures.next)
          y.ensures.put y.ensures.next z.ensures.1;
    }
