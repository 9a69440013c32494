-- `wire::fit` meets its contract. Assumes nothing.
use Rattle.std.proofs.Common.{◌≡◌, ◌-◌, length, arith}
use Rattle.std.specs.Prelude.{min}
use Rattle.std.proofs.lemmas.List.{take_min, drop-replicate}
use Rattle.wire.specs.Wire.{fit}
use Rattle.wire.proofs.fit.Goals as goal

pub returns : goal.returns
unfolding fit
returns g c =
    let a = c.args in
    let m : c.min-n.result ≡ min g.row.N (length a.xs.now) = omega arith in
    let lack : g.row.N - min g.row.N (length a.xs.now) ≡ g.row.N - length a.xs.now = omega arith in
    rw (c.copy_from_slice.ensures.after, m, drop-replicate _ _ a.lacking, lack, take_min)
