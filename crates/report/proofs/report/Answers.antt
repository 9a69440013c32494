-- `report::report` meets its contract: a reply too long, a read that is refused, a bag that is read. Assumes nothing.
use mathlib.Core.Path.{◌∙◌}
use native.Mathlib.Omega.{arith}
use Rattle.reader.specs.Steps.{small-mem}
use Rattle.report.proofs.Reading.{read-refused, read_done, reported, reported-long}
use Rattle.report.proofs.report.Goals as goal

pub returns-then-reply-gt-MAX_INPUT : goal.returns-then-reply-gt-MAX_INPUT
returns-then-reply-gt-MAX_INPUT c =
    reported-long _ _ _ _ _ _ c.if-reply-gt-MAX_INPUT.true _ _ _ _ c.tell_long.ensures (c.fill.ensures.after (λ y e. e))

pub tell_bag-requires : goal.tell_bag-requires
tell_bag-requires c =
    let small = small-mem c.args.reply.now (λ i. omega (arith, c.type_inv.reply i)) in
    let g = read_done _ _ _ _ _ _ small _ _ _ _ c.clear.ensures _ _ _ _ _ _ c.unpack_fully.ensures _ c.in-Ok.is in
    g.roots

pub returns-in-Err : goal.returns-in-Err
returns-in-Err c =
    let small = small-mem c.args.reply.now (λ i. omega (arith, c.type_inv.reply i)) in
    let g = read-refused _ _ _ _ _ _ small _ _ _ _ c.clear.ensures _ _ _ _ _ _ c.unpack_fully.ensures _ c.in-Err.is in
    let R = reported _ _ _ _ _ _ small _ _ _ _ c.clear.ensures _ _ _ _ _ _ c.unpack_fully.ensures c.if-reply-gt-MAX_INPUT.false in
    R _ g.lines _ _ _ _ c.tell_refused.ensures g.clean

pub returns-in-Ok : goal.returns-in-Ok
returns-in-Ok c =
    let small = small-mem c.args.reply.now (λ i. omega (arith, c.type_inv.reply i)) in
    let g = read_done _ _ _ _ _ _ small _ _ _ _ c.clear.ensures _ _ _ _ _ _ c.unpack_fully.ensures _ c.in-Ok.is in
    let R = reported _ _ _ _ _ _ small _ _ _ _ c.clear.ensures _ _ _ _ _ _ c.unpack_fully.ensures c.if-reply-gt-MAX_INPUT.false in
    R _ g.lines _ _ _ _ c.tell_bag.ensures.told (c.tell_bag.ensures.clean ∙ g.clean)
