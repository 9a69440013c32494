-- `writer::put_bag` meets its contract. Assumes nothing.
use mathlib.Core.Path.{◌∙◌}
use Prim.Native.Nat.{◌≤◌}
use native.Mathlib.Omega.{arith}
use lib.ListN.{length}
use Rattle.writer.specs.Bag.{body_of}
use Rattle.writer.proofs.Seal.{sealed_length, sealed_is}
use Rattle.writer.proofs.put_bag.Goals as goal

pub put_body-at-requires : goal.put_body-at-requires
put_body-at-requires c =
    let a = c.args in
    let l = sealed_length a.args.has_crc32c (body_of a.args.has_idx a.args.has_crc32c a.cells.table.now a.cells.bytes.now a.scratch.now a.cells.count a.shape.listed a.shape.size a.shape.off) in
    record { cells_ok = c.requires.cells_ok; among = c.requires.among; shape_in_bounds = c.requires.shape_in_bounds; by_index = c.requires.by_index; total_value = c.requires.total_value; out_in_bounds = omega arith }

pub put_checksum-requires : goal.put_checksum-requires
put_checksum-requires c =
    let a = c.args in
    let b = c.put_body-at in
    let l = sealed_length a.args.has_crc32c (body_of a.args.has_idx a.args.has_crc32c a.cells.table.now a.cells.bytes.now a.scratch.now a.cells.count a.shape.listed a.shape.size a.shape.off) in
    omega (arith, b.ensures.0, c.requires.out_in_bounds)

pub returns : goal.returns
returns c =
    let a = c.args in
    let b = c.put_body-at in
    let body = body_of a.args.has_idx a.args.has_crc32c a.cells.table.now a.cells.bytes.now a.scratch.now a.cells.count a.shape.listed a.shape.size a.shape.off in
    let h : length body ≤ length a.out.now = omega (arith, sealed_length a.args.has_crc32c body, c.requires.out_in_bounds) in
    c.put_checksum.ensures ∙ sealed_is a.args.has_crc32c a.out.now body _ b.result b.ensures.0 h b.ensures.1
