use mathlib.Core.Path.{refl, ◌∙◌}
use native.Mathlib.Omega.{arith}
use Rattle.scheme.specs.Crc.{crc_steps, crc_step}
use Rattle.crc32c.specs.Table.{crc_table, table_of}
use Rattle.crc32c.proofs.Steps.{run-next, run_end}
use Rattle.crc32c.proofs.crc_run.Goals as goal

pub loop-b-init : goal.loop-b-init
unfolding crc_table table_of crc_steps crc_step
loop-b-init c = (refl, refl)

pub loop-b-preserved : goal.loop-b-preserved
loop-b-preserved c = (
  c.loop-b.invariant.0,
  run-next c.args.bytes.now c.loop-b.b-index c.loop-b.state (omega arith) c.crc_byte-state.ensures ∙ c.loop-b.invariant.1,
)

pub returns : goal.returns
returns c = run_end c.args.bytes.now c.loop-b.b-index (omega arith) ∙ c.loop-b.invariant.1
