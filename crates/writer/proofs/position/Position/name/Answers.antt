-- Each byte of the name is below 256, and the next one is written behind those before it. Assumes nothing.
use Rattle.std.proofs.Common.{rules}
use Rattle.writer.specs.Laws.WroteLaws.{wrote-append, take_next}
use Rattle.writer.proofs.position.Position.name.Goals as goal

pub loop-b-preserved : goal.loop-b-preserved
loop-b-preserved c = (
  search rules,
  rw (← take_next c.args.name.now c.loop-b.b-index (search rules))
      (wrote-append c.loop-b.invariant.1 c.byte-at.ensures),
)
