-- After k rounds a further one finds what it needs, and each of them separated a pair. There are more than k classes,
-- and no more than states.
use Rattle.splitters.specs.Laws.RoundLaws.{rounds_counted, last_rounded_counted}
use Rattle.splitters.proofs.rounds.rounds.Goals as goal

pub loop-preserved : goal.loop-preserved
loop-preserved c = (
  c.round.ensures.states,
  rounds_counted c.loop.invariant.1 c.round.ensures.rounded c.round.ensures.counted c.if-not-round.false,
)

pub returns : goal.returns
returns c =
    last_rounded_counted c.loop.invariant.1 c.round.ensures.rounded c.round.ensures.counted c.if-not-round.true
