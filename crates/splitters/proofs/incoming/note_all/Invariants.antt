-- Each state below q has got all labels of the list.
use Rattle.std.proofs.Common.{◌-◌, ◌<◌}
use Rattle.text.specs.Limits.{state_limit}
use Rattle.splitters.specs.Inner.Splitters.{SetsOf}
use Rattle.splitters.proofs.incoming.note_all.Given as goal

abbrev pub invariant-loop-q : goal.invariant-loop-q
invariant-loop-q l = SetsOf (λ k x. x < l.count) 0 l.q l.into

abbrev pub decreases-loop-q : goal.decreases-loop-q
decreases-loop-q l = state_limit - l.q
