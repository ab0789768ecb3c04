-- The steps with the action up to place i have been gathered from.
use mathlib.Core.Path.{◌≡◌}
use Prim.Native.Nat.{◌+◌, ◌≤◌, ◌<◌}
use lib.ListN.{get_or}
use Rattle.text.specs.Limits.{action_limit, step_limit}
use Rattle.silent.specs.Inner.Loops.{GatheredTo}
use Rattle.silent.proofs.keys.gather.Given as goal

abbrev pub invariant-loop-i : goal.invariant-loop-i
invariant-loop-i l =
    (l.of < action_limit) × (l.end ≡ get_or l.steps.from.now (l.of + 1) 0) × (l.end ≤ step_limit)
    × GatheredTo l.steps.from.now l.steps.sources.now l.steps.targets.now l.of l.i l.sets l.gathered
