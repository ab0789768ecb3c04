-- The turns before i are made; the sets are closed under their steps, unless one has grown after it was read.
use mathlib.Core.Path.{◌≡◌}
use Prim.Native.Nat.{◌+◌, ◌≤◌}
use lib.ListN.{get_or}
use Rattle.text.specs.Limits.{action_limit, step_limit}
use Rattle.silent.specs.Inner.Loops.{SpreadTo, ClosedTo}
use Rattle.silent.proofs.keys.pass.Given as goal

abbrev pub invariant-loop-i : goal.invariant-loop-i
invariant-loop-i l =
    (l.begin ≡ get_or l.steps.from.now action_limit 0) × (l.end ≡ get_or l.steps.from.now (action_limit + 1) 0) × (l.end ≤ step_limit) × SpreadTo l.steps.from.now l.steps.sources.now l.steps.targets.now l.steps.n l.backward l.begin l.end l.i l.initial.sets l.sets
    × ClosedTo l.steps.sources.now l.steps.targets.now l.backward l.begin l.end l.i l.again l.marks l.sets
