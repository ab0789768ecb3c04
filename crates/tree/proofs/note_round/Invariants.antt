-- The classes from `from` up to c have the round.
use Prim.Native.Nat.{◌+◌, ◌-◌, ◌≤◌}
use Rattle.tree.specs.Inner.Rows.{RoundNoted}
use Rattle.tree.proofs.note_round.Given as goal

abbrev pub invariant-loop-c : goal.invariant-loop-c
invariant-loop-c l =
    (l.from ≤ l.c) × (l.c ≤ l.to + (l.from - l.to)) × RoundNoted l.from l.c l.k l.initial.when l.when

abbrev pub decreases-loop-c : goal.decreases-loop-c
decreases-loop-c l = l.to - l.c
