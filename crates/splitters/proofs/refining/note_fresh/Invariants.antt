-- The sets of the new classes below j are noted, and those of the classes that they were divided off; none before them
-- has changed.
use Rattle.std.proofs.Common.{get_or}
use Rattle.sets.specs.Inner.Sets.{Member}
use Rattle.splitters.specs.Inner.Splitters.{SetsOf, SetsKept}
use Rattle.splitters.proofs.refining.note_fresh.Given as goal

abbrev pub invariant-loop-j : goal.invariant-loop-j
invariant-loop-j l =
    SetsOf (Member l.members) l.first l.j l.fresh × SetsOf
    (λ k. Member l.members (get_or l.origin k 0)) l.first l.j l.rest
    × SetsKept l.first l.initial.fresh l.fresh
