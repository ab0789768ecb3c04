-- The sets below p have their own class alone.
use Rattle.silent.specs.Inner.Keys.{OwnClasses}
use Rattle.silent.proofs.keys.own_classes.Given as goal

abbrev pub invariant-loop-p : goal.invariant-loop-p
invariant-loop-p l = OwnClasses l.p l.class l.sets
