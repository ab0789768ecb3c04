-- The states below p have their own numbers, and nothing has changed behind all of them.
use Rattle.text.specs.Lists.{Past}
use Rattle.silent.specs.Inner.Targets.{OwnNumbers}
use Rattle.silent.proofs.targets.own_numbers.Given as goal

abbrev pub invariant-loop-p : goal.invariant-loop-p
invariant-loop-p l = Past l.n l.initial.class l.class × OwnNumbers l.p l.class
