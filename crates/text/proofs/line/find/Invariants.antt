-- `find` passes bytes of other kinds: the first of the kind among those left is the first of all.
use Rattle.std.proofs.Common.{◌≡◌, ◌+◌, drop}
use Rattle.text.specs.Split.{index_of}
use Rattle.text.proofs.line.find.Given as goal

abbrev pub invariant-loop-i : goal.invariant-loop-i
invariant-loop-i l = l.i + index_of l.k (drop l.i l.s) ≡ l.from + index_of l.k (drop l.from l.s)
