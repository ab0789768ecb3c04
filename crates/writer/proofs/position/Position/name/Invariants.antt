-- Behind the loop stand the bytes of the name before the index, and each round writes one more. Assumes nothing.
use Rattle.std.proofs.Common.{◌≡◌, length, take}
use Rattle.writer.specs.Wrote.{Wrote}
use Rattle.writer.proofs.position.Position.name.Given as goal

abbrev pub invariant-loop-b : goal.invariant-loop-b
invariant-loop-b l =
    (length l.out ≡ length l.initial.out)
    × Wrote l.initial.out l.initial.at.at (take l.b-index l.name) l.out l.at.at
