-- Behind the loop stand the lines of the first i steps, and each round writes one more. Assumes nothing.
use Rattle.std.proofs.Common.{◌≡◌, length}
use Rattle.model.specs.StoredModel.{listed, step_at}
use Rattle.model.specs.Text.{steps_text}
use Rattle.writer.specs.Wrote.{Wrote}
use Rattle.writer.proofs.position.Position.step_lines.Given as goal

abbrev pub invariant-loop-j : goal.invariant-loop-j
invariant-loop-j l =
    (length l.out ≡ length l.initial.out) × Wrote l.initial.out l.initial.at.at
    (steps_text (listed l.j (step_at l.store))) l.out l.at.at
