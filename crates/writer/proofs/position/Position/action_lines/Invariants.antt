-- Behind the loop stand the lines of the first i actions, and each round writes one more. Assumes nothing.
use Rattle.std.proofs.Common.{◌≡◌, length}
use Rattle.model.specs.StoredModel.{listed, action_at}
use Rattle.model.specs.Text.{actions_text}
use Rattle.writer.specs.Wrote.{Wrote}
use Rattle.writer.proofs.position.Position.action_lines.Given as goal

abbrev pub invariant-loop-i : goal.invariant-loop-i
invariant-loop-i l =
    (length l.out ≡ length l.initial.out) × Wrote l.initial.out l.initial.at.at
    (actions_text (listed l.i (action_at l.store))) l.out l.at.at
