-- Behind the loop stand the lines of the first i extra starts, and each round writes one more. Assumes nothing.
use Rattle.std.proofs.Common.{◌≡◌, length}
use Rattle.model.specs.StoredModel.{listed, extra_start_at}
use Rattle.model.specs.Text.{starts_text}
use Rattle.writer.specs.Wrote.{Wrote}
use Rattle.writer.proofs.position.Position.start_lines.Given as goal

abbrev pub invariant-loop-i : goal.invariant-loop-i
invariant-loop-i l =
    (length l.out ≡ length l.initial.out) × Wrote l.initial.out l.initial.at.at
    (starts_text (listed l.i (extra_start_at l.store))) l.out l.at.at
