-- Behind the loop stand the lines of the steps before the index, and each round writes one more; a run's lines are the
-- same for all models. Assumes nothing.
use Rattle.std.proofs.Common.{◌≡◌, ◌*◌, map, length, take}
use Rattle.text.specs.Model.{Model}
use Rattle.lines.specs.PageLines.{run_line}
use Rattle.lines.specs.Inner.LinesWritten.{LinesWritten}
use Rattle.lines.specs.Inner.Room.{run_width, line_room}
use Rattle.lines.proofs.lines.PagePosition.run_lines.Given as goal

abbrev pub invariant-loop-j : goal.invariant-loop-j
invariant-loop-j l =
    (length l.out ≡ length l.initial.out)
    × ((m : Model)
    → LinesWritten l.form m (◌≡◌ (map run_line (take l.j-index l.run))) (line_room l.form run_width * l.j-index)
    l.initial.out l.initial.page.at.at l.out l.page.at.at)
