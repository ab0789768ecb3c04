-- Behind the loop stand the lines of the letters before the index, and each round writes one more. Assumes nothing.
use Rattle.std.proofs.Common.{map, ◌≡◌, ◌*◌, length, take}
use Rattle.model.specs.StoredModel.{model_at}
use Rattle.lines.specs.Page.{name_line}
use Rattle.lines.specs.Inner.LinesWritten.{LinesWritten}
use Rattle.lines.specs.Inner.Room.{name_width, line_room}
use Rattle.lines.proofs.lines.PagePosition.word_lines.Given as goal

abbrev pub invariant-loop-a : goal.invariant-loop-a
invariant-loop-a l =
    (length l.out ≡ length l.initial.out)
    × LinesWritten l.form (model_at l.store) (◌≡◌ (map (name_line (model_at l.store)) (take l.a-index l.word)))
    (line_room l.form name_width * l.a-index) l.initial.out l.initial.page.at.at l.out l.page.at.at
