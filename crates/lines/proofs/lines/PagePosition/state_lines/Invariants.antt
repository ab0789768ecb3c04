-- Behind the loop stand the lines of the states below p, and each round writes one more. Assumes nothing.
use Rattle.std.proofs.Common.{◌≡◌, length}
use Rattle.model.specs.StoredModel.{model_at}
use Rattle.lines.specs.Page.{StateLines}
use Rattle.lines.specs.Inner.LinesWritten.{LinesWritten}
use Rattle.lines.specs.Inner.Room.{states_room}
use Rattle.lines.proofs.lines.PagePosition.state_lines.Given as goal

abbrev pub invariant-loop-p : goal.invariant-loop-p
invariant-loop-p l =
    (length l.out ≡ length l.initial.out)
    × LinesWritten l.form (model_at l.store) (StateLines (model_at l.store) l.p)
    (states_room l.form (model_at l.store) l.p) l.initial.out
    l.initial.page.at.at l.out l.page.at.at
