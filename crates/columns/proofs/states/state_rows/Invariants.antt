-- The names of the first j steps are filled in behind the columns, whatever those are; at the end these are all names,
-- and the last line is ended. Assumes nothing.
use Rattle.std.proofs.Common.{◌≡◌, length}
use Rattle.model.specs.StoredModel.{model_at}
use Rattle.columns.specs.Inner.Filling.{low_names_to, NamesFilled}
use Rattle.columns.proofs.states.state_rows.Given as goal

abbrev pub invariant-loop-j : goal.invariant-loop-j
invariant-loop-j l =
    (length l.out ≡ length l.initial.out)
    × NamesFilled (low_names_to (model_at l.store) l.of l.j) l.initial.out l.initial.row l.out l.row
