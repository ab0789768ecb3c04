-- `start_bounds` gives the one element of `start_bounds`.
use Rattle.text.specs.Lines.{start_bounds}
use Rattle.text.proofs.row.start_bounds.Goals as goal

pub returns : goal.returns
unfolding start_bounds
returns c = c.below.ensures
