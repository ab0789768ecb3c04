-- `start_fits` makes the one test of `start_fits?`.
use Rattle.std.proofs.Common.{sym}
use Rattle.text.specs.Lines.{start_bounds, start_fits?}
use Rattle.text.specs.Laws.RangesLaws.{fits_last}
use Rattle.text.proofs.row.start_fits.Goals as goal

pub returns : goal.returns
unfolding start_fits? start_bounds
returns c = rw (← c.from.ensures) (sym (fits_last _ c.start_bounds.ensures c.within.ensures))
