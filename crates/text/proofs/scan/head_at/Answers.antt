-- `head_at` has line 1 from its row.
use Rattle.std.proofs.lemmas.Result.{err_from_is_err_and}
use Rattle.text.specs.Lines.{row_count}
use Rattle.text.specs.Inner.Row.{RowAt}
use Rattle.text.specs.Inner.Scan.{HeadAt}
use Rattle.text.specs.Laws.LinesLaws.{head_of_bad, head_of_good}
use Rattle.text.specs.Laws.ScanLaws.{line_at_map, refused_map}
use Rattle.std.proofs.Common.{rules}
use Rattle.text.proofs.scan.head_at.Goals as goal

pub row_at-requires : goal.row_at-requires
unfolding row_count
row_at-requires c = search rules

pub returns-in_err-row_at : goal.returns-in_err-row_at
unfolding HeadAt RowAt
returns-in_err-row_at c =
    let p = err_from_is_err_and c.from_residual.result c.from_residual.ensures.1 in
    rw (p.1, p.2) (refused_map head_of_bad c.in_err-row_at.ensures)

pub returns : goal.returns
unfolding HeadAt RowAt row_count
returns c = (_, line_at_map head_of_good c.in_ok-row_at.ensures)
