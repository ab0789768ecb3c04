-- `scan_row` goes on to the numbers where the row begins well.
use Rattle.std.proofs.Common.{sym, subst}
use Rattle.text.specs.Inner.Row.{RowBegins, RowScanned}
use Rattle.text.specs.Laws.RowFieldsLaws.{row_other}
use Rattle.text.specs.Laws.ColumnsLaws.{columns_begin}
use Rattle.text.proofs.row.scan_row.Goals as goal

pub returns-then-not-begins : goal.returns-then-not-begins
unfolding RowScanned
returns-then-not-begins c =
    row_other _ _ _ (λ x. c.if-not-begins.ensures (subst (λ l. RowBegins l c.args.text.now c.args.at)
    (sym c.letter_of.ensures) x))

pub numbers_at-requires : goal.numbers_at-requires
numbers_at-requires c =
    columns_begin _ _ _ _
    (subst (λ l. RowBegins l c.args.text.now c.args.at) c.letter_of.ensures c.if-not-begins.ensures)
    c.requires.1 c.requires.2
