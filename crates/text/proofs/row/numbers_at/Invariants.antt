-- `numbers_at` reads one column a turn, from where the one before it ended.
use Rattle.text.specs.Inner.Columns.{ColumnsTo}
use Rattle.text.proofs.row.numbers_at.Given as goal

abbrev pub invariant-loop-column : goal.invariant-loop-column
invariant-loop-column l = ColumnsTo l.row l.text l.at l.scan.outside l.out l.column l.scan.end
