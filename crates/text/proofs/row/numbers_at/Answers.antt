-- `numbers_at` reads one column a turn, from where the one before it ended.
use Rattle.std.proofs.Common.{◌≡◌, ◌∙◌, subst, ℕ, ◌-◌, arith}
use Rattle.text.specs.Inner.Row.{RowTo, RowScanned}
use Rattle.text.specs.Inner.Columns.{columns, first_column, numbers_in}
use Rattle.text.proofs.row.numbers_at.Goals as goal

pub returns-in_err-scan : goal.returns-in_err-scan
unfolding RowScanned
returns-in_err-scan c = rw c.from_residual.ensures c.in_err-scan.ensures

pub loop-column-preserved : goal.loop-column-preserved
unfolding RowScanned
loop-column-preserved c = record {
  width = c.next_number.auto.out ∙ c.loop-column.invariant.width;
  row_to = c.in_ok-scan.ensures;
}

pub returns : goal.returns
unfolding RowScanned
returns c =
    let all : c.loop-column.column ≡ columns = omega arith in
    subst (λ (k : ℕ). RowTo c.args.row c.args.text.now c.args.at c.loop-column.scan.outside
    (numbers_in c.args.row c.loop-column.out) (k - first_column c.args.row) c.loop-column.scan.end)
    all c.loop-column.invariant.row_to
