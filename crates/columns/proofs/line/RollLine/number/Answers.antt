-- The blanks make up for the digits that are fewer than three. Assumes nothing.
use Rattle.std.proofs.Common.{◌-◌, arith, lit<}
use lib.ListN.{length-replicate}
use Rattle.text.specs.Bytes.{byte_blank}
use Rattle.text.specs.Laws.DigitsLaws.{digits-length_le}
use Rattle.writer.specs.Laws.WroteLaws.{wrote-append, wrote-length}
use Rattle.columns.specs.Rows.{flush_right}
use Rattle.columns.specs.StateRows.{number_width}
use Rattle.columns.proofs.line.RollLine.number.Goals as goal

pub overflow_sub-digit_count : goal.overflow_sub-digit_count
overflow_sub-digit_count c =
    let l = digits-length_le number_width c.args.n c.requires.0 (lit< tt) (omega arith) in
    omega (arith, c.digit_count.ensures, l)

pub number-requires : goal.number-requires
number-requires c =
    let w = c.blanks-row.ensures.0 in
    let l = digits-length_le number_width c.args.n c.requires.0 (lit< tt) (omega arith) in
    omega (
      arith,
      c.requires.1,
      l,
      c.digit_count.ensures,
      w.place,
      wrote-length w,
      length-replicate (number_width - c.digit_count.result) byte_blank,
    )

pub returns : goal.returns
unfolding flush_right
returns c = (
  rw c.digit_count.ensures at
      (wrote-append c.blanks-row.ensures.0 c.number.ensures),
  c.blanks-row.ensures.1,
)
