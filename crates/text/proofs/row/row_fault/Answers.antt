-- `row_fault` tests the faults that come before that of the numbers: no line end, then other fields.
use Rattle.std.proofs.Common.{arith, ◌-◌, ◌<◌, length, take, drop}
use Rattle.text.specs.Bytes.{line_end}
use Rattle.text.specs.Lines.{row_letter, row_count}
use Rattle.text.specs.Inner.PartAnswers.{Fields}
use Rattle.text.specs.Laws.SplitLaws.{found_le}
use Rattle.text.specs.Laws.RowLaws.{row_count_pos}
use Rattle.text.specs.Laws.RowAtLaws.{fields_row, refused_absent, refused_shape, refused_digits}
use Rattle.text.proofs.row.row_fault.Goals as goal
use Rattle.text.proofs.row.row_fault.Goals.{After-fields}

-- the line has an end
inside : (c : After-fields) → c.find-e.result < length c.args.text.now
inside c =
    let n = found_le line_end _ _ _ c.requires.0 c.find-e.ensures in
    omega arith

-- whether it has the row's fields
tested : (c : After-fields) → let a = c.args in
    Fields (row_letter a.row) (row_count a.row) (take (c.find-e.result - a.at) (drop a.at a.text.now))
    c.fields.result
tested c =
    fields_row c.args.row c.args.text.now c.args.at c.letter_of.ensures c.count_of.ensures
    c.fields.ensures

pub returns-then-e-text : goal.returns-then-e-text
returns-then-e-text c = refused_absent _ _ _ _ c.find-e.ensures (omega arith)

pub slice_bounds-fields-end : goal.slice_bounds-fields-end
slice_bounds-fields-end c =
    omega (arith, found_le line_end _ _ _ c.requires.0 c.find-e.ensures)

pub fields-requires : goal.fields-requires
fields-requires c = omega (arith, c.count_of.ensures, row_count_pos c.args.row)

pub returns-then-not-fields : goal.returns-then-not-fields
returns-then-not-fields c =
    let t = (goal.at.returns-then-not-fields c).After-fields in
    refused_shape _ _ _ _ c.find-e.ensures (inside t) ((tested t).no_fields c.if-not-fields.true)

pub returns-else-not-fields : goal.returns-else-not-fields
returns-else-not-fields c =
    let t = (goal.at.returns-else-not-fields c).After-fields in
    refused_digits _ _ _ _ c.find-e.ensures (inside t) c.requires.1 _ ((tested t).yes_fields c.if-not-fields.false)
