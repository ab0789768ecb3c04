-- Each column goes on from where the last one ended. Assumes nothing.
use Rattle.std.proofs.Common.{◌∙◌, arith}
use Rattle.writer.specs.Laws.WroteLaws.{wrote-append, wrote-length}
use Rattle.columns.specs.StateRows.{state_columns}
use Rattle.columns.specs.Laws.ColumnsLaws.{columns_short, column_place}
use Rattle.columns.proofs.line.RollLine.columns.Goals as goal

pub blanks-requires : goal.blanks-requires
blanks-requires c =
    let short = columns_short c.requires.distance_fits c.requires.class_le_p.0 in
    let w = c.number.ensures.0 in
    omega (arith, c.requires.class_le_p.1, column_place _ w short.state_le, wrote-length w)

pub distance-requires : goal.distance-requires
distance-requires c =
    let short = columns_short c.requires.distance_fits c.requires.class_le_p.0 in
    let w = c.number.ensures.0 in
    let x = c.blanks.ensures.0 in
    let same = wrote-length (wrote-append w x) in
    record {
      distance_fits = c.requires.distance_fits;
      number_width_in_bounds = omega (arith, c.requires.class_le_p.1, column_place _ w short.state_le, x.place, same);
    }

pub blanks-requires-2 : goal.blanks-requires-2
blanks-requires-2 c =
    let short = columns_short c.requires.distance_fits c.requires.class_le_p.0 in
    let w = c.number.ensures.0 in
    let x = c.blanks.ensures.0 in
    let y = c.distance.ensures.0 in
    omega (
      arith,
      c.requires.class_le_p.1,
      column_place _ w short.state_le,
      x.place,
      column_place _ y short.distance_le,
      wrote-length (wrote-append (wrote-append w x) y),
    )

pub number-requires-2 : goal.number-requires-2
number-requires-2 c =
    let short = columns_short c.requires.distance_fits c.requires.class_le_p.0 in
    let w = c.number.ensures.0 in
    let x = c.blanks.ensures.0 in
    let y = c.distance.ensures.0 in
    let z = c.blanks-2.ensures.0 in (
      omega (arith, c.requires.distance_fits.state_lt, c.requires.class_le_p.0),
      omega (
        arith,
        c.requires.class_le_p.1,
        column_place _ w short.state_le,
        x.place,
        column_place _ y short.distance_le,
        z.place,
        wrote-length (wrote-append (wrote-append (wrote-append w x) y) z),
      ),
    )

pub returns : goal.returns
unfolding state_columns
returns c = (
  wrote-append
      (wrote-append
      (wrote-append (wrote-append c.number.ensures.0 c.blanks.ensures.0)
      c.distance.ensures.0)
      c.blanks-2.ensures.0)
      c.number-2.ensures.0,
  c.number-2.ensures.1 ∙ c.blanks-2.ensures.1 ∙ c.distance.ensures.1
      ∙ c.blanks.ensures.1
      ∙ c.number.ensures.1,
)
