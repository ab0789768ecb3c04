-- The test decides which of the two fields it is. Assumes nothing.
use Rattle.std.proofs.Common.{arith}
use Rattle.text.specs.Laws.DecidesLaws.{decides_true, decides_false}
use Rattle.columns.specs.StateRows.{distance_text}
use Rattle.columns.specs.Laws.DistanceOfLaws.{distance_of_unreachable, distance_of_reachable}
use Rattle.columns.proofs.line.RollLine.distance.Goals as goal

pub returns-then-is_unreachable : goal.returns-then-is_unreachable
unfolding distance_text
returns-then-is_unreachable c =
    let e = distance_of_unreachable c.args.distances.now c.args.p.0
    (decides_true c.is_unreachable.result _ c.is_unreachable.ensures c.if-is_unreachable.true) in
    (rw e c.dash.ensures.0, c.dash.ensures.1)

pub number-requires : goal.number-requires
number-requires c =
    let l = c.requires.distance_fits.distance_lt (decides_false c.is_unreachable.result _ c.is_unreachable.ensures
    c.if-is_unreachable.false) in
    (omega (arith, l, c.distance_at.ensures), c.requires.number_width_in_bounds)

pub returns-else-is_unreachable : goal.returns-else-is_unreachable
unfolding distance_text
returns-else-is_unreachable c =
    let e = distance_of_reachable c.args.distances.now c.args.p.0
    (decides_false c.is_unreachable.result _ c.is_unreachable.ensures c.if-is_unreachable.false) in
    (rw e (rw c.distance_at.ensures at c.number.ensures.0), c.number.ensures.1)
