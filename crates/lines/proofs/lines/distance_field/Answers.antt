-- The test decides which of the two fields it is. Assumes nothing.
use Rattle.std.proofs.Common.{arith}
use Rattle.text.specs.Laws.DecidesLaws.{decides_true, decides_false}
use Rattle.lines.specs.PageLines.{distance_text}
use Rattle.columns.specs.Laws.DistanceOfLaws.{distance_of_unreachable, distance_of_reachable}
use Rattle.lines.proofs.lines.distance_field.Goals as goal

pub text-requires : goal.text-requires
unfolding distance_text
text-requires c =
    let e = distance_of_unreachable c.args.distances.now c.args.p.0
    (decides_true c.is_unreachable.result _ c.is_unreachable.ensures c.if-is_unreachable.true) in
    omega (arith, rw e at c.requires.p_in_bounds)

pub returns-then-is_unreachable : goal.returns-then-is_unreachable
unfolding distance_text
returns-then-is_unreachable c =
    let e = distance_of_unreachable c.args.distances.now c.args.p.0
    (decides_true c.is_unreachable.result _ c.is_unreachable.ensures c.if-is_unreachable.true) in
    rw e c.text.ensures

pub field-requires : goal.field-requires
unfolding distance_text
field-requires c =
    let e = distance_of_reachable c.args.distances.now c.args.p.0
    (decides_false c.is_unreachable.result _ c.is_unreachable.ensures c.if-is_unreachable.false) in
    rw c.distance_at.ensures (rw e at c.requires.p_in_bounds)

pub returns-else-is_unreachable : goal.returns-else-is_unreachable
unfolding distance_text
returns-else-is_unreachable c =
    let e = distance_of_reachable c.args.distances.now c.args.p.0
    (decides_false c.is_unreachable.result _ c.is_unreachable.ensures c.if-is_unreachable.false) in
    rw e (rw c.distance_at.ensures at c.field.ensures)
