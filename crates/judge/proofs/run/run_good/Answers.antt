-- The state's number is tested first; then the distances say whether it is reachable.
use mathlib.Core.Path.{◌∙◌}
use native.Mathlib.Omega.{arith}
use Rattle.text.specs.Laws.DecidesLaws.{decides_true, decides_false}
use Rattle.model.specs.Laws.System.StoredLaws.{stored_states}
use Rattle.distances.specs.Laws.DistancesLaws.{list_reachable}
use Rattle.judge.proofs.RunAnswers.{no_state_done, unreachable_done, filled_done}
use Rattle.judge.proofs.run.run_good.Goals as goal

pub returns-then-states-p : goal.returns-then-states-p
returns-then-states-p c =
    let e = c.states.ensures ∙ stored_states c.requires.stored in
    no_state_done c.requires.stored c.args.p _ _ (omega (arith, e, c.if-states-p.true))

pub is_unreachable-requires : goal.is_unreachable-requires
is_unreachable-requires c =
    let e = c.states.ensures ∙ stored_states c.requires.stored in
    let n = c.fill_distances.ensures.past.same_length in (
      omega (arith, e, c.if-states-p.false, c.requires.stored.states_le),
      omega
          (arith, n, c.requires.distances_length_in_bounds),
    )

pub returns-then-is_unreachable : goal.returns-then-is_unreachable
returns-then-is_unreachable c =
    let e = c.states.ensures ∙ stored_states c.requires.stored in
    unreachable_done c.requires.stored c.args.p _ (omega (arith, e, c.if-states-p.false))
    c.fill_distances.ensures (decides_true _ _ c.is_unreachable.ensures c.if-is_unreachable.true)

pub fill_run-requires : goal.fill_run-requires
fill_run-requires c =
    let e = c.states.ensures ∙ stored_states c.requires.stored in
    let has-distance = decides_false _ _ c.is_unreachable.ensures c.if-is_unreachable.false in
    let r = list_reachable c.requires.stored c.fill_distances.ensures.list (omega (arith, e, c.if-states-p.false))
    has-distance in
    record {
      distances_length_in_bounds = (
        omega (
          arith,
          c.fill_distances.ensures.past.same_length,
          c.requires.distances_length_in_bounds,
        ),
        c.fill_distances.ensures.list,
      );
      reachable_in = (r, c.requires.distances_length_in_bounds.1);
    }

pub returns : goal.returns
returns c =
    let e = c.states.ensures ∙ stored_states c.requires.stored in
    filled_done c.requires.stored c.args.p (omega (arith, e, c.if-states-p.false))
    c.fill_distances.ensures
    (decides_false _ _ c.is_unreachable.ensures c.if-is_unreachable.false)
    c.fill_run.ensures
