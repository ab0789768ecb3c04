-- The role tells whether the step is low; a low one comes into two sets.
use Rattle.std.proofs.Common.{sym, arith}
use Rattle.text.specs.Laws.DecidesLaws.{decides_true, decides_false}
use Rattle.model.specs.Inner.ModelOf.{model_of}
use Rattle.moves.specs.Inner.Holding.{LowAt}
use Rattle.moves.specs.Laws.HoldingLaws.{low_at_states, low_held_skip, low_held_more}
use Rattle.moves.proofs.steps.hold_step.Goals as goal

pub returns-then-not-is_low-clause-low_held_2 : goal.returns-then-not-is_low-clause-low_held_2
returns-then-not-is_low-clause-low_held_2 c =
    low_held_skip (rw c.action-a.ensures at (decides_false _ _ c.is_low.ensures c.if-not-is_low.true))
    c.requires.low_held

pub returns-clause-low_held_2 : goal.returns-clause-low_held_2
returns-clause-low_held_2 c =
    let m = model_of c.args.store.store in
    let F = c.args.store.store.stored in
    let l = c.requires.j_in_bounds.0 in
    let low : LowAt m c.action-a.result.0 c.args.j.0 c.source-p.result.0 c.target-q.result.0 = record {
      low_as = record {
        is_low = decides_true _ _ c.is_low.ensures c.if-not-is_low.false;
        action_is = sym c.action-a.ensures;
        target_is = sym c.target-q.ensures;
      };
      source_is = sym c.source-p.ensures;
    } in
    let states = low_at_states F l low in
    low_held_more low (omega (arith, c.action-a.ensures, F.action_lt _ l, F.actions_le)) states.0 states.1
    c.requires.low_held c.target_row-row.ensures.0 c.add_held-next.ensures.member_added c.add_held.ensures.member_added
