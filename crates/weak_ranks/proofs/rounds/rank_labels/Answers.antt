-- The cleared table is right for round 0, and what the rounds leave keeps the promise.
use Rattle.std.proofs.Common.{◌∙◌, arith}
use Rattle.text.specs.Limits.{pair_place}
use Rattle.silent.specs.Laws.LabelledLaws.{label_move_game}
use Rattle.ranking.specs.Laws.RoundsLaws.{ranks_up_to-zero, ranked_of_finished}
use Rattle.weak_ranks.proofs.rounds.rank_labels.Goals as goal

pub weak_rounds-requires-clause-ranks_up_to : goal.weak_rounds-requires-clause-ranks_up_to
weak_rounds-requires-clause-ranks_up_to c =
    ranks_up_to-zero _
    (λ p q lp lq. c.clear.ensures.given (pair_place p q) (omega (arith, lp, lq, c.args.steps.listed.states_le)))

pub returns : goal.returns
returns c =
    let same = c.weak_rounds.auto.table ∙ c.clear.auto.list in
    ranked_of_finished (label_move_game c.args.steps.listed) c.args.steps.listed.some_state
    c.args.steps.listed.states_le c.clear.ensures
    c.weak_rounds.ensures same
