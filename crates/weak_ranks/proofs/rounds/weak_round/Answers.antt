-- The classes are refined, and the rows of the states that changed are written.
use Rattle.std.proofs.Common.{arith}
use Rattle.ranking.specs.Laws.ClassListLaws.{changed-count_le}
use Rattle.ranking.specs.Laws.RoundsLaws.{round_classes, round_ranks}
use Rattle.ranking.specs.Laws.TableWritesLaws.{round_written_of_rows}
use Rattle.silent.specs.Laws.LabelledLaws.{label_move_target_lt}
use Rattle.weak_ranks.specs.Laws.RoundLaws.{leads_separate}
use Rattle.weak_ranks.proofs.rounds.weak_round.Goals as goal

pub write_rows-requires-clause-n_le_state_limit : goal.write_rows-requires-clause-n_le_state_limit
write_rows-requires-clause-n_le_state_limit c =
    let limit = c.args.steps.listed.states_le in (
      limit,
      omega (arith, limit, changed-count_le c.list_changed-changed.ensures),
      c.list_changed-changed.ensures.listed_lt,
    )

pub returns-clause-lead_classes : goal.returns-clause-lead_classes
returns-clause-lead_classes c =
    let L = c.args.steps.listed in (
      c.refine_by_keys.ensures.lead_classes_2,
      round_classes (λ p a q _ m. label_move_target_lt L m) c.requires.k_lt_n.2 c.refine_by_keys.ensures.refined,
    )

pub returns-clause-ranks_up_to_2 : goal.returns-clause-ranks_up_to_2
returns-clause-ranks_up_to_2 c =
    let L = c.args.steps.listed in
    round_ranks (λ p a q _ m. label_move_target_lt L m) c.requires.k_lt_n.2 c.refine_by_keys.ensures.refined
    (round_written_of_rows c.list_changed-changed.ensures c.write_rows.ensures.written
    c.write_rows.ensures.rows_written) c.requires.ranks_up_to

pub returns-clause-round_separates : goal.returns-clause-round_separates
returns-clause-round_separates c =
    let L = c.args.steps.listed in
    leads_separate (λ p a q _ m. label_move_target_lt L m) c.requires.k_lt_n.2 c.refine_by_keys.ensures.refined
    c.requires.k_lt_n.1 c.refine_by_keys.ensures.lead_classes_2 c.list_changed-changed.ensures
