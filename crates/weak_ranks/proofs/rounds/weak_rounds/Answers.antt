-- After k rounds the classes are those of k-alike states and the table has what these rounds found; each of them
-- separated a pair, so there are fewer than states.
use Rattle.std.proofs.Common.{refl, ◌<◌, arith}
use Rattle.lts.proofs.ClassesLaws.{rounds_lt}
use Rattle.text.specs.Limits.{state_limit}
use Rattle.text.specs.Laws.ListLaws.{get_or-zeros}
use Rattle.silent.specs.Steps.{label_moves}
use Rattle.silent.specs.Laws.LabelledLaws.{label_move_game}
use Rattle.ranking.specs.Laws.ClassListLaws.{classes-zero}
use Rattle.ranking.specs.Laws.TableWritesLaws.{outside_refl}
use Rattle.weak_ranks.specs.Laws.RoundLaws.{lead_classes-zero}
use Rattle.weak_ranks.proofs.rounds.weak_rounds.Goals as goal
use Rattle.weak_ranks.proofs.rounds.weak_rounds.Goals.{At-loop-class}

-- There are fewer rounds than states.
few : (c : At-loop-class) → c.loop-class.k < c.args.steps.n
few c =
    let a = c.args in
    let L = c.args.steps.listed in
    rounds_lt (label_moves a.steps) a.steps.n _ (label_move_game L)
    L.some_state c.loop-class.k c.loop-class.invariant.separates

pub loop-class-init : goal.loop-class-init
loop-class-init c = record {
  leads = lead_classes-zero (get_or-zeros state_limit);
  are_classes = classes-zero (get_or-zeros state_limit);
  ranks = c.requires.ranks_up_to;
  separates = λ j l. absurd (omega arith);
  outside = outside_refl _;
  table_length_is = refl;
}

pub weak_round-changed-requires-clause-k_lt_n : goal.weak_round-changed-requires-clause-k_lt_n
weak_round-changed-requires-clause-k_lt_n c =
    let inv = c.loop-class.invariant in
    (few (goal.at.weak_round-changed-requires-clause-k_lt_n c).At-loop-class, inv.leads, inv.are_classes)

pub overflow_add-k : goal.overflow_add-k
overflow_add-k c =
    omega (arith, few (goal.at.overflow_add-k c).At-loop-class, c.args.steps.listed.states_le)

pub loop-class-smaller : goal.loop-class-smaller
loop-class-smaller c = omega (arith, few (goal.at.loop-class-smaller c).At-loop-class)
