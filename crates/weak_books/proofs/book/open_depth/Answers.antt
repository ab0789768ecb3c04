-- First the actions and then the silent label, so that all labels are done; then the states of this rank are lower.
use Rattle.std.proofs.Common.{arith}
use Rattle.silent.specs.Laws.LabelledLaws.{label_move_target_lt, label_move_between}
use Rattle.weak_books.specs.Laws.RankedLaws.{lower_sets_suc, lower_sets_apart}
use Rattle.weak_books.specs.Laws.OpenedLaws.{only_at_trans, only_at_of_label, opened_to_skip, opened_to_suc}
use Rattle.weak_books.specs.Laws.DepthLaws.{opened_to_zero, opened_before_suc}
use Rattle.weak_books.proofs.book.open_depth.Goals as goal

pub open_actions-requires : goal.open_actions-requires
open_actions-requires c =
    record {
      own_numbers = c.requires.own_numbers;
      targets = c.requires.targets;
      irreflexive = lower_sets_apart c.requires.ranks.0 c.requires.lower_sets;
      book_length_in_bounds = c.requires.depth_nonzero.1;
      opened_to = opened_to_zero c.args.steps.listed.states_le c.sets_at_rank.ensures c.requires.opened_before;
    }

pub open_rows-requires : goal.open_rows-requires
open_rows-requires c =
    record {
      n_le_state_limit = (
        c.args.steps.listed.states_le,
        omega
            (arith, c.open_actions.ensures.only_at.past.same_length, c.requires.depth_nonzero.1),
      );
      irreflexive = lower_sets_apart c.requires.ranks.0 c.requires.lower_sets;
    }

pub returns : goal.returns
returns c =
    let L = c.args.steps.listed in
    let lower = c.requires.lower_sets in
    let done = opened_to_suc L.states_le c.requires.targets (opened_to_skip (label_move_between L)
    c.open_actions.ensures.opened_to_2) c.open_rows.ensures in
    let kept = only_at_trans c.open_actions.ensures.only_at (only_at_of_label c.open_rows.ensures) in record {
      lower_sets_2 = lower_sets_suc c.requires.depth_nonzero.0 lower c.sets_at_rank.ensures c.join_each.ensures;
      opened_before_2 = opened_before_suc L.states_le (λ p a q m. label_move_target_lt L m) c.requires.ranks.0
          c.requires.depth_nonzero.0 lower c.sets_at_rank.ensures
          c.requires.opened_before done kept;
      past = kept.past;
    }
