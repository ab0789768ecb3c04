-- An action without steps has no moves; with the targets of another one, the first openings are found.
use Rattle.std.proofs.Common.{arith}
use Rattle.silent.specs.Laws.LabelledLaws.{label_move_none}
use Rattle.weak_books.specs.Laws.OpenedLaws.{only_at_refl, only_at_of_label, opened_to_none, opened_to_suc}
use Rattle.weak_books.proofs.book.open_action.Goals as goal

pub returns-then-steps-of : goal.returns-then-steps-of
returns-then-steps-of c =
    record {
      opened_to_2 = opened_to_none (label_move_none c.requires.a_lt_action_limit.0 (omega (arith, c.if-steps-of.true)))
          c.requires.opened_to;
      only_at = only_at_refl _;
    }

pub low_targets-requires : goal.low_targets-requires
low_targets-requires c =
    record {
      own_numbers = c.requires.own_numbers;
      a_lt_action_limit = c.requires.a_lt_action_limit.0;
      targets = c.requires.targets;
    }

pub open_rows-requires : goal.open_rows-requires
open_rows-requires c =
    record {
      n_le_state_limit = (c.args.steps.listed.states_le, c.requires.a_lt_action_limit.1);
      irreflexive = c.requires.irreflexive;
    }

pub returns : goal.returns
returns c =
    record {
      opened_to_2 = opened_to_suc c.args.steps.listed.states_le c.low_targets.ensures c.requires.opened_to
          c.open_rows.ensures;
      only_at = only_at_of_label c.open_rows.ensures;
    }
