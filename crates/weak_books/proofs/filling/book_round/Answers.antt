-- The entries are those of the pairs that the round separates: such states do not answer each other inside the classes
-- before it.
-- ---- places of the function
use Rattle.std.proofs.Common.{arith}
use Rattle.held.specs.Laws.ListedLaws.{held_list}
use Rattle.weak_books.specs.Laws.BookedLaws.{class_sets_of_partition, separated_not_answers}
use Rattle.weak_books.specs.Laws.BookedLaws.{round_entered_more, round_entered_stays}
use Rattle.weak_books.proofs.filling.book_round.Goals as goal

pub round-requires : goal.round-requires
round-requires c = record { into = c.requires.into; k_lt_classes = c.requires.k_lt_classes }

pub returns-then-not-round : goal.returns-then-not-round
returns-then-not-round c =
    let round = c.round.ensures in
    record {
      states = round.states;
      rounded = round.rounded;
      counted = rw c.if-not-round.true at round.counted;
      round_entered = round_entered_stays (round.counted.none c.if-not-round.true).0;
    }

pub enter_round-requires : goal.enter_round-requires
enter_round-requires c =
    let limit = (held_list c.args.moves).states_le in
    let old = c.requires.k_lt_classes.2.partition in
    record {
      book_length_in_bounds = c.requires.book_length_in_bounds;
      class_sets = (
        class_sets_of_partition limit old,
        class_sets_of_partition limit
            c.round.ensures.rounded.ready.partition,
      );
      by_index = (old.together_lt, old.together_all);
      by_index_2 = separated_not_answers c.round.ensures.rounded.refined;
    }

pub returns : goal.returns
returns c =
    let round = c.round.ensures in
    let more = round.counted.more c.if-not-round.false in
    record {
      states = round.states;
      rounded = round.rounded;
      counted = rw c.if-not-round.false at round.counted;
      round_entered = round_entered_more more.1 (λ e. omega (arith, e, more.0)) c.enter_round.ensures;
    }
