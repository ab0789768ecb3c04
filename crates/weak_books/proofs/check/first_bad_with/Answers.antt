-- No entry before the limit has an action that is not noted; the sets are the targets under the action.
use Rattle.weak_books.specs.Laws.TestedLaws.{first_under_of_targets}
use Rattle.weak_books.specs.Laws.NotedLaws.{first_under_unused}
use Rattle.weak_books.proofs.check.first_bad_with.Goals as goal

pub returns-then-used-a-eq0 : goal.returns-then-used-a-eq0
returns-then-used-a-eq0 c = first_under_unused c.requires.a_lt_action_limit.1 c.if-used-a-eq0.true

pub low_targets-requires : goal.low_targets-requires
low_targets-requires c =
    record {
      own_numbers = c.requires.own_numbers;
      a_lt_action_limit = c.requires.a_lt_action_limit.0;
      targets = c.requires.targets;
    }

pub returns : goal.returns
returns c =
    let a = c.args in
    first_under_of_targets c.low_targets.ensures a.book.now c.first_bad_under.ensures
