-- Entry k is the first bad one with an action below a.
use Rattle.std.proofs.Common.{arith}
use Rattle.weak_books.specs.Laws.TestedLaws.{first_below-zero, first_below_add_one, first_below_at}
use Rattle.weak_books.specs.Laws.NotedLaws.{used_to_le}
use Rattle.weak_books.proofs.check.first_bad_low.Goals as goal

pub loop-a-init : goal.loop-a-init
loop-a-init c = (omega arith, first_below-zero)

pub first_bad_with-k-requires : goal.first_bad_with-k-requires
first_bad_with-k-requires c =
    let le = c.loop-a.invariant.1.number_le in
    let limits = c.requires.limit_le_table_length in
    record {
      own_numbers = c.requires.own_numbers;
      targets = c.requires.targets;
      a_lt_action_limit = (c.loop-a-test.true, used_to_le le c.requires.used_to);
      limit_le_table_length = (omega (arith, le, limits.0), limits.1);
    }

pub loop-a-preserved : goal.loop-a-preserved
loop-a-preserved c = (
  omega (arith, c.loop-a-test.true),
  first_below_add_one c.loop-a.invariant.1 c.first_bad_with-k.ensures,
)

pub returns : goal.returns
returns c =
    let inv = c.loop-a.invariant in
    first_below_at (omega (arith, inv.0, c.loop-a-test.false)) inv.1
