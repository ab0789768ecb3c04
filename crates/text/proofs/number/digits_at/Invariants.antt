-- `digits_at` takes up digit by digit: those passed stand from the place on, and the value of i digits is below 10 to
-- the i.
use Rattle.std.proofs.Common.{◌+◌, ◌-◌, ◌^◌, ◌≤◌, ◌<◌}
use Rattle.text.specs.Limits.{digit_limit}
use Rattle.text.specs.Inner.NumberAt.{DigitsTo}
use Rattle.text.proofs.number.digits_at.Given as goal

abbrev pub invariant-loop-i : goal.invariant-loop-i
invariant-loop-i l = record {
  short : l.i ≤ l.at + digit_limit;
  small : l.value < 10 ^ (l.i - l.at);
  run : DigitsTo l.s l.at l.i l.value;
}
