-- Entry k is the first bad one with an action below a.
use Rattle.std.proofs.Common.{◌≤◌, ◌<◌}
use Rattle.text.specs.Limits.{action_limit}
use Rattle.silent.specs.Steps.{label_moves}
use Rattle.weak_books.specs.Inner.Tested.{FirstUnder}
use Rattle.weak_books.proofs.check.first_bad_low.Given as goal

abbrev pub invariant-loop-a : goal.invariant-loop-a
invariant-loop-a l =
    (l.a ≤ action_limit) × FirstUnder (label_moves l.steps) (λ b. b < l.a) l.book l.limit l.k
