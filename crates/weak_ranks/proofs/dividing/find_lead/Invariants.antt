-- The leads below r, of the class of p, have other keys.
use Rattle.std.proofs.Common.{◌≡◌, ◌-◌}
use Rattle.weak_ranks.specs.Inner.Dividing.{Sought}
use Rattle.weak_ranks.proofs.dividing.find_lead.Given as goal

abbrev pub invariant-loop-p : goal.invariant-loop-p
invariant-loop-p l = (l.link ≡ l.initial.link) × Sought l.keys l.link l.p.0 l.initial.r l.r

abbrev pub decreases-loop-p : goal.decreases-loop-p
decreases-loop-p l = l.p.0 - l.r
