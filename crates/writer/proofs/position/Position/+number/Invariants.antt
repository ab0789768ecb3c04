-- The digits of n are those of n / 10 and one more: a call for the first, a byte for the last. The measure is n.
use Rattle.writer.proofs.position.Position.+number.Given as goal

abbrev pub decreases-number : goal.decreases-number
decreases-number l = l.n
