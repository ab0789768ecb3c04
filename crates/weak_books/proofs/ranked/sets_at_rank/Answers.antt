-- The sets below p have the states of rank r.
use Rattle.std.proofs.Common.{arith}
use Rattle.weak_books.specs.Laws.RankedLaws.{at_rank_zero, at_rank_suc, at_rank_at}
use Rattle.weak_books.proofs.ranked.sets_at_rank.Goals as goal

pub loop-p-init : goal.loop-p-init
loop-p-init c = (omega arith, at_rank_zero c.clear_sets.ensures)

pub loop-p-preserved : goal.loop-p-preserved
loop-p-preserved c = (
  omega (arith, c.loop-p-test.true),
  at_rank_suc c.loop-p.invariant.1 c.row_at_rank.ensures,
)

pub returns : goal.returns
returns c = let inv = c.loop-p.invariant in at_rank_at (omega (arith, inv.0, c.loop-p-test.false)) inv.1
