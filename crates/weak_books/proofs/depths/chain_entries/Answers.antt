-- The entries below entry k are chained.
use Rattle.std.proofs.Common.{arith}
use Rattle.weak_books.specs.Laws.ChainsLaws.{chained_at}
use Rattle.weak_books.proofs.depths.chain_entries.Goals as goal

pub loop-k-preserved : goal.loop-k-preserved
loop-k-preserved c = (omega arith, c.chain_entry.ensures)

pub returns : goal.returns
returns c = let inv = c.loop-k.invariant in chained_at (omega (arith, inv.0, c.loop-k-test.false)) inv.1
