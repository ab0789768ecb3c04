-- The first i labels are flagged.
use Rattle.std.proofs.Common.{refl, arith}
use Rattle.weak_books.specs.Laws.HeldEntryLaws.{flagged-zero, flagged_next, flagged_at}
use Rattle.weak_books.proofs.depths.flag_labels.Goals as goal

pub loop-i-init : goal.loop-i-init
loop-i-init c = (omega arith, flagged-zero c.requires.2)

pub loop-i-preserved : goal.loop-i-preserved
loop-i-preserved c =
    let label = c.requires.1 c.loop-i.i c.loop-i-test.true in (
      omega (arith, c.loop-i-test.true),
      flagged_next refl (omega (arith, label)) refl c.loop-i.invariant.1,
    )

pub returns : goal.returns
returns c = let inv = c.loop-i.invariant in flagged_at (omega (arith, inv.0, c.loop-i-test.false)) inv.1
