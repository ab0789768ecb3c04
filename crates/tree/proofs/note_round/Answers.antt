-- The classes from `from` up to c have the round.
use Rattle.std.proofs.Common.{refl}
use native.Mathlib.Omega.{arith}
use Rattle.tree.specs.Laws.EntriesLaws.{round_noted_none, round_noted-suc, round_noted-end}
use Rattle.tree.proofs.note_round.Goals as goal

pub loop-c-init : goal.loop-c-init
loop-c-init c = (omega arith, omega arith, round_noted_none _)

pub loop-c-preserved : goal.loop-c-preserved
loop-c-preserved c =
    let inv = c.loop-c.invariant in
    (omega arith, omega arith, round_noted-suc inv.0 (omega arith) inv.2 refl)

pub returns : goal.returns
returns c =
    let inv = c.loop-c.invariant in
    round_noted-end inv.0 (omega arith) inv.1 inv.2
