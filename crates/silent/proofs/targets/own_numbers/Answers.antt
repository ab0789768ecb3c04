-- The states below p have their own numbers, and nothing has changed behind all of them.
use Prim.Native.Nat.{◌<◌}
use native.Mathlib.Omega.{arith}
use lib.ListN.{length}
use Rattle.text.specs.Laws.ListsLaws.{past_refl, past_trans, past-set}
use Rattle.silent.specs.Laws.TargetsLaws.{own_numbers-zero, own_numbers-suc, own_numbers_at}
use Rattle.silent.proofs.targets.own_numbers.Goals as goal

pub loop-p-init : goal.loop-p-init
loop-p-init c = (past_refl _, own_numbers-zero _)

pub loop-p-preserved : goal.loop-p-preserved
loop-p-preserved c =
    let l : c.loop-p.p < length c.loop-p.class =
    omega (arith, c.loop-p-test.true, c.loop-p.invariant.0.same_length, c.requires) in (
      past_trans c.loop-p.invariant.0 (past-set c.loop-p.class c.loop-p.p c.loop-p.p c.loop-p-test.true),
      own_numbers-suc l c.loop-p.invariant.1,
    )

pub returns : goal.returns
returns c =
    let inv = c.loop-p.invariant in
    (own_numbers_at (omega arith) inv.1, inv.0)
