-- The steps with the action up to place i have been gathered from.
use Rattle.std.proofs.Common.{refl}
use mathlib.Core.Path.{◌≡◌, subst}
use Prim.Native.Nat.{ℕ, ◌+◌, ◌<◌}
use native.Mathlib.Omega.{arith}
use lib.ListN.{get_or}
use Rattle.text.specs.Limits.{action_limit}
use Rattle.silent.specs.Inner.Loops.{GatheredTo}
use Rattle.silent.specs.Laws.LabelledLaws.{label_end_le}
use Rattle.silent.specs.Laws.LoopsLaws.{gathered_to_none, gathered_to-suc, gathered_to→Gathered}
use Rattle.silent.proofs.keys.gather.Goals as goal

pub loop-i-init : goal.loop-i-init
loop-i-init c =
    let from = c.args.steps.from.now in
    let a = c.args.a.0 in
    let L = c.args.steps.listed in
    let la : a < action_limit = c.requires.a_lt_action_limit in
    let l = label_end_le L a (omega arith) in (
      la,
      refl,
      omega (arith, l, L.last_le),
      gathered_to_none a c.clear_sets.ensures,
    )

pub join-requires : goal.join-requires
join-requires c =
    let inv = c.loop-i.invariant in
    let i = c.loop-i.i in
    let L = c.args.steps.listed in
    let li : i < get_or c.args.steps.from.now (action_limit + 1) 0 =
    omega (arith, inv.1, c.loop-i-test.true, label_end_le L c.args.a.0 (omega arith)) in record {
      sets_length_in_bounds = omega arith;
      k_lt_state_limit = (omega (arith, L.source_lt i li, L.states_le), omega (arith, L.target_lt i li, L.states_le));
    }

pub loop-i-preserved : goal.loop-i-preserved
loop-i-preserved c =
    let inv = c.loop-i.invariant in (
      inv.0,
      inv.1,
      inv.2,
      gathered_to-suc (omega arith) (omega (arith, inv.1, c.loop-i-test.true)) inv.3 c.join.ensures,
    )

pub returns : goal.returns
returns c =
    let a = c.args in
    let e : c.loop-i.i ≡ get_or a.steps.from.now (a.a.0 + 1) 0 =
    omega (arith, c.loop-i.auto.i-end (a.steps.listed.rising a.a.0 (omega arith))) in
    gathered_to→Gathered (subst (λ (i : ℕ). GatheredTo a.steps.from.now a.steps.sources.now a.steps.targets.now a.a.0 i
    a.sets.now c.loop-i.gathered) e c.loop-i.invariant.3)
