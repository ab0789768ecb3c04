-- The sets below p have their own class alone.
use mathlib.Core.Path.{◌≡◌, subst}
use Prim.Native.Nat.{ℕ}
use native.Mathlib.Omega.{arith}
use Rattle.silent.specs.Inner.Keys.{OwnClasses}
use Rattle.silent.specs.Laws.LoopsLaws.{own_classes_none, own_classes-suc}
use Rattle.silent.proofs.keys.own_classes.Goals as goal

pub loop-p-init : goal.loop-p-init
loop-p-init c = own_classes_none c.clear_sets.ensures

pub add_member-requires : goal.add_member-requires
add_member-requires c =
    let k = c.requires.1.class_lt c.loop-p.p c.loop-p-test.true in
    record {
      sets_length_in_bounds = omega arith;
      k_lt_state_limit = (omega arith, k);
    }

pub loop-p-preserved : goal.loop-p-preserved
loop-p-preserved c = own_classes-suc c.loop-p.invariant c.add_member.ensures

pub returns : goal.returns
returns c =
    let a = c.args in
    let e : c.loop-p.p ≡ a.n = omega arith in
    subst (λ (k : ℕ). OwnClasses k a.class.now c.loop-p.sets) e c.loop-p.invariant
