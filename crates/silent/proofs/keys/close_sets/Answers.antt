-- After k passes each set has the members of all states within k silent steps; no more than n - 1 are ever needed.
use native.Mathlib.Omega.{arith}
use borrow.Author.Tests.{not-true}
use Rattle.silent.specs.Laws.LabelledLaws.{label_step_source_lt, decided_tick_label}
use Rattle.silent.specs.Laws.LoopsLaws.{along_silent→OfStates}
use Rattle.silent.specs.Laws.ClosedLaws.{closed_within_zero, closed_within_suc, closed_of_closed_under}
use Rattle.silent.specs.Laws.ClosedLaws.{closed_within→Closed}
use Rattle.silent.proofs.keys.close_sets.Goals as goal

pub loop-passes-init : goal.loop-passes-init
loop-passes-init c = closed_within_zero c.requires.of_states

pub pass-requires : goal.pass-requires
pass-requires c =
    let L = c.args.steps.listed in
    record {
      of_states = along_silent→OfStates (λ p q s. label_step_source_lt L (omega arith) s)
          c.loop-passes.invariant.silent;
    }

pub returns-then-not-pass : goal.returns-then-not-pass
returns-then-not-pass c =
    let L = c.args.steps.listed in
    closed_of_closed_under L.states_le c.loop-passes.invariant c.pass.ensures.spread_once
    (c.pass.ensures.closed_under (not-true c.pass.result c.if-not-pass.true-raw))

pub loop-passes-preserved : goal.loop-passes-preserved
loop-passes-preserved c =
    let L = c.args.steps.listed in
    closed_within_suc L.states_le c.loop-passes.invariant c.pass.ensures.spread_once

pub returns : goal.returns
returns c =
    closed_within→Closed (decided_tick_label c.args.steps.listed) (omega arith) c.loop-passes.invariant
