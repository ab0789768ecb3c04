-- The turns before i are made; the sets are closed under their steps, unless one has grown after it was read.
use mathlib.Core.Path.{refl}
use native.Mathlib.Omega.{arith}
use Rattle.silent.specs.Laws.PassLaws.{turn_states_lt, spread_to_none, spread_to_suc, passed_to→SpreadOnce}
use Rattle.silent.specs.Laws.PassLaws.{closed_to_none, closed_to_suc, closed_to→ClosedUnder}
use Rattle.silent.proofs.keys.pass.Goals as goal

pub loop-i-init : goal.loop-i-init
loop-i-init c =
    let L = c.args.steps.listed in (
      refl,
      refl,
      L.last_le,
      spread_to_none _ _ c.requires.of_states,
      closed_to_none _ _ refl,
    )

pub turn_place-at-requires : goal.turn_place-at-requires
turn_place-at-requires c = (c.loop-i.auto.i, c.loop-i-test.true)

pub turn-again-requires : goal.turn-again-requires
turn-again-requires c =
    turn_states_lt c.args.steps.listed
    c.loop-i.invariant.1 c.turn_place-at.ensures.2

pub bounds-marks-q : goal.bounds-marks-q
bounds-marks-q c =
    (turn_states_lt c.args.steps.listed
    c.loop-i.invariant.1 c.turn_place-at.ensures.2).1

pub loop-i-preserved : goal.loop-i-preserved
loop-i-preserved c =
    let inv = c.loop-i.invariant in
    let L = c.args.steps.listed in (
      inv.0,
      inv.1,
      inv.2,
      spread_to_suc L inv.0 inv.1 c.turn_place-at.ensures c.turn-again.ensures.joined inv.3,
      closed_to_suc c.turn_place-at.ensures.0 (turn_states_lt L inv.1 c.turn_place-at.ensures.2).1
          c.turn-again.ensures.joined c.turn-again.ensures.again_value inv.4,
    )

pub returns : goal.returns
returns c =
    let h = c.loop-i.invariant in
    record {
      spread_once = passed_to→SpreadOnce h.0 h.1 (omega arith) h.3;
      closed_under = closed_to→ClosedUnder h.0 h.1 (omega arith) h.4;
    }
