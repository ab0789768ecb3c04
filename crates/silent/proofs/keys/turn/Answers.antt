-- A set that has not grown is as it was, and one that has and is marked is told.
use mathlib.Core.Bool.{true, not}
use Rattle.text.specs.Laws.DecidesLaws.{decides_true, not-T_of_false}
use Rattle.silent.proofs.keys.turn.Goals as goal

pub returns-then-not-spread : goal.returns-then-not-spread
returns-then-not-spread c =
    record {
      joined = c.spread.ensures.joined;
      again_value = λ e. (
        e,
        λ m. decides_true (not c.spread.result) _ c.spread.ensures.decides
            c.if-not-spread.true-raw,
      );
    }

pub returns-then-marks-p-eq1 : goal.returns-then-marks-p-eq1
returns-then-marks-p-eq1 c = record {
  joined = c.spread.ensures.joined;
  again_value = λ e. absurd (not-T_of_false true e tt);
}

pub returns : goal.returns
returns c = record {
  joined = c.spread.ensures.joined;
  again_value = λ e. (e, λ m. absurd (c.if-marks-p-eq1.false m));
}
