-- The moves, and the silent steps, of steps that are lent together.
use Rattle.std.specs.Prelude.{◌≡◌}
use Rattle.lts.specs.Alike.{Moves, Relation}
use Rattle.silent.specs.declared.steps.LabelSteps.{LabelSteps}
use Rattle.silent.specs.Labelled.{TickLabel, LabelMove}

-- The moves that are played.
abbrev pub label_moves : LabelSteps → Moves
label_moves s = LabelMove s.n s.from.now s.sources.now s.targets.now

-- The moves of the steps the other way round.
abbrev pub turned_moves : LabelSteps → Moves
turned_moves s = LabelMove s.n s.from.now s.targets.now s.sources.now

-- The silent steps.
abbrev pub label_ticks : LabelSteps → Relation
label_ticks s = TickLabel s.from.now s.sources.now s.targets.now

-- t has the steps of s the other way round.
pub record TurnedSteps (s t : LabelSteps) : Type 0 where
  pub n_is : t.n ≡ s.n
  pub from_is : t.from.now ≡ s.from.now
  pub sources_are : t.sources.now ≡ s.targets.now
  pub targets_are : t.targets.now ≡ s.sources.now
