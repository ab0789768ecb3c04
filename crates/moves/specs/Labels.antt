-- The low and the silent steps of a view, as lists by label: what the moves that are played are made of.
-- Document 02, (vii).
use Rattle.std.specs.Prelude.{List, ℕ, ◌<◌, T}
use Rattle.lts.specs.View.{View}
use Rattle.lts.specs.Weak.{LowStep, Tick}
use Rattle.text.specs.Model.{Model}
use Rattle.model.specs.System.{view}
use Rattle.silent.specs.Labelled.{LabelList, LowLabel, TickLabel}

-- Some action of the model is silent, whether or not a step has it.
pub record SomeSilent (m : Model) : Type 0 where
  pub action : ℕ
  pub action_lt : action < m.head.actions
  pub is_silent : T ((view m).levels.silent? action)

-- The lists have just the low and the silent steps of v.
pub record LabelsOf (v : View) (from sources targets : List ℕ) : Type 0 where
  pub steps : LabelList v.states from sources targets
  pub low_sound : (p a q : ℕ) → LowLabel from sources targets p a q → LowStep v p a q
  pub low_complete : (p a q : ℕ) → LowStep v p a q → LowLabel from sources targets p a q
  pub tick_sound : (p q : ℕ) → TickLabel from sources targets p q → Tick v p q
  pub tick_complete : (p q : ℕ) → Tick v p q → TickLabel from sources targets p q
