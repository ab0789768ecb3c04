-- The order of steps, as inequalities, and a model with a step taken out.
-- Document 01, "The text": "strictly rising by source, then action, then target".
use Rattle.std.specs.Prelude.{◌++◌, ◌≡◌, ℕ, suc, ◌-◌, ◌≤◌, ◌<◌, take, drop}
use Rattle.text.specs.declared.StepLine.{StepLine}
use Rattle.text.specs.Model.{Model}

-- t stands above s
pub record Above (s t : StepLine) : Type 0 where
  pub source : s.source.0 ≤ t.source.0
  pub action : s.source.0 ≡ t.source.0 → s.action.0 ≤ t.action.0
  pub target : s.source.0 ≡ t.source.0 → s.action.0 ≡ t.action.0 → s.target.0 < t.target.0

-- a model without its step j: "steps" of line 1 counts one less
abbrev pub without_step : Model → ℕ → Model
without_step m j = record {
  head = record {
    states = m.head.states;
    actions = m.head.actions;
    steps = m.head.steps - 1;
    start = m.head.start;
  };
  actions = m.actions;
  extra_starts = m.extra_starts;
  steps = take j m.steps ++ drop (suc j) m.steps;
}
