-- A model as a transition system: its steps, its starts and the levels of its actions.
-- Document 01, "The meaning"; document 02, (iii) and (vii).
use Rattle.std.specs.Prelude.{List, ◌∷◌, ◌≡◌, ℕ, ◌<◌, eqb, length, get_or}
use Rattle.lts.specs.View.{View}
use Rattle.lts.specs.Run.{Reachable, Distance}
use Rattle.text.specs.declared.StepLine.{StepLine}
use Rattle.text.specs.Model.{low, release, high, silent, Model, no_action, no_step}

-- What step j states. Past the last step it says nothing of the model: `Steps` counts the steps alone.
abbrev pub step : Model → ℕ → StepLine
step m j = get_or m.steps j no_step

abbrev pub source : Model → ℕ → ℕ
source m j = (step m j).source.0

abbrev pub action : Model → ℕ → ℕ
action m j = (step m j).action.0

abbrev pub target : Model → ℕ → ℕ
target m j = (step m j).target.0

-- Some step of the model leads from p with the action a to q.
pub record Steps (m : Model) (p a q : ℕ) : Type 0 where
  pub number : ℕ
  pub number_lt : number < length m.steps
  pub source_is : source m number ≡ p
  pub action_is : action m number ≡ a
  pub target_is : target m number ≡ q

-- The level of action a; `no_level` past the last action.
abbrev pub level : Model → ℕ → ℕ
level m a = (get_or m.actions a no_action).level

-- The name of action a.
abbrev pub name_of : Model → ℕ → List ℕ
name_of m a = (get_or m.actions a no_action).name

-- The starts of a model: the one that line 1 names, and those of the `I` lines.
abbrev pub starts : Model → List ℕ
starts m = m.head.start.0 ∷ m.extra_starts

-- p is one of them.
pub record IsStart (m : Model) (p : ℕ) : Type 0 where
  pub number : ℕ
  pub number_lt : number < length (starts m)
  pub start_is : get_or (starts m) number 0 ≡ p

-- The check of a model: "An action is low (L), release (D) or high (H)", or silent, by "Level T" (document 02, (vii));
-- its steps; its starts; its states. All that is said of runs, ranks, BNID and INI is said of this view, and nothing
-- else gives one.
abbrev pub view : Model → View
view m = record {
  levels = record {
    low? = λ a. eqb (level m a) low;
    release? = λ a. eqb (level m a) release;
    high? = λ a. eqb (level m a) high;
    silent? = λ a. eqb (level m a) silent;
  };
  Step = Steps m;
  Start = IsStart m;
  states = m.head.states;
}

-- p is a state of the model.
abbrev pub IsState : Model → ℕ → Type 0
IsState m p = p < m.head.states

-- "A state is reachable if steps of any level lead to it from the start"; "Reachable is from any start" (document 02,
-- (iii)).
abbrev pub ReachableIn : Model → ℕ → Type 0
ReachableIn m p = Reachable (view m) p

-- d is the "least number of steps from the start" to p, and "distances are counted from the nearest".
abbrev pub DistanceIn : Model → ℕ → ℕ → Type 0
DistanceIn m p d = Distance (view m) p d

-- Step j is a high step that can be reached: "a step is reachable if its source is".
pub record HighStep (m : Model) (j : ℕ) : Type 0 where
  pub number_lt : j < length m.steps
  pub is_high : level m (action m j) ≡ high
  pub reachable : ReachableIn m (source m j)

-- Step j is a silent step that can be reached: "models without a reachable silent step" (document 02, (vii)) have none.
pub record SilentStep (m : Model) (j : ℕ) : Type 0 where
  pub number_lt : j < length m.steps
  pub is_silent : level m (action m j) ≡ silent
  pub reachable : ReachableIn m (source m j)

-- The model is one "without a reachable silent step" (document 02, (vii)).
abbrev pub NoSilentStep : Model → Type 0
NoSilentStep m = (j : ℕ) → ¬ (SilentStep m j)

-- "Deterministic: no reachable state has two steps of one action." For the models that texts state this is
-- `Deterministic` of `lts`, as `deterministic↔Deterministic` shows.
pub record DeterministicModel (m : Model) : Type 0 where
  pub one_step : (i j : ℕ) → i < length m.steps → j < length m.steps → ReachableIn m (source m i)
      → source m i ≡ source m j → action m i ≡ action m j → i ≡ j
