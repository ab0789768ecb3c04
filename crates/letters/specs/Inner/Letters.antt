-- What the inner functions of Word take and find. Only the contracts of inner functions cite it.
-- Document 01, operation 6.
use Rattle.std.specs.Prelude.{Option, Some, None, List, ◌≡◌, ℕ, ◌≤◌, ◌<◌, T, length, get_or}
use Rattle.lts.specs.Alike.{Separated, Rank}
use Rattle.text.specs.Limits.{table_length, word_length, pair_place}
use Rattle.text.specs.declared.Action.{Action}
use Rattle.text.specs.declared.Step.{Step}
use Rattle.text.specs.First.{First}
use Rattle.text.specs.Model.{Model}
use Rattle.model.specs.System.{source, action, target, ReachableIn, DeterministicModel, view}
use Rattle.text.specs.Limits.{index_length}
use Rattle.verdicts.specs.declared.judging.Verdict.{Verdict}
use Rattle.verdicts.specs.Verdicts.{Judged}
use Rattle.model.specs.Inner.Index.{Index}
use Rattle.verdicts.specs.Inner.ModelLists.{ModelLists}
use Rattle.model.specs.Inner.Roles.{RolesOf}
use Rattle.model.specs.Inner.Stored.{Stored}
use Rattle.lts.specs.Weak.{LowStep}

-- ---- what is found

-- The step found is the first that P holds of; nothing is found where P holds of none.
abbrev pub FoundFirst : (ℕ → Type 0) → Option Step → Type 0
FoundFirst P (Some j) = First P j.0
FoundFirst P None = (j : ℕ) → ¬ (P j)

-- Step j is a step of p with the action a.
pub record StepOf (m : Model) (p a j : ℕ) : Type 0 where
  pub number_lt : j < length m.steps
  pub source_is : source m j ≡ p
  pub action_is : action m j ≡ a

-- Step j is low, and q has no step of its action.
pub record Unanswered (m : Model) (q j : ℕ) : Type 0 where
  pub number_lt : j < length m.steps
  pub is_low : T ((view m).levels.low? (action m j))
  pub none : (i : ℕ) → ¬ (StepOf m q (action m j) i)

-- It is a step of p.
pub record Alone (m : Model) (p q j : ℕ) : Type 0 where
  pub source_is : source m j ≡ p
  pub unanswered : Unanswered m q j

-- The lowest action of a low step of p that q has no step of.
pub record LowestAlone (m : Model) (p q a : ℕ) : Type 0 where
  pub by : ℕ
  pub alone : Alone m p q by
  pub action_is : a ≡ action m by
  pub lowest : (i : ℕ) → Alone m p q i → a ≤ action m i

-- It is found; nothing is found where there is none.
abbrev pub FoundAlone : Model → ℕ → ℕ → Option Action → Type 0
FoundAlone m p q (Some a) = LowestAlone m p q a.0
FoundAlone m p q None = (j : ℕ) → ¬ (Alone m p q j)

-- Step j is low, step i is the step of q with the same action, and the round k separates their targets.
pub record Answer (m : Model) (q k j i : ℕ) : Type 0 where
  pub is_low : T ((view m).levels.low? (action m j))
  pub step_of : StepOf m q (action m j) i
  pub targets : Separated (LowStep (view m)) (target m j) (target m i) k

-- Step j of p has such an answer.
pub record HasAnswer (m : Model) (p q k j : ℕ) : Type 0 where
  pub number_lt : j < length m.steps
  pub source_is : source m j ≡ p
  pub by : ℕ
  pub answer : Answer m q k j by

-- Steps j of p and i of q are such, and no lower action has such steps.
pub record FirstLetter (m : Model) (p q k j i : ℕ) : Type 0 where
  pub number_lt : j < length m.steps
  pub source_is : source m j ≡ p
  pub answer : Answer m q k j i
  pub first : (b x y : ℕ) → b < action m j → LowStep (view m) p b x → LowStep (view m) q b y
      → ¬ (Separated (LowStep (view m)) x y k)

-- ---- what is taken

-- A good store with the index of its steps and the roles of its actions.
pub record StepLists (m : Model) (store begins roles : List ℕ) : Type 0 where
  pub stored : Stored store m
  pub index_length_is : index_length ≤ length begins
  pub index : Index m m.head.states begins
  pub roles_of : RolesOf m roles

-- The same with the ranks of its reachable states, where no silent step can be reached: those under low steps.
pub record WordLists (m : Model) (store begins roles table : List ℕ) : Type 0 where
  pub step_lists : StepLists m store begins roles
  pub table_length_is : table_length ≤ length table
  pub ranks : (p q : ℕ) → ReachableIn m p → ReachableIn m q
      → Rank (LowStep (view m)) p q (get_or table (pair_place p q) 0)

-- Two reachable states of a deterministic model, which the round k separates.
pub record SeparatedPair (m : Model) (p q k : ℕ) : Type 0 where
  pub deterministic : DeterministicModel m
  pub first_reachable : ReachableIn m p
  pub second_reachable : ReachableIn m q
  pub separated : Separated (LowStep (view m)) p q k

-- A good store, judged, with the lists made from it and room for a word.
pub record Showable (m : Model) (v : Verdict) (store begins roles distances table word : List ℕ) : Type 0 where
  pub lists : ModelLists m store roles distances table
  pub index_length_is : index_length ≤ length begins
  pub index : Index m m.head.states begins
  pub verdict : Judged m v
  pub word-length : word_length ≤ length word
