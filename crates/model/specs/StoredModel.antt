-- The model that a store holds, read off its places.
-- Document 01, "The model store"; document 02, (iii).
use Rattle.std.specs.Prelude.{List, [], ◌∷◌, ◌++◌, ◌≡◌, ℕ, zero, suc, get_or, take, drop}
use Rattle.text.specs.declared.Head.{Head}
use Rattle.text.specs.declared.StepLine.{StepLine}
use Rattle.text.specs.Limits.{state_count_place, action_count_place, step_count_place, start_place, store_length}
use Rattle.text.specs.Limits.{action_place, name_length_place, name_place, step_place, action_of_step_place}
use Rattle.text.specs.Limits.{target_place}
use Rattle.text.specs.Limits.{extra_count_place, extra_place}
use Rattle.text.specs.Model.{ActionLine, Model}
use Rattle.model.specs.Store.{store_of}
use Rattle.model.specs.WellFormed.{WellFormed}

-- "Places 0 to 3: states, actions, steps, start."
abbrev pub head_at : List ℕ → Head
head_at s = record {
  states = get_or s state_count_place 0;
  actions = get_or s action_count_place 0;
  steps = get_or s step_count_place 0;
  start = record { 0 = get_or s start_place 0 };
}

-- "Action i from 4 + 14i: level (0 L, 1 D, 2 H), name length, twelve name bytes."; "Level T (store value 3)" (document
-- 02, (vii))
abbrev pub action_at : List ℕ → ℕ → ActionLine
action_at s i = record {
  level = get_or s (action_place i) 0;
  name = take (get_or s (name_length_place i) 0) (drop (name_place i) s);
}

-- "Step j from 900 + 3j: source, action, target."
abbrev pub step_at : List ℕ → ℕ → StepLine
step_at s j = record {
  source = record { 0 = get_or s (step_place j) 0 };
  action = record { 0 = get_or s (action_of_step_place j) 0 };
  target = record { 0 = get_or s (target_place j) 0 };
}

-- "a count, then the extra starts"
abbrev pub extra_count_at : List ℕ → ℕ
extra_count_at s = get_or s extra_count_place 0

abbrev pub extra_start_at : List ℕ → ℕ → ℕ
extra_start_at s i = get_or s (extra_place i) 0

-- f 0, f 1, up to f (n - 1)
unfoldable pub listed : {A : Type 0} → ℕ → (ℕ → A) → List A
listed zero f = []
listed (suc n) f = listed n f ++ (f n ∷ [])

unfoldable pub model_at : List ℕ → Model
model_at s = record {
  head = head_at s;
  actions = listed (head_at s).actions (action_at s);
  extra_starts = listed (extra_count_at s) (extra_start_at s);
  steps = listed (head_at s).steps (step_at s);
}

-- a store holds a well-formed model; what follows its 4,100 numbers does not count
pub record Holds (store : List ℕ) (m : Model) : Type 0 where
  pub well_formed : WellFormed m
  pub stored : store_of m ≡ take store_length store
