-- Models in which some state branches or a silent step can be reached, and the word that Word shows of the others.
-- Document 01, operation 6, and "Refused because of the state", 23 and 24; document 02, (vii).
use Rattle.std.specs.Prelude.{List, [], ◌∷◌, ◌++◌, ◌≡◌, ℕ, suc, ◌<◌, length, drop}
use Rattle.lts.specs.Word.{OnlyFrom, FirstWord}
use Rattle.text.specs.Faults.{Outcome, answers}
use Rattle.text.specs.First.{First}
use Rattle.text.specs.Model.{Model}
use Rattle.model.specs.System.{source, action, target, ReachableIn, SilentStep, view}
use Rattle.letters.specs.declared.word.End.{End}
use Rattle.letters.specs.declared.word.End.TheVariants.{Source, Target}

-- Step j is a "step with a reachable source that shares source and action with the step before it".
pub record Branches (m : Model) (j : ℕ) : Type 0 where
  pub before : ℕ
  pub next_is : j ≡ suc before
  pub number_lt : j < length m.steps
  pub reachable : ReachableIn m (source m j)
  pub same_source : source m before ≡ source m j
  pub same_action : action m before ≡ action m j

-- "the first" such step
abbrev pub FirstBranch : Model → ℕ → Type 0
FirstBranch m j = First (Branches m) j

-- "the first such step": the first silent step that can be reached (document 02, (vii))
abbrev pub FirstSilent : Model → ℕ → Type 0
FirstSilent m j = First (SilentStep m) j

-- "The two ends of a step are its source and its target." The numbers by which an answer names them are ours.
unfoldable pub end_number : End → ℕ
end_number Source = 0
end_number Target = 1

abbrev pub end_state : Model → ℕ → End → ℕ
end_state m j Source = source m j
end_state m j Target = target m j

abbrev pub other_state : Model → ℕ → End → ℕ
other_state m j Source = target m j
other_state m j Target = source m j

-- The word of step j, with the end that allows it: "among the shortest low sequences possible from just one end of
-- Judge's step, the first by action numbers".
pub record WordOf (m : Model) (j : ℕ) (word : List ℕ) (end : End) : Type 0 where
  pub first_word : FirstWord (view m) (source m j) (target m j) word
  pub only_from_end : OnlyFrom (view m).Step (end_state m j end) (other_state m j end) word

-- It stands in a list: "places of [..] word [..] past the answered length [..] keep their old contents". "Answers its
-- length, which is the depth, and the end that allows it."
pub record WordShown (m : Model) (j depth : ℕ) (outcome : Outcome) (entry exit : List ℕ) : Type 0 where
  pub word : List ℕ
  pub end : End
  pub word_of : WordOf m j word end
  pub length_is : length word ≡ depth
  pub outcome_is : outcome ≡ answers (depth ∷ end_number end ∷ [])
  pub list : exit ≡ word ++ drop (length word) entry
