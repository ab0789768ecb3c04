-- What Word shows on a good store.
-- Document 01, operation 6, and "Refused because of the state", 23 and 24; document 02, (vii).
use Rattle.std.specs.Prelude.{List, [], ◌∷◌, ◌≡◌, ℕ, length}
use Rattle.lts.specs.Noninterference.{BNID}
use Rattle.text.specs.Faults.{Outcome, answers, refuses}
use Rattle.text.specs.Model.{Model}
use Rattle.model.specs.System.{DeterministicModel, NoSilentStep, view}
use Rattle.verdicts.specs.Verdicts.{RefusedAt}
use Rattle.letters.specs.declared.word.Shown.{Shown}
use Rattle.letters.specs.declared.word.Shown.TheVariants.{Word, NotDeterministic, Silent, NoLeak}
use Rattle.letters.specs.Words.{FirstBranch, FirstSilent, end_number, WordShown}

-- "Answers its length, which is the depth, and the end that allows it." "23 (Word): not deterministic; place: the first
-- step with a reachable source that shares source and action with the step before it." "24 (Word): deterministic and
-- passed; place 0." "Word refuses a model that has one [a reachable silent step] as 36, at the first such step, after
-- 23 and before 24" (document 02, (vii)).
unfoldable pub shown_outcome : Shown → Outcome
shown_outcome (Word length end) = answers (length ∷ end_number end ∷ [])
shown_outcome (NotDeterministic j) = refuses 23 j.0
shown_outcome (Silent j) = refuses 36 j.0
shown_outcome NoLeak = refuses 24 0

-- What Word shows of a model: its outcome, and the word's list.
pub record WordDone (m : Model) (outcome : Outcome) (word word' : List ℕ) : Type 0 where
  pub branching : (j : ℕ) → FirstBranch m j → (outcome ≡ refuses 23 j) × (word' ≡ word)
  pub silent : DeterministicModel m → (j : ℕ) → FirstSilent m j → (outcome ≡ refuses 36 j) × (word' ≡ word)
  pub passed : DeterministicModel m → NoSilentStep m → BNID (view m) → (outcome ≡ refuses 24 0) × (word' ≡ word)
  pub refused : DeterministicModel m → NoSilentStep m → (j depth : ℕ) → RefusedAt m j depth
      → WordShown m j depth outcome word word'
