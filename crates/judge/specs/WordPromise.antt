-- The promise of Word: store, distances, table, word.
-- Document 01, operation 6, and "Refused because of the state"; document 02, (vii).
use Rattle.std.specs.Prelude.{Result, Ok, Err, List, [], ◌∷◌, ◌≡◌, ℕ, length}
use Rattle.std.proofs.Math.Option.{Option}
use Rattle.text.specs.Limits.{store_length}
use Rattle.text.specs.Limits.{distances_length, table_length, word_length}
use Rattle.text.specs.Faults.{Outcome, first_short}
use Rattle.model.specs.OnStore.{OnStore}
use Rattle.verdicts.specs.JudgeFilled.{JudgeFilled}
use Rattle.letters.specs.declared.word.Shown.{Shown}
use Rattle.letters.specs.WordDone.{shown_outcome, WordDone}
use Rattle.model.specs.declared.refusal.Refusal.{Refusal}
use Rattle.model.specs.Refusals.{refusal_outcome}

-- What is shown answers a word or gives 23, 36 or 24.
unfoldable pub word_outcome : Result Shown Refusal → Outcome
word_outcome (Ok shown) = shown_outcome shown
word_outcome (Err refusal) = refusal_outcome refusal

abbrev pub word_lists : List ℕ → List ℕ → List ℕ → List ℕ → Option ℕ
word_lists store distances table word =
    first_short 1 (length store ∷ length distances ∷ length table ∷ length word ∷ [])
    (store_length ∷ distances_length ∷ table_length ∷ word_length ∷ [])

-- "After 23, 24 and any later refusal of Word the distances and table are as Judge leaves them", and so after a word.
abbrev pub WordPromise : List ℕ → List ℕ → List ℕ → List ℕ → Outcome → List ℕ → List ℕ → List ℕ → Type 0
WordPromise store distances table word outcome distances' table' word' =
    OnStore (word_lists store distances table word) store outcome
    ((distances' ≡ distances) × (table' ≡ table) × (word' ≡ word))
    (λ g. JudgeFilled g.model distances table distances' table' × WordDone g.model outcome word word')
