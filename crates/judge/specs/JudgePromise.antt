-- The promise of Judge: store, distances, table.
-- Document 01, operation 4, and "Refused because of the state".
use Rattle.std.specs.Prelude.{Result, Ok, Err, List, [], ◌∷◌, ◌≡◌, ℕ, length}
use Rattle.std.proofs.Math.Option.{Option}
use Rattle.text.specs.Limits.{store_length}
use Rattle.text.specs.Limits.{distances_length, table_length}
use Rattle.text.specs.Faults.{Outcome, answers, first_short}
use Rattle.model.specs.OnStore.{OnStore}
use Rattle.verdicts.specs.declared.judging.Verdict.{Verdict}
use Rattle.verdicts.specs.declared.judging.Verdict.TheVariants.{Passed, Refused}
use Rattle.model.specs.declared.refusal.Refusal.{Refusal}
use Rattle.model.specs.Refusals.{refusal_outcome}
use Rattle.verdicts.specs.Verdicts.{Judged}
use Rattle.verdicts.specs.JudgeFilled.{JudgeFilled}

-- "Answers *passed* with the greatest rank in the table, or *refused* with a step and a depth". Which of the two an
-- answer says is told by this definition alone (`verdict_outcome_injective`).
unfoldable pub verdict_outcome : Verdict → Outcome
verdict_outcome (Passed top) = answers (top ∷ [])
verdict_outcome (Refused j depth) = answers (j.0 ∷ depth ∷ [])

unfoldable pub judge_outcome : Result Verdict Refusal → Outcome
judge_outcome (Ok v) = verdict_outcome v
judge_outcome (Err refusal) = refusal_outcome refusal

abbrev pub judge_lists : List ℕ → List ℕ → List ℕ → Option ℕ
judge_lists store distances table =
    first_short 1 (length store ∷ length distances ∷ length table ∷ [])
    (store_length ∷ distances_length ∷ table_length ∷ [])

abbrev pub JudgePromise : List ℕ → List ℕ → List ℕ → Outcome → List ℕ → List ℕ → Type 0
JudgePromise store distances table outcome distances' table' =
    OnStore (judge_lists store distances table) store outcome ((distances' ≡ distances) × (table' ≡ table))
    (λ g. (v : Verdict) × (outcome ≡ verdict_outcome v) × Judged g.model v
    × JudgeFilled g.model distances table distances' table')
