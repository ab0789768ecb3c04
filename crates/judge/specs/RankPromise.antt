-- The promise of Rank: store, table.
-- Document 01, operation 3, and "Refused because of the state".
use Rattle.std.specs.Prelude.{Result, Ok, Err, List, [], ◌∷◌, ◌≡◌, ℕ, length}
use Rattle.std.proofs.Math.Option.{Option}
use Rattle.text.specs.Limits.{store_length}
use Rattle.text.specs.Limits.{table_length}
use Rattle.text.specs.Faults.{Outcome, answers, first_short}
use Rattle.model.specs.OnStore.{OnStore}
use Rattle.ranking.specs.Table.{Ranked}
use Rattle.model.specs.declared.refusal.Refusal.{Refusal}
use Rattle.model.specs.Refusals.{refusal_outcome}
use Rattle.model.specs.System.{view}
use Rattle.lts.specs.Weak.{WeakMove}

-- "that number is the answer"
unfoldable pub rank_outcome : Result ℕ Refusal → Outcome
rank_outcome (Ok k) = answers (k ∷ [])
rank_outcome (Err refusal) = refusal_outcome refusal

abbrev pub rank_lists : List ℕ → List ℕ → Option ℕ
rank_lists store table = first_short 1 (length store ∷ length table ∷ []) (store_length ∷ table_length ∷ [])

abbrev pub RankPromise : List ℕ → List ℕ → Outcome → List ℕ → Type 0
RankPromise store table outcome exit =
    OnStore (rank_lists store table) store outcome (exit ≡ table)
    (λ g. (last : ℕ) × (outcome ≡ answers (last ∷ []))
    × Ranked (WeakMove (view g.model)) g.model.head.states table exit last)
