-- The promise of Write: store, out.
-- Document 01, operation 8, and "Refused because of the state".
use Rattle.std.specs.Prelude.{Result, Ok, Err, List, [], ◌∷◌, ◌++◌, ◌≡◌, ℕ, length, drop}
use Rattle.std.proofs.Math.Option.{Option}
use Rattle.text.specs.Limits.{store_length, out_length}
use Rattle.text.specs.Faults.{Outcome, answers, first_short}
use Rattle.model.specs.OnStore.{OnStore}
use Rattle.model.specs.Text.{model_text}
use Rattle.model.specs.declared.refusal.Refusal.{Refusal}
use Rattle.model.specs.Refusals.{refusal_outcome}

-- "Answers its length"; else the document's number and place
unfoldable pub write_outcome : Result ℕ Refusal → Outcome
write_outcome (Ok length) = answers (length ∷ [])
write_outcome (Err refusal) = refusal_outcome refusal

abbrev pub write_lists : List ℕ → List ℕ → Option ℕ
write_lists store out = first_short 1 (length store ∷ length out ∷ []) (store_length ∷ out_length ∷ [])

-- a text at the front of `out`: "Answers its length", and what follows it is unchanged
abbrev pub PutsText : List ℕ → List ℕ → Outcome → List ℕ → Type 0
PutsText text out outcome exit = (outcome ≡ answers (length text ∷ [])) × (exit ≡ text ++ drop (length text) out)

-- "The text that reads to the store": the `M` text of the model that the store holds
abbrev pub WritePromise : List ℕ → List ℕ → Outcome → List ℕ → Type 0
WritePromise store out outcome exit =
    OnStore (write_lists store out) store outcome (exit ≡ out) (λ g. PutsText (model_text g.model) out outcome exit)
