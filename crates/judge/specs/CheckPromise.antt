-- The promise of Check: store, book. No list is changed.
-- Document 02, (v); document 01, "Refused because of the state".
use Rattle.std.specs.Prelude.{Result, Ok, Err, List, [], ◌∷◌, ℕ, length}
use Rattle.std.proofs.Math.Option.{Option}
use Rattle.text.specs.Limits.{store_length, book_length}
use Rattle.text.specs.Faults.{Outcome, first_short}
use Rattle.model.specs.OnStore.{OnStore}
use Rattle.model.specs.System.{view}
use Rattle.lts.specs.Weak.{WeakMove}
use Rattle.books.specs.declared.check.BadEntry.{BadEntry}
use Rattle.books.specs.Checks.{checked_outcome, CheckDone}
use Rattle.model.specs.declared.refusal.Refusal.{Refusal}
use Rattle.model.specs.Refusals.{refusal_outcome}

-- "A book that is not sound is refused as 34, [..] after 22."
unfoldable pub check_outcome : Result (Result (Unit {0}) BadEntry) Refusal → Outcome
check_outcome (Ok found) = checked_outcome found
check_outcome (Err refusal) = refusal_outcome refusal

abbrev pub check_lists : List ℕ → List ℕ → Option ℕ
check_lists store book = first_short 1 (length store ∷ length book ∷ []) (store_length ∷ book_length ∷ [])

abbrev pub CheckPromise : List ℕ → List ℕ → Outcome → Type 0
CheckPromise store book outcome =
    OnStore (check_lists store book) store outcome (Unit {0}) (λ g. CheckDone (WeakMove (view g.model)) book outcome)
