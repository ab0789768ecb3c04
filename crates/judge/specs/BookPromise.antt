-- The promise of Book: store, table, book.
-- Document 02, (v); document 01, "Refused because of the state".
use Rattle.std.specs.Prelude.{Result, Ok, Err, List, [], ◌∷◌, ◌≡◌, ℕ, length}
use Rattle.std.proofs.Math.Option.{Option}
use Rattle.text.specs.Limits.{store_length, table_length, book_length}
use Rattle.text.specs.Faults.{Outcome, answers, first_short}
use Rattle.text.specs.Lists.{Past}
use Rattle.text.specs.Model.{Model}
use Rattle.model.specs.OnStore.{OnStore}
use Rattle.model.specs.System.{view}
use Rattle.lts.specs.Weak.{WeakMove}
use Rattle.ranking.specs.Table.{Ranks}
use Rattle.books.specs.Books.{BookFilled}
use Rattle.model.specs.declared.refusal.Refusal.{Refusal}
use Rattle.model.specs.Refusals.{refusal_outcome}

-- Book answers only that it succeeded.
unfoldable pub book_outcome : Result (Unit {0}) Refusal → Outcome
book_outcome (Ok _) = answers []
book_outcome (Err refusal) = refusal_outcome refusal

abbrev pub book_lists : List ℕ → List ℕ → List ℕ → Option ℕ
book_lists store table book =
    first_short 1 (length store ∷ length table ∷ length book ∷ []) (store_length ∷ table_length ∷ book_length ∷ [])

-- The lists as Book leaves them: the table as Rank does, and our own book.
pub record BookDone (m : Model) (table book table' book' : List ℕ) : Type 0 where
  pub ranks : Ranks (WeakMove (view m)) m.head.states table'
  pub table_past : Past table_length table table'
  pub book_filled : BookFilled (WeakMove (view m)) m.head.states book book'

abbrev pub BookPromise : List ℕ → List ℕ → List ℕ → Outcome → List ℕ → List ℕ → Type 0
BookPromise store table book outcome table' book' =
    OnStore (book_lists store table book) store outcome ((table' ≡ table) × (book' ≡ book))
    (λ g. (outcome ≡ answers []) × BookDone g.model table book table' book')
