-- What `till_check` prints of a book and a text, whatever the lists held before.
-- Document 02, (v): "A checker accepts exactly the sound books." Document 01, "The page": "or `F,number,place` if Read
-- refuses".
use Rattle.std.specs.Prelude.{List, [], ◌≡◌, ℕ}
use Rattle.lts.specs.Weak.{WeakMove}
use Rattle.text.specs.Faults.{Outcome, answers, refuses}
use Rattle.text.specs.Model.{Model}
use Rattle.model.specs.System.{view}
use Rattle.lines.specs.PageLines.{fault_bytes}
use Rattle.books.specs.Checks.{CheckDone}
use Rattle.page.specs.PrintsText.{PrintsText}

-- Nothing is printed of a success, and `F,number,place` of a refusal.
unfoldable pub outcome_bytes : Outcome → List ℕ
outcome_bytes (answers values) = []
outcome_bytes (refuses number place) = fault_bytes number place

-- The bytes tell what Check answers of the book.
pub record CheckBytesOf (book : List ℕ) (m : Model) (bytes : List ℕ) : Type 0 where
  pub outcome : Outcome
  pub checked : CheckDone (WeakMove (view m)) book outcome
  pub bytes_are : bytes ≡ outcome_bytes outcome

abbrev pub PrintsCheck : List ℕ → List ℕ → List ℕ → Type 0
PrintsCheck book text bytes = PrintsText (CheckBytesOf book) text bytes
