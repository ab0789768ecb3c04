-- What `till_book` prints of a text, whatever the lists held before.
-- Document 02, (v); document 01, "The page": "or `F,number,place` if Read refuses".
use Rattle.std.specs.Prelude.{List, ◌≡◌, ℕ, length}
use Rattle.lts.specs.Weak.{WeakMove}
use Rattle.lts.specs.Book.{OwnBook}
use Rattle.text.specs.Limits.{state_limit, book_length}
use Rattle.text.specs.Model.{Model}
use Rattle.model.specs.System.{view}
use Rattle.books.specs.Books.{book_of}
use Rattle.page.specs.PrintsText.{PrintsText}

-- The bytes are those of the model's own book: "Of 65,536 bytes, four belong to each ordered pair of states".
pub record BookBytesOf (m : Model) (bytes : List ℕ) : Type 0 where
  pub length_is : length bytes ≡ book_length
  pub own : OwnBook (WeakMove (view m)) m.head.states state_limit (book_of bytes)

abbrev pub PrintsBook : List ℕ → List ℕ → Type 0
PrintsBook text bytes = PrintsText BookBytesOf text bytes
