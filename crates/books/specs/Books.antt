-- The bytes of a book, and the book that Book fills.
-- Document 02, (v).
use Rattle.std.specs.Prelude.{List, ℕ, ◌+◌, ◌*◌, get_or}
use Rattle.lts.specs.Alike.{Moves}
use Rattle.lts.specs.Book.{Entry, Book, OwnBook}
use Rattle.text.specs.Limits.{state_limit, pair_place, entry_size, book_length}
use Rattle.text.specs.Lists.{Past}

-- Entry number k: "side (0 none, 1 first, 2 second), action, target, depth".
abbrev pub entry_number : List ℕ → ℕ → Entry
entry_number bytes k = record {
  side = get_or bytes (entry_size * k) 0;
  action = get_or bytes (entry_size * k + 1) 0;
  target = get_or bytes (entry_size * k + 2) 0;
  depth = get_or bytes (entry_size * k + 3) 0;
}

-- The book that the bytes are: "entry number 128p + q".
abbrev pub book_of : List ℕ → Book
book_of bytes p q = entry_number bytes (pair_place p q)

-- The list as Book leaves it, of moves among n states.
pub record BookFilled (Move : Moves) (n : ℕ) (entry exit : List ℕ) : Type 0 where
  pub own : OwnBook Move n state_limit (book_of exit)
  pub past : Past book_length entry exit
