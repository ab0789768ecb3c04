-- Books of the moves that are held as sets are books of the moves that they are held for.
-- Document 02, (v) and (vii). Assumes nothing.
use Rattle.std.specs.Prelude.{List, ℕ}
use Rattle.lts.specs.Alike.{Moves}
use Rattle.lts.proofs.OwnBookLaws.{own_book_same}
use Rattle.text.specs.Faults.{Outcome}
use Rattle.text.specs.Limits.{state_limit}
use Rattle.held.specs.Held.{HeldMove, HeldAs}
use Rattle.books.specs.Books.{book_of, BookFilled}
use Rattle.books.specs.Checks.{CheckDone}
use Rattle.books.specs.Laws.ChecksLaws.{check_done_same}

module _ {Move : Moves} {labels slots pool : List ℕ} {count : ℕ} (h : HeldAs Move labels count slots pool) where
  pub book_filled_of_held : {n : ℕ} {entry exit : List ℕ} → BookFilled (HeldMove labels count slots pool) n entry exit
      → BookFilled Move n entry exit
  book_filled_of_held {n} {exit = exit} f = record {
    own = own_book_same h.sound h.complete n state_limit (book_of exit) f.own;
    past = f.past;
  }

  pub check_done_of_held : {book : List ℕ} {outcome : Outcome}
      → CheckDone (HeldMove labels count slots pool) book outcome → CheckDone Move book outcome
  check_done_of_held = check_done_same {M = HeldMove labels count slots pool} {N = Move} h.sound h.complete
