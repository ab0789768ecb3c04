-- A text has one print by `till_book`; and a list that Book filled begins with the bytes of the book.
-- Document 02, (v). Assumes nothing.
use Rattle.std.specs.Prelude.{List, ◌≡◌, ℕ, ◌≤◌, min, length, take}
use Rattle.std.proofs.Common.{sym, ◌∙◌, arith, length-take}
use Rattle.lts.specs.Weak.{WeakMove}
use Rattle.text.specs.Limits.{book_length}
use Rattle.text.specs.Model.{Model}
use Rattle.model.specs.System.{view}
use Rattle.model.specs.Inner.Stored.{Stored}
use Rattle.model.specs.WellFormed.{WellFormed}
use Rattle.model.proofs.Laws.System.GoodStoredLaws.{well_formed_stored}
use Rattle.model.proofs.Laws.System.RankBoundLaws.{weak_move_game}
use Rattle.books.specs.Books.{BookFilled}
use Rattle.books.specs.Laws.BytesLaws.{own_book_unique, own_book-take}
use Rattle.page.specs.Laws.PrintsTextLaws.{prints_text_unique}
use Rattle.till_book.specs.PrintsBook.{BookBytesOf, PrintsBook}

book_bytes_of_unique : {m : Model} {a b : List ℕ} → WellFormed m → BookBytesOf m a → BookBytesOf m b → a ≡ b
book_bytes_of_unique {m} {a} {b} w x y =
    own_book_unique (WeakMove (view m)) m.head.states _ (weak_move_game (well_formed_stored w)) a b x.own y.own
    (x.length_is ∙ sym y.length_is) (omega (arith, x.length_is))

pub prints_book_unique : {text a b : List ℕ} → PrintsBook text a → PrintsBook text b → a ≡ b
prints_book_unique = prints_text_unique BookBytesOf (λ m w x y. book_bytes_of_unique w x y)

module _ {store : List ℕ} {m : Model} (stored : Stored store m) {out out' : List ℕ} (long : book_length ≤ length out)
    (filled : BookFilled (WeakMove (view m)) m.head.states out out') where
  book_le : book_length ≤ length out'
  book_le = omega (arith, filled.past.same_length, long)

  pub book_bytes_of_filled : BookBytesOf m (take book_length out')
  book_bytes_of_filled =
      let taken : length (take book_length out') ≡ min book_length (length out') = length-take book_length out' in
      record {
        length_is = omega (arith, book_le, taken);
        own = own_book-take out' stored.states_le filled.own;
      }

  -- So many bytes stand in the list.
  pub book_counts : (book_length ≤ length out') × (book_length ≡ length (take book_length out'))
  book_counts = (book_le, sym book_bytes_of_filled.length_is)
