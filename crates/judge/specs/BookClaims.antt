-- What is claimed of books, over Book and Check.
-- Document 02, (v). `BookClaimsLaws` shows each.
use Rattle.std.specs.Prelude.{List, [], ◌↔◌, ◌≡◌, ℕ, ◌<◌}
use Rattle.std.proofs.Math.Option.{none}
use Rattle.lts.specs.Alike.{Relation, Bisimulation, Rank}
use Rattle.lts.specs.Weak.{WeakMove}
use Rattle.lts.specs.Book.{Present, Sound}
use Rattle.text.specs.Faults.{Outcome, answers}
use Rattle.text.specs.Limits.{state_limit}
use Rattle.model.specs.Store.{Good}
use Rattle.model.specs.System.{view, IsState}
use Rattle.books.specs.Books.{book_of}
use Rattle.judge.specs.BookPromise.{BookPromise}
use Rattle.judge.specs.CheckPromise.{check_lists, CheckPromise}

-- Check accepts the book: its promise pins one answer (`check_promise_unique`), and it is this one.
abbrev pub Accepts : List ℕ → List ℕ → Type 0
Accepts store book = CheckPromise store book (answers [])

-- "A checker accepts exactly the sound books": what it accepts is a sound book of a good store's model, and it accepts
-- each of them in a list that is long enough.
pub record AcceptsExactly : Type 0 where
  pub only_sound : (store book : List ℕ) → Accepts store book
      → (g : Good store) × Sound (WeakMove (view g.model)) state_limit (book_of book)
  pub each_sound : (store book : List ℕ) (outcome : Outcome) → check_lists store book ≡ none → (g : Good store)
      → Sound (WeakMove (view g.model)) state_limit (book_of book) → CheckPromise store book outcome
      → outcome ≡ answers []

-- "No low-view bisimulation pairs two states that an accepted book has an entry for."
abbrev pub AcceptedNotPaired : Type 1
AcceptedNotPaired =
    (store book : List ℕ) → Accepts store book → (g : Good store) (R : Relation)
    → Bisimulation (WeakMove (view g.model)) R → (p q : ℕ) → IsState g.model p → IsState g.model q
    → Present (book_of book p q) → ¬ (R p q)

-- Two states of rank 0 have no entry in any accepted book.
abbrev pub RankZeroAbsent : Type 0
RankZeroAbsent =
    (store book : List ℕ) → Accepts store book → (g : Good store) (p q : ℕ) → IsState g.model p
    → IsState g.model q → Rank (WeakMove (view g.model)) p q 0 → (book_of book p q).side ≡ 0

-- "has entries for just the pairs of nonzero rank, and its depths are the ranks"
abbrev pub OwnEntries : Type 0
OwnEntries =
    (store table book table' book' : List ℕ) → BookPromise store table book (answers []) table' book'
    → (g : Good store) (p q r : ℕ) → IsState g.model p → IsState g.model q
    → Rank (WeakMove (view g.model)) p q r
    → (Present (book_of book' p q) ↔ (0 < r)) × ((book_of book' p q).depth ≡ r)

-- "Our own book is accepted".
abbrev pub OwnAccepted : Type 0
OwnAccepted =
    (store table book table' book' : List ℕ) (outcome : Outcome)
    → BookPromise store table book (answers []) table' book' → CheckPromise store book' outcome → outcome ≡ answers []
