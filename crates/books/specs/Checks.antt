-- What Check tells of a book.
-- Document 02, (v) and (vii).
use Rattle.std.specs.Prelude.{List, [], ◌≡◌, ℕ, ◌<◌, Result, Ok, Err, ⊤}
use Rattle.lts.specs.Alike.{Moves}
use Rattle.lts.specs.Book.{SoundAt, Sound}
use Rattle.lts.specs.Weak.{Weak}
use Rattle.text.specs.Faults.{Outcome, answers, refuses}
use Rattle.text.specs.Limits.{state_limit, pair_place}
use Rattle.by_state.specs.MoveList.{Listed}
use Rattle.books.specs.Books.{book_of}
use Rattle.books.specs.declared.check.BadEntry.{BadEntry}

-- "A book that is not sound is refused as 34, with the first bad pair's entry number 128p + q".
unfoldable pub checked_outcome : Result ⊤ BadEntry → Outcome
checked_outcome (Ok _) = answers []
checked_outcome (Err bad) = refuses 34 bad.0

-- p and q are the first pair whose entry is bad.
pub record FirstBad (Move : Moves) (book : List ℕ) (p q : ℕ) : Type 0 where
  pub first_lt : p < state_limit
  pub second_lt : q < state_limit
  pub bad : ¬ (SoundAt Move (book_of book) p q)
  pub sound_before : (x y : ℕ) → x < state_limit → y < state_limit → pair_place x y < pair_place p q
      → SoundAt Move (book_of book) x y

-- "A checker accepts exactly the sound books."
pub data CheckDone (Move : Moves) (book : List ℕ) (outcome : Outcome) : Type 0 where
  accepted : Sound Move state_limit (book_of book) → outcome ≡ answers [] → CheckDone Move book outcome
  refused : (p q : ℕ) → FirstBad Move book p q → outcome ≡ refuses 34 (pair_place p q) → CheckDone Move book outcome

-- The moves where the listed steps are the low ones and no step is silent: a listed step, or under the silent label the
-- silent move of zero steps that each state has.
abbrev pub StillMove : ℕ → List ℕ → List ℕ → List ℕ → Moves
StillMove n first actions targets = Weak (Listed n first actions targets) (λ p q. ⊥) n
