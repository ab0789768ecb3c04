-- A book tested label by label. Only the contracts of inner functions cite it.
use Rattle.std.specs.Prelude.{List, ◌≡◌, ℕ, ◌≤◌, ◌<◌}
use Rattle.lts.specs.Alike.{Moves}
use Rattle.lts.specs.Book.{Present, SoundAt}
use Rattle.text.specs.Limits.{state_limit, pair_place}
use Rattle.books.specs.Books.{book_of}
use Rattle.sets.specs.Inner.Sets.{Member}

-- Set p has the targets of the moves of p, whatever their label.
abbrev pub SetMove : List ℕ → Moves
SetMove sets p a q = Member sets p q

-- The entry of p and q is there and has an action that Label holds of.
pub record EntryUnder (Label : ℕ → Type 0) (book : List ℕ) (p q : ℕ) : Type 0 where
  pub first_lt : p < state_limit
  pub second_lt : q < state_limit
  pub present : Present (book_of book p q)
  pub label : Label (book_of book p q).action

-- If so, it is sound.
abbrev pub SoundIf : Moves → (ℕ → Type 0) → List ℕ → ℕ → ℕ → Type 0
SoundIf Move Label book p q = EntryUnder Label book p q → SoundAt Move (book_of book) p q

-- Entry k is the first bad one before entry `limit` among those with an action that Label holds of; k is `limit` if
-- there is none.
pub record FirstUnder (Move : Moves) (Label : ℕ → Type 0) (book : List ℕ) (limit k : ℕ) : Type 0 where
  pub number_le : k ≤ limit
  pub sound : (p q : ℕ) → pair_place p q < k → SoundIf Move Label book p q
  pub bad : (p q : ℕ) → q < state_limit → pair_place p q ≡ k → k < limit → ¬ (SoundIf Move Label book p q)
