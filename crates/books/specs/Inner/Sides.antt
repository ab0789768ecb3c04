-- The sides of an entry, and the entries that were tested. Only the contracts of inner functions cite it.
use Rattle.std.specs.Prelude.{List, [], ◌≡◌, ℕ, ◌≤◌, ◌<◌}
use Rattle.lts.specs.Alike.{Moves, Relation}
use Rattle.lts.specs.Book.{Entry, Present, SoundAt}
use Rattle.text.specs.Faults.{Outcome, answers, refuses}
use Rattle.text.specs.Limits.{state_limit, table_length, pair_place}
use Rattle.books.specs.Books.{entry_number, book_of}
use Rattle.books.specs.declared.entry.Entry.{Entry as Bytes}
use Rattle.books.specs.declared.entry.Side.{Side}
use Rattle.books.specs.declared.entry.Side.TheVariants.{First, Second}

-- The entry that the four bytes are.
abbrev pub entry_of : Bytes → Entry
entry_of e = record { side = e.side; action = e.action; target = e.target; depth = e.depth }

-- "side (0 none, 1 first, 2 second)"
abbrev pub side_number : Side → ℕ
side_number First = 1
side_number Second = 2

-- The number is that of no side.
pub record NoSide (number : ℕ) : Type 0 where
  pub not_first : ¬ (number ≡ 1)
  pub not_second : ¬ (number ≡ 2)

-- By an entry of p and q with this side's number the side opens, at state x against state y.
pub data Turn (number p q : ℕ) : Side → ℕ → ℕ → Type 0 where
  first_turn : number ≡ 1 → Turn number p q First p q
  second_turn : number ≡ 2 → Turn number p q Second q p

-- R of the opener's state and the other's, by the opener's side.
abbrev pub BySide : Side → Relation → Relation
BySide First R x y = R x y
BySide Second R x y = R y x

-- The number of their entry.
abbrev pub side_place : Side → ℕ → ℕ → ℕ
side_place First x y = pair_place x y
side_place Second x y = pair_place y x

-- Entry k is there, of a depth below the one given.
pub record LowerNumber (book : List ℕ) (depth k : ℕ) : Type 0 where
  pub present : Present (entry_number book k)
  pub depth_lt : (entry_number book k).depth < depth

-- The entries of p before that of p and q are sound, and that one is bad if there is one.
pub record RowSoundTo (Move : Moves) (book : List ℕ) (p q : ℕ) : Type 0 where
  pub number_le : q ≤ state_limit
  pub sound : (y : ℕ) → y < q → SoundAt Move (book_of book) p y
  pub bad : q < state_limit → ¬ (SoundAt Move (book_of book) p q)

-- The entries of the numbers below p are sound.
abbrev pub RowsSound : Moves → List ℕ → ℕ → Type 0
RowsSound Move book p = (x y : ℕ) → x < p → y < state_limit → SoundAt Move (book_of book) x y

-- No entry before r that P holds of is bad; r is `limit`, or a bad entry before it.
pub record FirstOf (Move : Moves) (P : ℕ → Type 0) (book : List ℕ) (limit r : ℕ) : Type 0 where
  pub number_le : r ≤ limit
  pub sound : (p q : ℕ) → p < state_limit → q < state_limit → P (pair_place p q) → pair_place p q < r
      → SoundAt Move (book_of book) p q
  pub bad : (p q : ℕ) → p < state_limit → q < state_limit → pair_place p q ≡ r → r < limit
      → ¬ (SoundAt Move (book_of book) p q)

-- The entries before entry k are sound, and entry k is bad if there is one.
abbrev pub SoundTo : Moves → List ℕ → ℕ → Type 0
SoundTo Move book = FirstOf Move (λ k. k < table_length) book table_length

-- What is told where k is the number of the first bad entry, or that of all entries if there is none.
pub record BadTold (k : ℕ) (outcome : Outcome) : Type 0 where
  pub bad : k < table_length → outcome ≡ refuses 34 k
  pub sound : table_length ≤ k → outcome ≡ answers []
