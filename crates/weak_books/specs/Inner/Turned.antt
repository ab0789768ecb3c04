-- A book on its way: the entries that the second side opens. Only the contracts of inner functions cite it.
use Rattle.std.specs.Prelude.{List, ◌≡◌, ℕ, ◌≤◌, ◌<◌, get_or}
use Rattle.lts.specs.Book.{Entry, Present}
use Rattle.text.specs.Limits.{pair_place, book_length}
use Rattle.text.specs.Lists.{Past}
use Rattle.books.specs.Books.{entry_number}

-- The entry e of two states of rank r has become e': where there was none, and the rank is above 0, the second side
-- opens as in their entry o the other way round.
pub record EntryTurned (r : ℕ) (e o e' : Entry) : Type 0 where
  pub stays : Present e → e' ≡ e
  pub together : r ≡ 0 → e' ≡ e
  pub turned : ¬ (r ≡ 0) → e.side ≡ 0 → Present o
      → e' ≡ record { side = 2; action = o.action; target = o.target; depth = r }

-- The same of that entry alone.
pub record PairTurned (table : List ℕ) (p q : ℕ) (entry exit : List ℕ) : Type 0 where
  pub turned : EntryTurned (get_or table (pair_place p q) 0) (entry_number entry (pair_place p q))
      (entry_number entry (pair_place q p)) (entry_number exit (pair_place p q))
  pub kept : (k : ℕ) → ¬ (k ≡ pair_place p q) → entry_number exit k ≡ entry_number entry k
  pub past : Past book_length entry exit

-- The same of each two of n states, where the number of their entry is from `from` up to `to`.
pub record AllTurned (n : ℕ) (table : List ℕ) (from to : ℕ) (entry exit : List ℕ) : Type 0 where
  pub turned : (p q : ℕ) → p < n → q < n → from ≤ pair_place p q → pair_place p q < to
      → EntryTurned (get_or table (pair_place p q) 0) (entry_number entry (pair_place p q))
      (entry_number entry (pair_place q p)) (entry_number exit (pair_place p q))
  pub stays : (k : ℕ) → Present (entry_number entry k) → entry_number exit k ≡ entry_number entry k
  pub kept : (k : ℕ) → ((p q : ℕ) → p < n → q < n → from ≤ k → k < to → ¬ (k ≡ pair_place p q))
      → entry_number exit k ≡ entry_number entry k
  pub past : Past book_length entry exit
