-- A book on its way, entry by entry. Only the contracts of inner functions cite it.
use Rattle.std.specs.Prelude.{List, ◌≡◌, ℕ, ◌<◌}
use Rattle.lts.specs.Alike.{Moves, Rank}
use Rattle.lts.specs.Book.{Entry, OwnEntry, no_entry}
use Rattle.text.specs.Limits.{table_length, pair_place, book_length}
use Rattle.text.specs.Lists.{Past}
use Rattle.books.specs.Books.{entry_number}

-- Entry k becomes e, and nothing else changes.
pub record EntryWritten (k : ℕ) (e : Entry) (entry exit : List ℕ) : Type 0 where
  pub written : entry_number exit k ≡ e
  pub kept : (j : ℕ) → ¬ (j ≡ k) → entry_number exit j ≡ entry_number entry j
  pub past : Past book_length entry exit

-- The entry that our own book has for two states.
pub record PairOwn (Move : Moves) (p q : ℕ) (e : Entry) : Type 0 where
  pub apart : (r : ℕ) → Rank Move p q r → 0 < r → OwnEntry Move p q r e
  pub together : Rank Move p q 0 → e ≡ no_entry

-- The entry of p and q is written, and nothing else.
pub record PairFilled (Move : Moves) (p q : ℕ) (entry exit : List ℕ) : Type 0 where
  pub own : PairOwn Move p q (entry_number exit (pair_place p q))
  pub kept : (k : ℕ) → ¬ (k ≡ pair_place p q) → entry_number exit k ≡ entry_number entry k
  pub past : Past book_length entry exit

-- The entries of p and each q below `to` are written, and nothing else.
pub record RowFilled (Move : Moves) (p to : ℕ) (entry exit : List ℕ) : Type 0 where
  pub own : (q : ℕ) → q < to → PairOwn Move p q (entry_number exit (pair_place p q))
  pub kept : (k : ℕ) → ((q : ℕ) → q < to → ¬ (k ≡ pair_place p q)) → entry_number exit k ≡ entry_number entry k
  pub past : Past book_length entry exit

-- The entries of each p below `to` and each q below n are written, and nothing else.
pub record EntriesFilled (Move : Moves) (n to : ℕ) (entry exit : List ℕ) : Type 0 where
  pub own : (p q : ℕ) → p < to → q < n → PairOwn Move p q (entry_number exit (pair_place p q))
  pub kept : (k : ℕ) → ((p q : ℕ) → p < to → q < n → ¬ (k ≡ pair_place p q)) → entry_number exit k ≡ entry_number
      entry k
  pub past : Past book_length entry exit

-- Nothing is written for p and the numbers below n.
abbrev pub RowEmpty : ℕ → ℕ → List ℕ → Type 0
RowEmpty p n book = (q : ℕ) → q < n → entry_number book (pair_place p q) ≡ no_entry

-- Nothing is written yet.
abbrev pub BookEmpty : List ℕ → Type 0
BookEmpty book = (k : ℕ) → k < table_length → entry_number book k ≡ no_entry
