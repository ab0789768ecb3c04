-- The actions that the entries of a book have. Only the contracts of inner functions cite it.
use Rattle.std.specs.Prelude.{List, ◌≡◌, ℕ, ◌≤◌, ◌<◌, get_or}
use Rattle.lts.specs.Book.{Present}
use Rattle.lts.specs.Weak.{silent_label}
use Rattle.text.specs.Limits.{action_limit, table_length}
use Rattle.books.specs.Books.{entry_number}

-- Entry k is there, and has an action that no move has.
pub record NoLabel (book : List ℕ) (k : ℕ) : Type 0 where
  pub present : Present (entry_number book k)
  pub action_le : action_limit ≤ (entry_number book k).action
  pub not_silent : ¬ ((entry_number book k).action ≡ silent_label)

-- The action of entry k is noted, and those that were noted still are.
pub record ActionNoted (book : List ℕ) (k : ℕ) (entry exit : List ℕ) : Type 0 where
  pub kept : (i : ℕ) → get_or entry i 0 ≡ 1 → get_or exit i 0 ≡ 1
  pub noted : ¬ (NoLabel book k) → Present (entry_number book k) → get_or exit (entry_number book k).action 0 ≡ 1

-- The entries before entry k have actions of moves, which are noted.
pub record UsedTo (book used : List ℕ) (k : ℕ) : Type 0 where
  pub label : (j : ℕ) → j < k → ¬ (NoLabel book j)
  pub noted : (j : ℕ) → j < k → Present (entry_number book j) → get_or used (entry_number book j).action 0 ≡ 1

-- The same up to the first entry with an action that no move has, if there is one.
pub record LabelsTo (book used : List ℕ) (k : ℕ) : Type 0 where
  pub number_le : k ≤ table_length
  pub used_to : UsedTo book used k
  pub bad : k < table_length → NoLabel book k
