-- A book on its way: the entries that the first side opens, depth by depth and label by label. Only the contracts of
-- inner functions cite it.
use Rattle.std.specs.Prelude.{List, ◌⊎◌, ◌≡◌, ℕ, ◌≤◌, ◌<◌, get_or}
use Rattle.lts.specs.Alike.{Moves, Relation}
use Rattle.lts.specs.Book.{Entry, Present, Opens, LowerRank, no_entry}
use Rattle.text.specs.Limits.{state_limit, pair_place, book_length}
use Rattle.text.specs.Lists.{Past}
use Rattle.sets.specs.Inner.Sets.{Member}
use Rattle.sets.specs.Inner.SetValues.{In}
use Rattle.sets.specs.declared.set.Set.{Set}
use Rattle.books.specs.Books.{entry_number}
use Rattle.held.specs.HeldTests.{label_limit}
use Rattle.weak_books.specs.Inner.OpensTo.{OpensTo, LowestTo}

-- ---- one label, by sets: set p of `targets` has the targets of p, and set t of the lower ones what is lower beside t

-- The entry e of p and q has become e': an entry stays, and where there was none, p opens with the label a if it can.
pub data EntryOpened (targets lower : List ℕ) (depth a p q : ℕ) (e e' : Entry) : Type 0 where
  stays : Present e → e' ≡ e → EntryOpened targets lower depth a p q e e'
  opens_not : e' ≡ e → ((t : ℕ) → ¬ (OpensTo (Member targets) (Member lower) p q t))
      → EntryOpened targets lower depth a p q e e'
  opens_with : (t : ℕ) → e.side ≡ 0 → e' ≡ record { side = 1; action = a; target = t; depth = depth } → t < state_limit
      → LowestTo (Member targets) (Member lower) p q t → EntryOpened targets lower depth a p q e e'

-- The same of that entry alone.
pub record PairOpened (targets lower : List ℕ) (depth a p q : ℕ) (entry exit : List ℕ) : Type 0 where
  pub opened : EntryOpened targets lower depth a p q (entry_number entry (pair_place p q))
      (entry_number exit (pair_place p q))
  pub kept : (k : ℕ) → ¬ (k ≡ pair_place p q) → entry_number exit k ≡ entry_number entry k
  pub past : Past book_length entry exit

-- The same of each p and each q of set p, where the number of their entry is from `from` up to `to`.
pub record LabelOpened (targets lower at : List ℕ) (depth a from to : ℕ) (entry exit : List ℕ) : Type 0 where
  pub opened : (p q : ℕ) → Member at p q → from ≤ pair_place p q → pair_place p q < to
      → EntryOpened targets lower depth a p q (entry_number entry (pair_place p q)) (entry_number exit (pair_place p q))
  pub kept : (k : ℕ) → ((p q : ℕ) → Member at p q → from ≤ k → k < to → ¬ (k ≡ pair_place p q))
      → entry_number exit k ≡ entry_number entry k
  pub past : Past book_length entry exit

-- The members of set p from q on are left.
pub record MembersLeft (sets : List ℕ) (p q : ℕ) (left : Set) : Type 0 where
  pub left_in : (x : ℕ) → In left x → Member sets p x
  pub later : (x : ℕ) → Member sets p x → q ≤ x → In left x

-- ---- labels

-- What the entry e of p and q says of the openings of p with labels below `to`: there is none, and no entry; or e is
-- the first of all.
pub data OpenedBelow (Move : Moves) (Leads : Relation) (depth p q to : ℕ) (e : Entry) : Type 0 where
  none : e ≡ no_entry → ((a t : ℕ) → a < to → ¬ (Opens Move Leads p q a t)) → OpenedBelow Move Leads depth p q to e
  first : (a t : ℕ) → e ≡ record { side = 1; action = a; target = t; depth = depth } → Opens Move Leads p q a t
      → ((b u : ℕ) → Opens Move Leads p q b u → (a < b) ⊎ ((a ≡ b) × (t ≤ u)))
      → OpenedBelow Move Leads depth p q to e

-- The same of each of n states and each q of its set.
pub record OpenedTo (Move : Moves) (n : ℕ) (lower at : List ℕ) (depth to : ℕ) (book : List ℕ) : Type 0 where
  pub opened : (p q : ℕ) → p < n → Member at p q
      → OpenedBelow Move (Member lower) depth p q to (entry_number book (pair_place p q))

-- Only the entries of such states have changed.
pub record OnlyAt (n : ℕ) (at : List ℕ) (entry exit : List ℕ) : Type 0 where
  pub kept : (k : ℕ) → ((p q : ℕ) → p < n → Member at p q → ¬ (k ≡ pair_place p q))
      → entry_number exit k ≡ entry_number entry k
  pub past : Past book_length entry exit

-- ---- depths

-- The first sides of all two states of a rank above 0 and below the depth have opened where they can, and there are no
-- further entries.
pub record OpenedBefore (Move : Moves) (n : ℕ) (table : List ℕ) (depth : ℕ) (book : List ℕ) : Type 0 where
  pub opened : (p q : ℕ) → p < n → q < n → 0 < get_or table (pair_place p q) 0 → get_or table (pair_place p q) 0 < depth
      → OpenedBelow Move (LowerRank Move (get_or table (pair_place p q) 0)) (get_or table (pair_place p q) 0) p q
      label_limit
      (entry_number book (pair_place p q))
  pub empty : (p q : ℕ) → p < n → q < n → (get_or table (pair_place p q) 0 ≡ 0) ⊎
      (depth ≤ get_or table (pair_place p q) 0)
      → entry_number book (pair_place p q) ≡ no_entry
  pub outside : (p q : ℕ) → p < state_limit → q < state_limit → (n ≤ p) ⊎ (n ≤ q)
      → entry_number book (pair_place p q) ≡ no_entry
