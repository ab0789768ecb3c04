-- The entries of a round: of the pairs that it separates. Only the contracts of inner functions cite it.
use Rattle.std.specs.Prelude.{List, ◌⊎◌, ◌≡◌, ℕ, ◌+◌, ◌≤◌, ◌<◌, get_or, Option, Some, None}
use Rattle.lts.specs.Alike.{Moves, Alike, Separated}
use Rattle.lts.specs.Book.{Entry, Opens, FirstPlay, OwnEntry, no_entry}
use Rattle.text.specs.Limits.{state_limit, pair_place, book_length}
use Rattle.text.specs.Lists.{Past}
use Rattle.by_state.specs.Inner.Numbered.{Same}
use Rattle.sets.specs.Inner.SetValues.{In}
use Rattle.sets.specs.declared.set.Set.{Set}
use Rattle.held.specs.Held.{target_row, HeldAt}
use Rattle.ranking.specs.Inner.TableWrites.{SeparatedBy}
use Rattle.splitters.specs.Inner.Splitters.{Rounds, LastRounded}
use Rattle.books.specs.declared.entry.Side.{Side}
use Rattle.books.specs.declared.entry.Side.TheVariants.{First, Second}
use Rattle.books.specs.Inner.Sides.{side_number}
use Rattle.books.specs.Books.{entry_number}
use Rattle.weak_books.specs.Inner.OpensTo.{OpensTo}
use Rattle.weak_books.specs.declared.opening.Opening.{Opening}

-- t and u are of two classes.
abbrev pub OtherClass : List ℕ → ℕ → ℕ → Type 0
OtherClass class t u = ¬ (Same class t u)

-- p has no opening with the first i labels of the list.
pub record NoneOpens (labels : List ℕ) (i : ℕ) (slots pool class : List ℕ) (p q : ℕ) : Type 0 where
  pub none : (j t : ℕ) → j < i → ¬ (OpensTo (HeldAt slots pool (target_row (get_or labels j 0))) (OtherClass class) p
      q t)

-- p opens so against q, all answers are of other classes, and no opening comes before it, by label and then by target.
pub record FirstIs (Move : Moves) (class : List ℕ) (p q : ℕ) (o : Opening) : Type 0 where
  pub opens : Opens Move (OtherClass class) p q o.label.0 o.target.0
  pub first : (b u : ℕ) → Opens Move (OtherClass class) p q b u
      → (o.label.0 < b) ⊎ ((o.label.0 ≡ b) × (o.target.0 ≤ u))

-- The first opening of p against q all of whose answers are of other classes, if there is one.
abbrev pub FirstApart : Moves → List ℕ → ℕ → ℕ → Option Opening → Type 0
FirstApart Move class p q None = (b u : ℕ) → ¬ (Opens Move (OtherClass class) p q b u)
FirstApart Move class p q (Some o) = FirstIs Move class p q o

-- The entry of a side's opening.
abbrev pub side_entry : Side → Opening → ℕ → Entry
side_entry side opening depth = record {
  side = side_number side;
  action = opening.label.0;
  target = opening.target.0;
  depth = depth;
}

-- The entry of the first side's opening, or where it has none, of the second's.
abbrev pub opening_entry : Option Opening → Option Opening → ℕ → Entry
opening_entry (Some one) _ depth = side_entry First one depth
opening_entry None (Some other) depth = side_entry Second other depth
opening_entry None None depth = no_entry

-- The entry of p and q, of this depth, where the answers lead to two classes.
pub record EntryApart (Move : Moves) (class : List ℕ) (depth p q : ℕ) (e : Entry) : Type 0 where
  pub depth_is : e.depth ≡ depth
  pub opening : FirstPlay Move (OtherClass class) p q e.side e.action e.target

-- Both entries of p and q are so, and no other has changed.
pub record PairEntered (Move : Moves) (class : List ℕ) (depth p q : ℕ) (entry exit : List ℕ) : Type 0 where
  pub there : EntryApart Move class depth p q (entry_number exit (pair_place p q))
  pub back : EntryApart Move class depth q p (entry_number exit (pair_place q p))
  pub kept : (k : ℕ) → ¬ (k ≡ pair_place p q) → ¬ (k ≡ pair_place q p) → entry_number exit k ≡ entry_number entry k
  pub past : Past book_length entry exit

-- The entries of the pairs below the limit that P holds of, one way or the other, are so, and no other has changed.
pub record Entered (Move : Moves) (class : List ℕ) (depth : ℕ) (P : ℕ → ℕ → Type 0) (entry exit : List ℕ) : Type 0 where
  pub entered : (p q : ℕ) → p < state_limit → q < state_limit → P p q ⊎ P q p
      → EntryApart Move class depth p q (entry_number exit (pair_place p q))
  pub kept : (p q : ℕ) → p < state_limit → q < state_limit → ¬ (P p q) → ¬ (P q p)
      → entry_number exit (pair_place p q) ≡ entry_number entry (pair_place p q)
  pub past : Past book_length entry exit

-- x is p, and y is a lower one of `others`.
pub record Beside (p : ℕ) (others : Set) (x y : ℕ) : Type 0 where
  pub first_is : x ≡ p
  pub lower : y < p
  pub other : In others y

-- Of n states the round that made `next` of `class` has separated p and q, which is below p.
pub record SeparatedBelow (n : ℕ) (class next : List ℕ) (p q : ℕ) : Type 0 where
  pub first_lt : p < n
  pub lower : q < p
  pub separated : SeparatedBy class next p q

-- What a round leaves in the book: where it made no further class, the book as it was, and else the entries of the
-- pairs that it separated.
pub record RoundEntered (Move : Moves) (n k : ℕ) (class next : List ℕ) (classes classes' : ℕ) (entry exit : List ℕ)
    : Type 0 where
  pub stays : classes' ≡ classes → exit ≡ entry
  pub entered : classes < classes' → Entered Move class (k + 1) (SeparatedBelow n class next) entry exit

-- P holds of x and y, and the one of them that `pick` names is not left.
pub record Done (P : ℕ → ℕ → Type 0) (pick : ℕ → ℕ → ℕ) (left : Set) (x y : ℕ) : Type 0 where
  pub holds : P x y
  pub visited : ¬ (In left (pick x y))

-- The book after k rounds: the entries of the pairs that these separated.
pub record BookUpTo (Move : Moves) (n k : ℕ) (book : List ℕ) : Type 0 where
  pub apart : (p q r : ℕ) → p < n → q < n → r ≤ k → Separated Move p q r
      → OwnEntry Move p q r (entry_number book (pair_place p q))
  pub together : (p q : ℕ) → p < n → q < n → Alike Move k p q → entry_number book (pair_place p q) ≡ no_entry
  pub outside : (p q : ℕ) → p < state_limit → q < state_limit → (n ≤ p) ⊎ (n ≤ q)
      → entry_number book (pair_place p q) ≡ no_entry

-- After k rounds: what a further one finds, and what these have left in the book.
pub record Booked (Move : Moves) (n k first : ℕ) (book₀ book class members origin under when : List ℕ) (classes : ℕ)
    (together : Set) : Type 0 where
  pub rounds : Rounds Move n k first class members origin under when classes together
  pub entries : BookUpTo Move n k book
  pub past : Past book_length book₀ book

-- What the last round leaves, which makes no further class, and what all of them left in the book; each one before it
-- separated a pair.
pub record BookEnded (Move : Moves) (n last : ℕ) (class members origin under when : List ℕ) (classes : ℕ)
    (entry exit : List ℕ) : Type 0 where
  pub rounded : LastRounded Move n last class members origin under when classes
  pub entries : BookUpTo Move n last exit
  pub past : Past book_length entry exit
