-- What is lower beside t of the answers that are left makes all of them so.
use Rattle.std.proofs.Common.{ℕ}
use Rattle.lts.specs.Book.{LowerEntry}
use Rattle.books.specs.Books.{book_of}
use Rattle.books.specs.Inner.Sides.{BySide}
use Rattle.sets.specs.Inner.SetValues.{In}
use Rattle.weak_books.proofs.entries.answers_lower.Given as goal

abbrev pub invariant-loop-u : goal.invariant-loop-u
invariant-loop-u l =
    let Lower = BySide l.side (LowerEntry (book_of l.book) l.depth) l.t.0 in
    let left = l.u-iterator.left in
    ((x : ℕ) → In left x → In l.fn.answers x)
    × (((x : ℕ) → In left x → Lower x) → (x : ℕ) → In l.fn.answers x → Lower x)
