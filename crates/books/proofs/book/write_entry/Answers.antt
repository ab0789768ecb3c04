-- The side as a byte is its number.
use Rattle.std.proofs.Common.{◌≡◌, refl, subst, ℕ, ◌+◌, get_or}
use denote.Enum.Declared.{tag_of}
use Rattle.text.specs.Limits.{pair_place}
use Rattle.books.specs.contracts.entry.Side.{the_type}
use Rattle.books.specs.declared.entry.Side.{Side}
use Rattle.books.specs.declared.entry.Side.TheVariants.{First, Second}
use Rattle.books.specs.Inner.Filling.{EntryWritten}
use Rattle.books.specs.Inner.Sides.{side_number}
use Rattle.books.proofs.book.write_entry.Goals as goal

side_is : (s : Side) → tag_of the_type s + 1 ≡ side_number s
side_is First = refl
side_is Second = refl

pub returns : goal.returns
returns c =
    let a = c.args in
    subst (λ (number : ℕ). EntryWritten (pair_place a.p.0 a.q.0)
    (record {
      side = number;
      action = get_or a.indexed.actions.now a.i 0;
      target = get_or a.indexed.targets.now a.i 0;
      depth = a.depth;
    })
    a.book.now c.put_entry.new.book) (side_is a.side) c.put_entry.ensures
