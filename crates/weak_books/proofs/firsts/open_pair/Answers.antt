-- An entry stays; where there is none, the lowest target is sought.
use Rattle.std.proofs.Common.{sym, ap, ◌∙◌}
use Rattle.lts.specs.Book.{Entry}
use Rattle.books.specs.Books.{entry_number}
use Rattle.weak_books.specs.Laws.FirstsLaws.{pair_opened_entry}
use Rattle.weak_books.proofs.firsts.open_pair.Goals as goal

pub returns-in-Some : goal.returns-in-Some
returns-in-Some c =
    let entry_is = c.entry_at.ensures ∙ ap (entry_number c.args.book.now) c.pair_place.ensures in
    pair_opened_entry (sym (ap (λ (x : Entry). x.side) entry_is) ∙ c.if-entry_at-ne0.false)
    c.in-Some.ensures.0 c.in-Some.ensures.1 c.put_entry.ensures
