-- The entry stays, or it is written as the other way round.
use Rattle.std.proofs.Common.{sym, ap, ◌∙◌}
use Rattle.lts.specs.Book.{Entry}
use Rattle.books.specs.Books.{entry_number}
use Rattle.weak_books.specs.Laws.TurnedLaws.{pair_turned_together, pair_turned_of_entry}
use Rattle.weak_books.proofs.seconds.turn_pair.Goals as goal

pub returns-then-depth-eq0 : goal.returns-then-depth-eq0
returns-then-depth-eq0 c = pair_turned_together c.rank_at-depth.ensures c.if-depth-eq0.true

pub returns : goal.returns
returns c =
    let number = entry_number c.args.book.now in
    let entry_is = c.entry_at.ensures ∙ ap number c.pair_place.ensures in
    pair_turned_of_entry c.rank_at-depth.ensures c.if-depth-eq0.false
    (sym (ap (λ (x : Entry). x.side) entry_is) ∙ c.if-entry_at-ne0.false)
    (c.entry_at-back.ensures ∙ ap number c.pair_place-2.ensures) c.put_entry.ensures
