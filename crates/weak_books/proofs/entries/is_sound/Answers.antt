-- The bytes read are those of entry k; its action is listed, and the side says who opens.
use Rattle.std.proofs.Common.{ap, ◌∙◌}
use Rattle.lts.specs.Book.{LowerEntry}
use Rattle.books.specs.Books.{book_of}
use Rattle.books.specs.Inner.Sides.{BySide, entry_of}
use Rattle.held.specs.Held.{target_row, HeldAt}
use Rattle.weak_books.specs.Laws.HeldEntryLaws.{listed_label, entry_absent}
use Rattle.weak_books.specs.Laws.HeldEntryLaws.{entry_opens, opens_of_sets}
use Rattle.held.specs.Laws.ListedLaws.{held_list}
use Rattle.weak_books.proofs.entries.is_sound.Goals as goal

pub returns-then-entry-eq0 : goal.returns-then-entry-eq0
returns-then-entry-eq0 c =
    let a = c.args in
    entry_absent a.moves.labels.now a.moves.count a.moves.slots.now a.moves.pool.now a.book.now a.k (entry_of c.entry_at-entry.result)
    c.entry_at-entry.ensures c.if-entry-eq0.true

pub target_row-row-requires : goal.target_row-row-requires
target_row-row-requires c =
    rw c.from.ensures (listed_label (held_list c.args.moves) (c.requires.flagged.only _ c.if-flags-entry-eq0.false))

pub returns : goal.returns
returns c =
    let a = c.args in
    let e = entry_of c.entry_at-entry.result in
    let opener = c.in-Some.opener in
    entry_opens a.moves.labels.now a.moves.count a.moves.slots.now a.moves.pool.now a.book.now a.k e c.entry_at-entry.ensures
    c.requires.k_lt_table_length.0 (c.requires.flagged.only _ c.if-flags-entry-eq0.false)
    (c.target_row-row.ensures.0 ∙ ap target_row c.from.ensures) c.opens_by_answers.result c.in-Some.ensures
    (opens_of_sets (HeldAt a.moves.slots.now a.moves.pool.now c.target_row-row.result)
    (BySide opener.side (LowerEntry (book_of a.book.now) e.depth)) opener.state.0 opener.other.0 e.target
    c.held-targets.ensures c.held-answers.ensures c.opens_by_answers.result
    (rw c.from-2.ensures at c.opens_by_answers.ensures))
