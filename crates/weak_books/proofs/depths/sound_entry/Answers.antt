-- The bytes read are those of entry k; its action is listed, and the side says who opens.
use Rattle.held.specs.Laws.ListedLaws.{held_list}
use Rattle.std.proofs.Common.{sym, ap, ◌∙◌, subst, arith}
use Rattle.lts.specs.Book.{Entry, LowerEntry}
use Rattle.books.specs.Books.{book_of}
use Rattle.books.specs.declared.entry.Side.{Side}
use Rattle.books.specs.Inner.Sides.{BySide, entry_of}
use Rattle.books.specs.Laws.EntryLaws.{turn_lt}
use Rattle.held.specs.Held.{target_row, HeldAt}
use Rattle.sets.specs.Inner.Sets.{Member}
use Rattle.weak_books.specs.Inner.Depths.{Pairs, LowerBy}
use Rattle.weak_books.specs.Laws.HeldEntryLaws.{listed_label}
use Rattle.weak_books.specs.Laws.HeldEntryLaws.{entry_opens_by_sets, opens_of_sets}
use Rattle.weak_books.proofs.depths.sound_entry.Goals as goal
use Rattle.weak_books.proofs.depths.sound_entry.Goals.{After-entry_at-entry}

lower_by : (c : After-entry_at-entry)
    → LowerBy c.args.book.now c.entry_at-entry.result.depth c.args.there.now c.args.back.now
lower_by c = subst (λ (x : Entry). LowerBy c.args.book.now x.depth c.args.there.now c.args.back.now)
    (sym c.entry_at-entry.ensures) c.requires.lower_by

pub target_row-row-requires : goal.target_row-row-requires
target_row-row-requires c =
    rw c.from.ensures (listed_label (held_list c.args.moves) (c.requires.flagged.only _ c.if-flags-entry-eq0.false))

pub held-targets-requires : goal.held-targets-requires
held-targets-requires c =
    let lt = turn_lt (omega (arith, c.requires.k_lt_table_length.0)) (omega arith) c.in-Some.ensures in
    (omega (arith, c.target_row-row.ensures.1), lt.0)

pub held-answers-requires : goal.held-answers-requires
held-answers-requires c =
    let lt = turn_lt (omega (arith, c.requires.k_lt_table_length.0)) (omega arith) c.in-Some.ensures in
    (omega (arith, c.target_row-row.ensures.1), lt.1)

pub returns-in-First : goal.returns-in-First
returns-in-First c =
    let a = c.args in
    let e = entry_of c.entry_at-entry.result in
    let opener = c.in-Some.opener in
    let sets = subst (λ (s : Side). Pairs (BySide s (LowerEntry (book_of a.book.now) e.depth)) a.there.now)
    (sym c.in-First.is) (lower_by (goal.at.returns-in-First c).After-entry_at-entry).firsts in
    entry_opens_by_sets a.moves.labels.now a.moves.count a.moves.slots.now a.moves.pool.now a.book.now a.k e c.entry_at-entry.ensures
    c.requires.k_lt_table_length.0 (c.requires.flagged.only _ c.if-flags-entry-eq0.false)
    (c.target_row-row.ensures.0 ∙ ap target_row c.from.ensures) c.opens_by_sets.result c.in-Some.ensures sets
    (opens_of_sets (HeldAt a.moves.slots.now a.moves.pool.now c.target_row-row.result) (Member a.there.now) opener.state.0
    opener.other.0 e.target
    c.held-targets.ensures c.held-answers.ensures c.opens_by_sets.result (rw c.from-2.ensures at c.opens_by_sets.ensures))

pub returns-in-Second : goal.returns-in-Second
returns-in-Second c =
    let a = c.args in
    let e = entry_of c.entry_at-entry.result in
    let opener = c.in-Some.opener in
    let sets = subst (λ (s : Side). Pairs (BySide s (LowerEntry (book_of a.book.now) e.depth)) a.back.now)
    (sym c.in-Second.is) (lower_by (goal.at.returns-in-Second c).After-entry_at-entry).seconds in
    entry_opens_by_sets a.moves.labels.now a.moves.count a.moves.slots.now a.moves.pool.now a.book.now a.k e c.entry_at-entry.ensures
    c.requires.k_lt_table_length.0 (c.requires.flagged.only _ c.if-flags-entry-eq0.false)
    (c.target_row-row.ensures.0 ∙ ap target_row c.from.ensures) c.opens_by_sets-in-Second.result c.in-Some.ensures sets
    (opens_of_sets (HeldAt a.moves.slots.now a.moves.pool.now c.target_row-row.result) (Member a.back.now) opener.state.0
    opener.other.0 e.target
    c.held-targets.ensures c.held-answers.ensures c.opens_by_sets-in-Second.result (rw c.from-2.ensures at c.opens_by_sets-in-Second.ensures))
