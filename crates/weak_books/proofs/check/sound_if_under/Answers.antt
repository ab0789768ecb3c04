-- The bytes read are those of entry k, which is that of p and q; the side says who opens.
use Rattle.std.proofs.Common.{ap, sym, ◌∙◌, ◌≡◌, ℕ}
use Rattle.lts.specs.Book.{Entry, LowerEntry}
use Rattle.books.specs.Books.{book_of}
use Rattle.books.specs.Inner.Sides.{BySide, entry_of}
use Rattle.sets.specs.Inner.Sets.{Member}
use Rattle.weak_books.specs.Inner.Tested.{SetMove}
use Rattle.weak_books.specs.Laws.HeldEntryLaws.{opens_of_sets}
use Rattle.weak_books.specs.Laws.TestedLaws.{sound_if_absent, sound_if_other, sound_if_opens}
use Rattle.weak_books.proofs.check.sound_if_under.Goals as goal

pub returns-then-entry-eq0 : goal.returns-then-entry-eq0
returns-then-entry-eq0 c =
    let a = c.args in
    sound_if_absent a.book.now a.k (SetMove a.sets.now) (λ (b : ℕ). b ≡ a.a.0)
    (sym (ap (λ (x : Entry). x.side) c.entry_at-entry.ensures) ∙ c.if-entry-eq0.true)

pub returns-then-from-a : goal.returns-then-from-a
returns-then-from-a c =
    let a = c.args in
    sound_if_other a.book.now a.k (SetMove a.sets.now) (λ (b : ℕ). b ≡ a.a.0)
    (λ e. c.if-from-a.true (c.from.ensures ∙ ap (λ (x : Entry). x.action) c.entry_at-entry.ensures ∙ e))

pub returns : goal.returns
returns c =
    let a = c.args in
    let e = entry_of c.entry_at-entry.result in
    let opener = c.in-Some.opener in
    sound_if_opens a.book.now c.requires.0 e c.entry_at-entry.ensures c.if-entry-eq0.false
    (sym c.from.ensures ∙ c.if-from-a.false) a.sets.now c.in-Some.ensures c.opens_by_answers.result
    (opens_of_sets (Member a.sets.now) (BySide opener.side (LowerEntry (book_of a.book.now) e.depth)) opener.state.0
    opener.other.0 e.target c.set_at-targets.ensures
    c.set_at-answers.ensures c.opens_by_answers.result (rw c.from-2.ensures at c.opens_by_answers.ensures))
