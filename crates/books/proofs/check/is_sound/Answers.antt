-- The bytes read are the entry's; whoever opens does it by a step, or stays.
use Rattle.std.proofs.Common.{inl, inr, ⊎_elim, arith}
use Rattle.text.specs.Laws.DecidesLaws.{decides_iff}
use Rattle.books.specs.Books.{book_of}
use Rattle.books.specs.Inner.Groups.{Indexed}
use Rattle.books.specs.Inner.Sides.{entry_of}
use Rattle.books.specs.Inner.Still.{Still}
use Rattle.books.specs.Laws.EntryLaws.{book_of_at, sound_opener, turn_lt, not_lower_than_itself}
use Rattle.books.specs.Laws.StillLaws.{opens_of_cases, opens_cases}
use Rattle.books.proofs.check.is_sound.Goals as goal

pub opens-requires : goal.opens-requires
opens-requires c =
    let lt = turn_lt (omega (arith, c.requires.0)) (omega arith) c.in-Some.ensures in
    (lt.0, lt.1, c.requires.1)

pub returns-then-opens : goal.returns-then-opens
returns-then-opens c =
    let a = c.args in
    let Move = Indexed a.indexed.groups.now a.indexed.targets.now in
    let n = a.indexed.n in
    sound_opener (Still Move n) (book_of a.book.now) _ _ (entry_of c.entry_at-entry.result)
    (book_of_at a.book.now a.k c.entry_at-entry.ensures) c.in-Some.ensures c.opens.result
    (decides_iff c.opens.result (λ o. opens_of_cases Move n (λ x b y m. m.in_group.action_lt) (inl o))
    (λ _. c.if-opens.ensures) c.opens.ensures)

pub returns-else-opens : goal.returns-else-opens
returns-else-opens c =
    let a = c.args in
    let Move = Indexed a.indexed.groups.now a.indexed.targets.now in
    let n = a.indexed.n in
    let e = entry_of c.entry_at-entry.result in
    let entry_is = book_of_at a.book.now a.k c.entry_at-entry.ensures in
    let self = not_lower_than_itself (Still Move n) (book_of a.book.now) _ _ e entry_is c.in-Some.ensures in
    sound_opener (Still Move n) (book_of a.book.now) _ _ e entry_is c.in-Some.ensures c.stays.result
    (decides_iff c.stays.result (λ s. opens_of_cases Move n (λ x b y m. m.in_group.action_lt) (inr s))
    (λ o. ⊎_elim (λ x. absurd (c.if-opens.ensures x)) (λ s. s)
    (opens_cases Move n (λ x b y m. m.in_group.action_lt) self o))
    c.stays.ensures)
