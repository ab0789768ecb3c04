-- Entries with other actions apart, the first bad entry is found label by label.
use Rattle.std.proofs.Common.{arith}
use Rattle.books.specs.Laws.ChecksLaws.{check_done_of_told}
use Rattle.weak_books.specs.Laws.NotedLaws.{used_to_le, sound_to_of-tests}
use Rattle.weak_books.proofs.check.check_label_book.Goals as goal

pub first_bad_low-k-requires : goal.first_bad_low-k-requires
first_bad_low-k-requires c =
    let le = c.first_bad_under-limit.ensures.number_le in record {
      own_numbers = c.own_numbers.ensures.0;
      targets = c.silent_targets.ensures;
      used_to = used_to_le le c.note_actions-labelled.ensures.used_to;
      limit_le_table_length = (
        omega (arith, le, c.note_actions-labelled.ensures.number_le),
        c.requires.book_length_in_bounds,
      );
    }

pub returns : goal.returns
returns c =
    let L = c.args.steps.listed in
    let found = sound_to_of-tests L c.note_actions-labelled.ensures c.silent_targets.ensures
    c.first_bad_under-limit.ensures c.first_bad_low-k.ensures in
    check_done_of_told found c.bad_or_sound.ensures
