-- Where nothing is stored yet no entry is chained and no label flagged; the first bad entry of all is told.
use Rattle.held.specs.Laws.ListedLaws.{held_list}
use Rattle.text.specs.Limits.{table_length}
use Rattle.text.specs.Laws.ListLaws.{get_or-zeros}
use Rattle.books.specs.Laws.ChecksLaws.{check_done_of_told}
use Rattle.weak_books.specs.Inner.Bounds.{byte_values}
use Rattle.weak_books.specs.Laws.ChainsLaws.{chained-zero}
use Rattle.weak_books.specs.Laws.BoundsLaws.{label_lt}
use Rattle.weak_books.proofs.depths.check_held_book.Goals as goal

pub chain_entries-requires : goal.chain_entries-requires
chain_entries-requires c =
    (c.requires.book_length_in_bounds, chained-zero (get_or-zeros byte_values) (get_or-zeros table_length))

pub flag_labels-requires : goal.flag_labels-requires
flag_labels-requires c =
    let H = held_list c.args.moves in
    (H.count_le, λ i l. label_lt (H.label i l), get_or-zeros byte_values)

pub returns : goal.returns
returns c = check_done_of_told c.first_bad_by_depth-k.ensures c.bad_or_sound.ensures
