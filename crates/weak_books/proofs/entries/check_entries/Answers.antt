-- Where nothing is stored yet no label is flagged.
use Rattle.held.specs.Laws.ListedLaws.{held_list}
use Rattle.text.specs.Laws.ListLaws.{get_or-zeros}
use Rattle.weak_books.specs.Inner.Bounds.{byte_values}
use Rattle.weak_books.specs.Laws.BoundsLaws.{label_lt}
use Rattle.weak_books.proofs.entries.check_entries.Goals as goal

pub flag_labels-requires : goal.flag_labels-requires
flag_labels-requires c =
    let H = (held_list c.args.moves) in
    (H.count_le, λ i l. label_lt (H.label i l), get_or-zeros byte_values)
