-- The four bytes of the entry are written one after the other.
use Rattle.std.proofs.Common.{◌*◌, arith}
use Rattle.books.specs.Laws.FillingLaws.{entry_written}
use Rattle.books.proofs.entry.put_entry.Goals as goal

pub returns : goal.returns
returns c =
    entry_written c.args.book.now (4 * c.pair_place-at.result) _ _ _ _ c.requires.2
    (omega (arith, c.requires.0, c.requires.1)) (omega (arith, c.pair_place-at.ensures))
