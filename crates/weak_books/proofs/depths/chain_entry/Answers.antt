-- An entry that is there becomes the first one of its depth's chain; a byte is a depth.
use Rattle.std.proofs.Common.{refl, sym, ap, subst, arith}
use Rattle.lts.specs.Book.{Entry, Present}
use Rattle.weak_books.specs.Laws.ChainsLaws.{chained_next}
use Rattle.weak_books.proofs.depths.chain_entry.Goals as goal

pub returns : goal.returns
returns c =
    let there = c.entry_at-entry.ensures in
    chained_next
    (record {
      present = subst Present there c.if-entry-eq0.false;
      depth_is = sym (ap (λ (x : Entry). x.depth) there);
    })
    (omega arith) (omega arith) (omega arith) refl refl c.requires.2
