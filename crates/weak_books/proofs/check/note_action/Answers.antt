-- The byte read is the entry's action, and its place is that of the mark.
use Rattle.std.proofs.Common.{ap, ◌∙◌, arith}
use Rattle.lts.specs.Book.{Entry}
use Rattle.weak_books.specs.Laws.NotedLaws.{label_of-action, action_noted-set}
use Rattle.weak_books.specs.Laws.BoundsLaws.{label_lt}
use Rattle.weak_books.proofs.check.note_action.Goals as goal

pub returns : goal.returns
returns c =
    let action_is = ap (λ (x : Entry). x.action) c.entry_at-entry.ensures in
    record {
      decides = label_of-action (c.from.ensures ∙ action_is) c.if-not-is_label.ensures;
      action_noted = action_noted-set action_is
          (omega (arith, label_lt c.if-not-is_label.ensures, c.from.ensures, c.requires.2));
    }
