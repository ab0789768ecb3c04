-- The entry is that of the side that opens.
use Rattle.std.proofs.Common.{◌≡◌, sym, ap, ◌∙◌, Option, None}
use Rattle.books.specs.Inner.Sides.{entry_of}
use Rattle.weak_books.specs.declared.opening.Opening.{Opening}
use Rattle.weak_books.specs.Inner.Entering.{opening_entry}
use Rattle.weak_books.specs.Laws.EnteringLaws.{entry_written_as}
use Rattle.weak_books.proofs.entering.put_opening.Goals as goal
use Rattle.weak_books.proofs.entering.put_opening.Goals.{in-Some, in-None}

pub returns : goal.returns
returns c =
    let a = c.args in
    let from : Option Opening → _ = λ first. opening_entry first a.second a.depth in
    let back : Option Opening → _ = λ second. opening_entry None second a.depth in
    let e : entry_of c.match-first.entry ≡ opening_entry a.first a.second a.depth =
    elim c.match-first.branch [
      | in-Some w ↦ ap entry_of w.entry-is ∙ w.entry_by-entry.ensures ∙ sym (ap from w.in-Some.is)
      | in-None w ↦ ap entry_of w.entry-is ∙ w.entry_by-entry-in-None.ensures
          ∙ sym (ap from w.in-None.is ∙ ap back w.unwrap.ensures)
    ] in
    entry_written_as e c.put_entry.ensures
