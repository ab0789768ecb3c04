-- A short list is refused as the promise says; else it is what `print_text` prints. The claim follows from the promise.
-- Assumes nothing.
use Rattle.page.proofs.PrintAnswers.{short_promised, printed_claimed}
use Rattle.page.proofs.print.print_in_form.Goals as goal

pub returns-in-Some : goal.returns-in-Some
returns-in-Some c =
    let kept = short_promised _ _ _ _ _ _ _ _ c.in-Some.place c.in-Some.ensures in
    record { print_promise = kept.0; print_claim = kept.1 }

pub returns : goal.returns
returns c =
    let kept = printed_claimed _ _ _ _ _ _ _ _ _ _ _ _ _ _ _ c.print_text-end.ensures in
    record { print_promise = kept.0; print_claim = kept.1 }
