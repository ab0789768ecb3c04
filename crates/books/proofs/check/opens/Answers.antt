-- The opening is there, and its target is a state; each answer was looked up.
use Rattle.text.specs.Laws.DecidesLaws.{decides_iff}
use Rattle.books.proofs.check.opens.Goals as goal

pub returns : goal.returns
returns c =
    rw (← c.byte_value.ensures, ← c.byte_value-2.ensures)
    (decides_iff c.answers_lower_entries.result (λ h. record { opening = c.if-not-has_move.ensures; answers = h })
    (λ o. o.answers) c.answers_lower_entries.ensures)
