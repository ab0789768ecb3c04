-- The refusals that every operation on a store tests first, and their numbers.
-- Document 01, "Refused because of the state", 21 and 22.
use Rattle.text.specs.Faults.{Outcome, refuses}
use Rattle.model.specs.declared.refusal.Refusal.{Refusal}
use Rattle.model.specs.declared.refusal.Refusal.TheVariants.{ShortList, NotGood}

-- "21: a lent list below its least length; place: the first such list, from 1", and 22 of a store that is not good,
-- with place 0
abbrev pub refusal_outcome : Refusal → Outcome
refusal_outcome (ShortList place) = refuses 21 place
refusal_outcome NotGood = refuses 22 0
