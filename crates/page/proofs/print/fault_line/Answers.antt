-- The number and the place of the refusal, in one line. Assumes nothing.
use Rattle.page.proofs.print.fault_line.Goals as goal

pub refusal_line-requires : goal.refusal_line-requires
refusal_line-requires c = c.requires.1

pub returns : goal.returns
returns c =
    record {
      number = c.refusal_of-refusal.result.number;
      place = c.refusal_of-refusal.result.place;
      outcome_is = c.refusal_of-refusal.ensures;
      wrote = c.refusal_line.ensures;
    }
