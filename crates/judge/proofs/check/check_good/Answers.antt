-- Where no action is silent, no step is.
use Rattle.text.specs.Laws.DecidesLaws.{decides_false}
use Rattle.moves.specs.Laws.LabellingLaws.{no-tick}
use Rattle.judge.proofs.check.check_good.Goals as goal

pub check_steps-requires : goal.check_steps-requires
check_steps-requires c =
    record {
      stored = c.requires.stored;
      book_length_in_bounds = c.requires.book_length_in_bounds;
      by_index = no-tick c.requires.stored (decides_false c.has_silent.result _ c.has_silent.ensures
          c.if-has_silent.false);
    }
