-- Where no action is silent, no step is.
use Rattle.text.specs.Laws.DecidesLaws.{decides_false}
use Rattle.moves.specs.Laws.LabellingLaws.{no-tick}
use Rattle.judge.proofs.book.book_good.Goals as goal

pub book_steps-requires : goal.book_steps-requires
book_steps-requires c =
    record {
      stored = c.requires.stored;
      table_length_in_bounds = c.requires.table_length_in_bounds;
      by_index = no-tick c.requires.stored (decides_false c.has_silent.result _ c.has_silent.ensures
          c.if-has_silent.false);
    }
