-- Where no step branches the model is deterministic, and where no silent step is found none can be reached.
use Rattle.letters.specs.Laws.WordsLaws.{deterministic_of_no_branch}
use Rattle.letters.proofs.ShowAnswers.{branching_done, silent_done}
use Rattle.letters.proofs.word.show.Goals as goal

pub first_branch-requires : goal.first_branch-requires
first_branch-requires c =
    let L = c.requires.lists in
    record {
      stored = L.stored;
      distances_length_in_bounds = (L.distances_length_is, L.distances_are);
    }

pub first_silent-requires : goal.first_silent-requires
first_silent-requires c =
    let L = c.requires.lists in
    record {
      stored = L.stored;
      roles_of = L.roles_of;
      distances_length_in_bounds = (L.distances_length_is, L.distances_are);
    }

pub show_word-requires : goal.show_word-requires
show_word-requires c = record {
  showable = c.requires;
  deterministic_model = (
    deterministic_of_no_branch c.requires.lists.stored c.in-None.ensures,
    c.in-None-first_silent.ensures,
  );
}

pub returns-in-Some : goal.returns-in-Some
returns-in-Some c = branching_done _ _ c.in-Some.ensures

pub returns-in-Some-first_silent : goal.returns-in-Some-first_silent
returns-in-Some-first_silent c =
    silent_done _ _ (deterministic_of_no_branch c.requires.lists.stored c.in-None.ensures)
    c.in-Some-first_silent.ensures
