-- Each list that is short is a way of both promises; the rest is what `judge_good` leaves and what `show` finds.
use native.Mathlib.Omega.{arith}
use Rattle.model.proofs.Laws.System.GoodStoredLaws.{good→Stored}
use Rattle.letters.specs.Laws.ShowableLaws.{judging→Showable}
use Rattle.judge.proofs.JudgeWordAnswers.{short_distances_answered, short_table_answered, short_word_answered}
use Rattle.judge.proofs.JudgeWordAnswers.{done_answered}
use Rattle.judge.proofs.judge_word.judge_word.Goals as goal

pub returns-then-distances-lt-DISTANCES_LENGTH : goal.returns-then-distances-lt-DISTANCES_LENGTH
returns-then-distances-lt-DISTANCES_LENGTH c =
    let args = c.args in
    short_distances_answered args.store.now args.distances.now args.table.now args.word.now
    c.requires.0 c.if-distances-lt-DISTANCES_LENGTH.true

pub returns-then-table-lt-TABLE_LENGTH : goal.returns-then-table-lt-TABLE_LENGTH
returns-then-table-lt-TABLE_LENGTH c =
    let args = c.args in
    short_table_answered args.store.now args.distances.now args.table.now args.word.now c.requires.0
    c.if-distances-lt-DISTANCES_LENGTH.false c.if-table-lt-TABLE_LENGTH.true

pub judge_good-v-requires : goal.judge_good-v-requires
judge_good-v-requires c =
    record {
      stored = good→Stored c.args.store.now c.requires.0 c.requires.1;
      index_length_is = omega arith;
      roles_length = omega arith;
      distances_length_is = c.if-distances-lt-DISTANCES_LENGTH.false;
      table_length_is = c.if-table-lt-TABLE_LENGTH.false;
    }

pub returns-then-word-lt-WORD_LENGTH : goal.returns-then-word-lt-WORD_LENGTH
returns-then-word-lt-WORD_LENGTH c =
    let args = c.args in
    short_word_answered args.store.now args.distances.now args.table.now args.word.now c.requires.0
    c.if-distances-lt-DISTANCES_LENGTH.false c.if-table-lt-TABLE_LENGTH.false c.requires.1 c.judge_good-v.ensures
    c.if-word-lt-WORD_LENGTH.true

pub show-shown-requires : goal.show-shown-requires
show-shown-requires c =
    let store = c.args.store.now in
    judging→Showable c.judge_good-v.ensures c.if-distances-lt-DISTANCES_LENGTH.false c.if-table-lt-TABLE_LENGTH.false
    store
    c.args.word.now (good→Stored store c.requires.0 c.requires.1)
    (omega (arith, c.judge_good-v.auto.begins)) (omega (arith, c.judge_good-v.auto.roles))
    c.if-word-lt-WORD_LENGTH.false

pub returns : goal.returns
returns c =
    let args = c.args in
    done_answered args.store.now args.distances.now args.table.now args.word.now c.requires.0
    c.if-distances-lt-DISTANCES_LENGTH.false c.if-table-lt-TABLE_LENGTH.false c.requires.1 c.judge_good-v.ensures
    c.if-word-lt-WORD_LENGTH.false c.show-shown.result c.show-shown.ensures
