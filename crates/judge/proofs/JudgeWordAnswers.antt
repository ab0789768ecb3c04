-- Each answer on a store that is judged once for Judge and Word keeps Judge's promise and then Word's: a list is short,
-- or all is done. Assumes nothing.
use Rattle.std.proofs.Common.{Ok, Err, List, ℕ, ◌≤◌, ◌<◌, length}
use Rattle.text.specs.Limits.{store_length, distances_length, table_length, word_length}
use Rattle.text.specs.Laws.ListsLaws.{past_refl}
use Rattle.text.specs.Model.{Model}
use Rattle.model.specs.Store.{Good}
use Rattle.model.specs.StoredModel.{model_at}
use Rattle.verdicts.specs.declared.judging.Verdict.{Verdict}
use Rattle.verdicts.specs.Inner.Judging.{Judging}
use Rattle.verdicts.specs.JudgeFilled.{JudgeFilled}
use Rattle.letters.specs.declared.word.Shown.{Shown}
use Rattle.letters.specs.WordDone.{shown_outcome, WordDone}
use Rattle.letters.specs.Laws.ShowableLaws.{distances_long, table_long}
use Rattle.model.specs.declared.refusal.Refusal.TheVariants.{ShortList}
use Rattle.judge.specs.JudgePromise.{judge_outcome}
use Rattle.judge.specs.WordPromise.{word_outcome}
use Rattle.judge.specs.JudgeWordPromise.{JudgeWordPromise}
use Rattle.judge.specs.Laws.JudgePromiseLaws.{judge_second_short, judge_third_short, judge_done}
use Rattle.judge.proofs.WordAnswers.{short_distances_promised, short_table_promised, short_word_promised}
use Rattle.judge.proofs.WordAnswers.{done_promised}

-- filled lists are filled again by what they hold
filled_again : {m : Model} {distances table distances' table' : List ℕ}
    → JudgeFilled m distances table distances' table' → JudgeFilled m distances' table' distances' table'
filled_again f = record {
  distances_filled = record { list = f.distances_filled.list; past = past_refl _ };
  ranks = f.ranks;
  table_past = past_refl _;
}

module _ (store distances table word : List ℕ) (first-long : store_length ≤ length store) where
  pub short_distances_answered : length distances < distances_length
      → JudgeWordPromise store distances table word (judge_outcome (Err (ShortList 2)))
      (word_outcome (Err (ShortList 2))) distances table word
  short_distances_answered h = record {
    judge_promise = judge_second_short store distances table first-long h;
    word_promise = short_distances_promised store distances table word first-long h;
  }

  module _ (second-long : distances_length ≤ length distances) where
    pub short_table_answered : length table < table_length
        → JudgeWordPromise store distances table word (judge_outcome (Err (ShortList 3)))
        (word_outcome (Err (ShortList 3))) distances table word
    short_table_answered h = record {
      judge_promise = judge_third_short store distances table first-long second-long h;
      word_promise = short_table_promised store distances table word first-long second-long h;
    }

    -- once it is judged
    module _ (third-long : table_length ≤ length table) (good : Good store) {v : Verdict}
        {begins roles distances' table' : List ℕ}
        (x : Judging (model_at store) v distances table begins roles distances' table') where
      pub short_word_answered : length word < word_length
          → JudgeWordPromise store distances table word (judge_outcome (Ok v))
          (word_outcome (Err (ShortList 4))) distances' table' word
      short_word_answered h = record {
        judge_promise =
            judge_done store distances table first-long second-long third-long good v begins roles distances' table' x;
        word_promise = short_word_promised store distances' table' word first-long
            (distances_long x second-long third-long) (table_long x second-long third-long) h;
      }

      pub done_answered : word_length ≤ length word → (s : Shown) {word' : List ℕ}
          → WordDone (model_at store) (shown_outcome s) word word'
          → JudgeWordPromise store distances table word (judge_outcome (Ok v))
          (word_outcome (Ok s)) distances' table' word'
      done_answered fourth-long s {word'} w = record {
        judge_promise =
            judge_done store distances table first-long second-long third-long good v begins roles distances' table' x;
        word_promise = done_promised store distances' table' word first-long (distances_long x second-long third-long)
            (table_long x second-long third-long) fourth-long s distances' table' word' good
            (filled_again x.filled) w;
      }
