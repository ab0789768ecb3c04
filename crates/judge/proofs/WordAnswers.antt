-- Each answer of Word keeps its promise: the lists' lengths decide first, then goodness. Assumes nothing.
use Rattle.std.proofs.Common.{Ok, Err, List, ◌≡◌, refl, ℕ, ◌≤◌, ◌<◌, length}
use Rattle.std.proofs.Math.Option.{none}
use Rattle.text.specs.Limits.{store_length}
use Rattle.text.specs.Limits.{distances_length, table_length, word_length}
use Rattle.model.specs.Store.{Good}
use Rattle.model.specs.StoredModel.{model_at}
use Rattle.text.specs.Laws.FirstShortLaws.{first_short_is, second_short, third_short, fourth_short, none_short_four}
use Rattle.model.proofs.Laws.OnStoreLaws.{on_store_short, on_store_not_good, on_store-model}
use Rattle.verdicts.specs.JudgeFilled.{JudgeFilled}
use Rattle.letters.specs.declared.word.Shown.{Shown}
use Rattle.letters.specs.WordDone.{shown_outcome, WordDone}
use Rattle.model.specs.declared.refusal.Refusal.TheVariants.{ShortList, NotGood}
use Rattle.judge.specs.WordPromise.{word_outcome, word_lists, WordPromise}

module _ (store distances table word : List ℕ) where
  pub short_store_promised : length store < store_length
      → WordPromise store distances table word (word_outcome (Err (ShortList 1))) distances table word
  unfolding word_outcome
  short_store_promised h = on_store_short (first_short_is _ _ h) refl (refl, refl, refl)

  module _ (first-long : store_length ≤ length store) where
    pub short_distances_promised : length distances < distances_length
        → WordPromise store distances table word (word_outcome (Err (ShortList 2))) distances table word
    unfolding word_outcome
    short_distances_promised h = on_store_short (second_short _ _ first-long h) refl (refl, refl, refl)

    module _ (second-long : distances_length ≤ length distances) where
      pub short_table_promised : length table < table_length
          → WordPromise store distances table word (word_outcome (Err (ShortList 3))) distances table word
      unfolding word_outcome
      short_table_promised h = on_store_short (third_short _ _ first-long second-long h) refl (refl, refl, refl)

      module _ (third-long : table_length ≤ length table) where
        pub short_word_promised : length word < word_length
            → WordPromise store distances table word (word_outcome (Err (ShortList 4))) distances table word
        unfolding word_outcome
        short_word_promised h =
            on_store_short (fourth_short _ _ first-long second-long third-long h) refl (refl, refl, refl)

        module _ (fourth-long : word_length ≤ length word) where
          word_lists_none : word_lists store distances table word ≡ none
          word_lists_none = none_short_four first-long second-long third-long fourth-long

          pub not_good_promised : ¬ (Good store)
              → WordPromise store distances table word (word_outcome (Err NotGood)) distances table word
          unfolding word_outcome
          not_good_promised n = on_store_not_good word_lists_none n refl (refl, refl, refl)

          pub done_promised : (s : Shown) (distances' table' word' : List ℕ) → Good store
              → JudgeFilled (model_at store) distances table distances' table'
              → WordDone (model_at store) (shown_outcome s) word word'
              → WordPromise store distances table word (word_outcome (Ok s)) distances' table' word'
          unfolding word_outcome
          done_promised s distances' table' word' good f d =
              on_store-model
              (λ m. JudgeFilled m distances table distances' table' × WordDone m (shown_outcome s) word word')
              word_lists_none good (f, d)
