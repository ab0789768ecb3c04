-- Each answer of Page and of Roll keeps its promise: the lists' lengths decide first, then goodness. Assumes nothing.
use Rattle.std.proofs.Common.{Ok, Err, List, [], ◌∷◌, ◌≡◌, refl, ℕ, length}
use mathlib.Core.Option.{none}
use Rattle.text.specs.Faults.{answers}
use Rattle.model.specs.Store.{Good}
use Rattle.model.specs.StoredModel.{model_at}
use Rattle.text.specs.Laws.FirstShortLaws.{none_short_six}
use Rattle.model.proofs.Laws.OnStoreLaws.{on_store_short, on_store_not_good, on_store-model}
use Rattle.verdicts.specs.JudgeFilled.{JudgeFilled}
use Rattle.lines.specs.declared.lines.Form.{Form}
use Rattle.model.specs.declared.refusal.Refusal.TheVariants.{ShortList, NotGood}
use Rattle.page.specs.PagePromise.{page_outcome, page_lists, PagePrinted, FormPromise}
use Rattle.page.specs.Inner.PageLists.{LongLists, ShortAt, PageMade}

module _ (form : Form) (store distances table run word out : List ℕ) where
  pub short_promised : (k : ℕ)
      → ShortAt form (length store) (length distances) (length table) (length run) (length word) (length out) k
      → FormPromise form store distances table run word out (page_outcome (Err (ShortList k))) distances table run word
      out
  unfolding page_outcome
  short_promised k x = on_store_short x.short refl (refl, refl, refl, refl, refl)

  module _ (long : LongLists form store distances table run word out) where
    page_lists_none : page_lists form store distances table run word out ≡ none
    page_lists_none =
        none_short_six long.store_length_is long.distances_length_is long.table_length_is long.run_length_is
        long.word-length long.out_length

    pub not_good_promised : ¬ (Good store) → FormPromise form store distances table run word out
        (page_outcome (Err NotGood)) distances table run word out
    unfolding page_outcome
    not_good_promised n = on_store_not_good page_lists_none n refl (refl, refl, refl, refl, refl)

    pub printed_promised : Good store → (n : ℕ) (distances' table' run' word' out' : List ℕ)
        → PageMade form (model_at store) n distances table run word out distances' table' run' word' out'
        → FormPromise form store distances table run word out (page_outcome (Ok n)) distances' table' run' word'
        out'
    unfolding page_outcome
    printed_promised good n distances' table' run' word' out' made =
        on_store-model (λ m. JudgeFilled m distances table distances' table'
        × PagePrinted form m (answers (n ∷ [])) run word out run' word' out')
        page_lists_none good (made.filled, made.printed)
