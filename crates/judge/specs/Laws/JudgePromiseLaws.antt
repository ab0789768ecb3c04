-- Judge keeps its promise in each of its ways, and the promise pins one answer and one content of each list.
-- Document 01, operation 4 and "Refused because of the state". Assumes nothing.
use Rattle.std.specs.Prelude.{Ok, Err, List, ◌≡◌, ℕ, ◌≤◌, ◌<◌, length}
use Rattle.std.proofs.Math.Option.{none}
use Rattle.std.proofs.Math.Path.{refl}
use Rattle.std.proofs.Common.{sym, ap, ◌∙◌}
use Rattle.text.specs.Limits.{store_length}
use Rattle.text.specs.Faults.{Outcome}
use Rattle.model.specs.Store.{Good}
use Rattle.model.specs.StoredModel.{model_at}
use Rattle.model.proofs.Laws.OnStoreLaws.{on_store_short, on_store_not_good, on_store-model, on_store_unique}
use Rattle.verdicts.specs.declared.judging.Verdict.{Verdict}
use Rattle.model.specs.declared.refusal.Refusal.TheVariants.{ShortList, NotGood}
use Rattle.text.specs.Limits.{distances_length, table_length}
use Rattle.text.specs.Laws.FirstShortLaws.{first_short_is, second_short, third_short, none_short_three}
use Rattle.model.proofs.Laws.System.GoodStoredLaws.{good_stored}
use Rattle.verdicts.specs.Verdicts.{Judged}
use Rattle.verdicts.proofs.Laws.VerdictsLaws.{judged_unique}
use Rattle.verdicts.specs.Inner.Judging.{Judging}
use Rattle.judge.specs.JudgePromise.{verdict_outcome, judge_outcome, judge_lists, JudgePromise}
use Rattle.verdicts.specs.JudgeFilled.{JudgeFilled}
use Rattle.verdicts.specs.Laws.JudgeFilledLaws.{filled_unique}

module _ (store distances table : List ℕ) where
  -- ---- the ways of the promise: the lengths of the lists decide first, then goodness

  pub judge_first_short : length store < store_length
      → JudgePromise store distances table (judge_outcome (Err (ShortList 1))) distances table
  unfolding judge_outcome
  judge_first_short h = on_store_short (first_short_is _ _ h) refl (refl, refl)

  module _ (first-long : store_length ≤ length store) where
    pub judge_second_short : length distances < distances_length
        → JudgePromise store distances table (judge_outcome (Err (ShortList 2))) distances table
    unfolding judge_outcome
    judge_second_short h = on_store_short (second_short _ _ first-long h) refl (refl, refl)

    module _ (second-long : distances_length ≤ length distances) where
      pub judge_third_short : length table < table_length
          → JudgePromise store distances table (judge_outcome (Err (ShortList 3))) distances table
      unfolding judge_outcome
      judge_third_short h = on_store_short (third_short _ _ first-long second-long h) refl (refl, refl)

      module _ (third-long : table_length ≤ length table) where
        pub judge_lists_none : judge_lists store distances table ≡ none
        judge_lists_none = none_short_three first-long second-long third-long

        pub judge_not_good : ¬ (Good store)
            → JudgePromise store distances table (judge_outcome (Err NotGood)) distances table
        unfolding judge_outcome
        judge_not_good n = on_store_not_good judge_lists_none n refl (refl, refl)

        pub judge_done : Good store → (v : Verdict) (begins roles distances' table' : List ℕ)
            → Judging (model_at store) v distances table begins roles distances' table'
            → JudgePromise store distances table (judge_outcome (Ok v)) distances' table'
        unfolding judge_outcome
        judge_done good v begins roles distances' table' j =
            on_store-model (λ m. (w : Verdict) × (verdict_outcome v ≡ verdict_outcome w) × Judged m w
            × JudgeFilled m distances table distances' table') judge_lists_none good (v, refl, j.verdict, j.filled)

-- ---- one answer

pub judge_promise_unique : (store distances table : List ℕ) (outcome outcome' : Outcome) (u v x y : List ℕ)
    → JudgePromise store distances table outcome u v → JudgePromise store distances table outcome' x y
    → (outcome ≡ outcome') × (u ≡ x) × (v ≡ y)
judge_promise_unique store distances table outcome outcome' u v x y p q =
    let e = on_store_unique {Same = (u ≡ x) × (v ≡ y)} (λ a b. (a.0 ∙ sym b.0, a.1 ∙ sym b.1)) pins p q in
    (e.0, e.1.0, e.1.1)
  where
    Done : Outcome → List ℕ → List ℕ → Good store → Type 0
    Done t d r g =
        (w : Verdict) × (t ≡ verdict_outcome w) × Judged g.model w × JudgeFilled g.model distances table d r

    pins : (g : Good store) → Done outcome u v g → Done outcome' x y g → (outcome ≡ outcome') × ((u ≡ x) × (v ≡ y))
    pins g a b =
        let e = judged_unique g.model a.0 b.0 a.2 b.2 in (
          a.1 ∙ ap verdict_outcome e ∙ sym b.1,
          filled_unique (good_stored store g) distances table u v x y a.3 b.3,
        )
