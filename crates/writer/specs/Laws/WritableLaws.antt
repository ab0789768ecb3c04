-- A store that holds a model has counts within their limits, and a text that fits.
-- Document 01, "The text" and "The model store"; document 02, (iii). Assumes nothing.
use Rattle.std.specs.Prelude.{List, ℕ, ◌≤◌, length}
use Rattle.std.proofs.Common.{arith}
use Rattle.text.specs.Limits.{action_limit, step_limit, extra_limit, out_length}
use Rattle.text.specs.Laws.RangesLaws.{head_fits?→HeadRanges}
use Rattle.model.specs.StoredModel.{head_at, extra_count_at, model_at}
use Rattle.model.proofs.Laws.Store.StoredModelLaws.{good_well_formed}
use Rattle.model.proofs.Laws.System.GoodStoredLaws.{good→Stored}
use Rattle.model.specs.Text.{model_text}
use Rattle.model.specs.Laws.Text.TextLengthLaws.{model_text-length_le}
use Rattle.writer.specs.Inner.Writable.{Writable}

module _ (s : List ℕ) (w : Writable s) where
  pub actions_le : (head_at s).actions ≤ action_limit
  unfolding model_at
  actions_le = (head_fits?→HeadRanges (head_at s) (good_well_formed s w.good).head).actions

  pub steps_le : (head_at s).steps ≤ step_limit
  unfolding model_at
  steps_le = (head_fits?→HeadRanges (head_at s) (good_well_formed s w.good).head).steps

  pub extra_starts_le : extra_count_at s ≤ extra_limit
  extra_starts_le =
      let st = good→Stored s w.long w.good in omega (arith, st.extra_count_is, st.extra_count_le)

  pub text_le : length (model_text (model_at s)) ≤ out_length
  text_le = model_text-length_le (model_at s) (good_well_formed s w.good)
