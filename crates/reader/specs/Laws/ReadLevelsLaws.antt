-- Behind the last action the levels that the store holds decide: the text is refused at the last action's line, or its
-- extra starts are read.
-- Document 02, (vi). Assumes nothing.
use Rattle.std.specs.Prelude.{List, [], ◌≡◌, refl, ℕ, ◌-◌, T}
use Rattle.std.proofs.Common.{sym, ◌∙◌}
use native.Mathlib.Omega.{arith}
use Rattle.std.proofs.Math.Dec.{not_T}
use Rattle.text.specs.declared.Fault.TheVariants.{NoHigh}
use Rattle.text.specs.declared.Head.{Head}
use Rattle.text.specs.Model.{some_high?}
use Rattle.model.specs.Reading.{faulty, behind_actions, read_actions}
use Rattle.model.specs.StoredModel.{action_at, listed}
use Rattle.model.proofs.Laws.Text.PartsLaws.{behind_actions_high, behind_actions_no_high}
use Rattle.model.proofs.Laws.Store.NamesLaws.{listed_stored}
use Rattle.model.specs.Laws.Store.StartsLaws.{last_start-nil}
use Rattle.model.specs.Laws.Store.PutLaws.{actions_numbers-length_of_short}
use Rattle.reader.specs.declared.answers.LineStart.{LineStart}
use Rattle.reader.specs.Inner.ReadSoFar.{whole, parts_from, AfterActions, AfterAllActions}
use Rattle.reader.specs.Laws.NameLaws.{actions_stored_so_far}

module _ (h : Head) (text : List ℕ) (from : LineStart) (store : List ℕ)
    (b : AfterActions h text from h.actions store) where
  behind : whole text ≡ behind_actions from.line
      (record { head = h; actions = b.actions; extra_starts = []; steps = [] }) (parts_from text from)
  unfolding read_actions
  behind = let z : h.actions - h.actions ≡ 0 = omega arith in b.rest ∙ rw z

  shown : listed h.actions (action_at store) ≡ b.actions
  shown =
      listed_stored store b.actions h.actions (sym b.count)
      (actions_stored_so_far h text from h.actions store b)

  -- without a high action the text is refused at the line before
  pub no_high_refused : ¬ (T (some_high? (listed h.actions (action_at store))))
      → whole text ≡ faulty NoHigh (from.line - 1)
  no_high_refused n =
      behind
      ∙ behind_actions_no_high from.line _ (parts_from text from)
      (not_T (some_high? b.actions) (λ t. n (rw (← shown) at t)))

  -- with one the extra starts come next
  pub after_actions : T (some_high? (listed h.actions (action_at store))) → AfterAllActions h text from store
  after_actions w =
      let n = actions_numbers-length_of_short b.actions b.short in
      let m = b.ranges.actions in
      record {
        ranges = b.ranges;
        inside = b.inside;
        actions = b.actions;
        action_places = omega (arith, n, m, b.count);
        extra_starts = [];
        count = refl;
        last_start_is = last_start-nil h.start.0;
        count_le = omega arith;
        last_lt = b.ranges.start;
        stored = b.stored;
        rest = behind
            ∙ behind_actions_high from.line _ (parts_from text from)
            (rw shown at w);
      }
