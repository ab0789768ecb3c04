-- The places of a good store, as numbers of its model.
-- Document 01, "The model store"; document 02, (iii). Assumes nothing.
use Rattle.std.proofs.Common.{List, ◌≡◌, ℕ, ◌<◌, length, get_or, sym, ap, ◌∙◌, subst, arith}
use Rattle.text.specs.declared.Head.{Head}
use Rattle.text.specs.declared.StepLine.{StepLine}
use Rattle.text.specs.Limits.{step_place, action_of_step_place, target_place}
use Rattle.text.specs.Model.{Model}
use Rattle.model.specs.StoredModel.{head_at, extra_count_at, extra_start_at}
use Rattle.model.specs.System.{source, action, target, IsStart}
use Rattle.model.specs.Inner.Stored.{Stored}
use Rattle.model.specs.Laws.Store.SystemLaws.{head_start, extra_start}

module _ {s : List ℕ} {m : Model} (st : Stored s m) where
  pub stored_states : (head_at s).states ≡ m.head.states
  stored_states = ap (λ (h : Head). h.states) st.head_is

  pub stored_actions : (head_at s).actions ≡ m.head.actions
  stored_actions = ap (λ (h : Head). h.actions) st.head_is

  pub stored_steps : (head_at s).steps ≡ length m.steps
  stored_steps = ap (λ (h : Head). h.steps) st.head_is ∙ st.steps_is

  pub stored_start : (head_at s).start.0 ≡ m.head.start.0
  stored_start = ap (λ (h : Head). h.start.0) st.head_is

  -- the start of line 1 and the extra ones are starts of the model
  pub stored_head_start : IsStart m (head_at s).start.0
  stored_head_start = subst (IsStart m) (sym stored_start) (head_start m)

  pub stored_extra_start : (i : ℕ) → i < extra_count_at s → IsStart m (extra_start_at s i)
  stored_extra_start i l =
      let k : i < length m.extra_starts = omega (arith, st.extra_count_is) in
      subst (IsStart m) (sym (st.extra_start_is i k)) (extra_start m i k)

  pub stored_source : (j : ℕ) → j < length m.steps → get_or s (step_place j) 0 ≡ source m j
  stored_source j l = ap (λ (x : StepLine). x.source.0) (st.step_is j l)

  pub stored_action : (j : ℕ) → j < length m.steps → get_or s (action_of_step_place j) 0 ≡ action m j
  stored_action j l = ap (λ (x : StepLine). x.action.0) (st.step_is j l)

  pub stored_target : (j : ℕ) → j < length m.steps → get_or s (target_place j) 0 ≡ target m j
  stored_target j l = ap (λ (x : StepLine). x.target.0) (st.step_is j l)
