-- Steps and moves turn round with the lists: where the lists of sources and targets change places, each move leads from
-- its target to its source. Document 02, (vii). Assumes nothing.
use Rattle.std.specs.Prelude.{List, ℕ}
use Rattle.std.proofs.Common.{arith, sym, subst}
use Rattle.lts.specs.Alike.{Moves}
use Rattle.lts.specs.Weak.{Silent, stay, tick, low, silent}
use Rattle.lts.proofs.WeakLaws.{silent_trans, silent_one}
use Rattle.silent.specs.declared.steps.LabelSteps.{LabelSteps}
use Rattle.silent.specs.Labelled.{LabelStep, LabelList, TickLabel, LabelMove}
use Rattle.silent.specs.Steps.{label_moves, turned_moves, TurnedSteps}
use Rattle.silent.specs.Laws.LabelledLaws.{label_step_source_lt}

module _ {from sources targets : List ℕ} where
  pub label_list_turned : {n : ℕ} → LabelList n from sources targets → LabelList n from targets sources
  label_list_turned L = record {
    some_state = L.some_state;
    states_le = L.states_le;
    rising = L.rising;
    last_le = L.last_le;
    source_lt = L.target_lt;
    target_lt = L.source_lt;
  }

  label_step_turned : {a p q : ℕ} → LabelStep from sources targets a p q → LabelStep from targets sources a q p
  label_step_turned s = record {
    place = s.place;
    from_le = s.from_le;
    place_lt = s.place_lt;
    source_is = s.target_is;
    target_is = s.source_is;
  }

module _ {n : ℕ} {from sources targets : List ℕ} (L : LabelList n from sources targets) where
  silent_turned : {p q : ℕ} → Silent (TickLabel from sources targets) n p q
      → Silent (TickLabel from targets sources) n q p
  silent_turned (stay l) = stay l
  silent_turned (tick t s) =
      silent_trans (silent_turned s) (silent_one (label_step_turned t) (label_step_source_lt L (omega arith) t))

  -- The other way round it is the same law, of the lists turned round.
  pub label_move_turned : {p a q : ℕ} → LabelMove n from sources targets p a q → LabelMove n from targets sources q a p
  label_move_turned (low m) = low (record {
    from = m.to;
    to = m.from;
    before = silent_turned m.after;
    step = (m.step.0, label_step_turned m.step.1);
    after = silent_turned m.before;
  })
  label_move_turned (silent e s) = silent e (silent_turned s)

-- The moves of steps turned round are the turned moves: what holds of the ones holds of the others.
module _ {s t : LabelSteps} (P : Moves → Type 0) (e : TurnedSteps s t) where
  pub of_turned : P (label_moves t) → P (turned_moves s)
  of_turned h =
      subst (λ n. P (LabelMove n s.from.now s.targets.now s.sources.now)) e.n_is
      (subst (λ f. P (LabelMove t.n f s.targets.now s.sources.now)) e.from_is
      (subst (λ x. P (LabelMove t.n t.from.now x s.sources.now)) e.sources_are
      (subst (λ y. P (LabelMove t.n t.from.now t.sources.now y)) e.targets_are h)))

  pub to_turned : P (turned_moves s) → P (label_moves t)
  to_turned h =
      subst (λ y. P (LabelMove t.n t.from.now t.sources.now y)) (sym e.targets_are)
      (subst (λ x. P (LabelMove t.n t.from.now x s.sources.now)) (sym e.sources_are)
      (subst (λ f. P (LabelMove t.n f s.targets.now s.sources.now)) (sym e.from_is)
      (subst (λ n. P (LabelMove n s.from.now s.targets.now s.sources.now)) (sym e.n_is) h)))
