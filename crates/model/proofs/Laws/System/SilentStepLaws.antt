-- A model has no silent step that can be reached exactly where its view has none, and then its ranks between reachable
-- states are those under the low steps; two of its states have the rank 0 exactly where a weak bisimulation of source
-- 002 pairs them. Document 02, (vii); definition 1 of source 002. Assumes nothing.
use Rattle.std.proofs.Common.{List, ◌↔◌, ◌≡◌, refl, ℕ, zero, suc, ◌≤◌, ◌<◌, sym, ap, ◌∙◌, subst, arith, eqb→eq}
use Rattle.lts.proofs.TestsLaws.{T-eqb}
use Rattle.lts.specs.Alike.{Rank}
use Rattle.lts.specs.Checked.{low_round, weak_round}
use Rattle.lts.specs.Weak.{LowStep, Tick, WeakMove, NoTick}
use Rattle.lts.proofs.WeakLaws.{weak_rank}
use Rattle.lts.specs.Noninterference.{Levelled, low, release, high, LevelledSteps}
use Rattle.lts.specs.SingleOpenings.{WeakBisimilar}
use Rattle.lts.proofs.SingleOpeningsLaws.{rank_zero↔Weak_bisimilar}
use Rattle.text.specs.Model.{silent, last_level, Model}
use Rattle.model.specs.System.{source, action, target, level, SilentStep, ReachableIn, view}
use Rattle.model.specs.Inner.Stored.{Stored}
use Rattle.model.specs.Inner.StepTest.{tests}
use Rattle.model.specs.Laws.System.StepTestLaws.{decided_view, bounded_view}
use Rattle.model.proofs.Laws.System.RankBoundLaws.{low_step_game, weak_move_game, no_silent_label_view}

module _ (m : Model) where
  -- A silent step of the view from a reachable state is one of the model that can be reached, and the other way round.
  silent_step_of_tick : (p q : ℕ) → ReachableIn m p → Tick (view m) p q → (j : ℕ) × SilentStep m j
  silent_step_of_tick p q r t =
      let x = t.step in (
        x.number,
        record {
          number_lt = x.number_lt;
          is_silent = ap (level m) x.action_is ∙ eqb→eq (level m t.action) silent t.is_silent;
          reachable = subst (ReachableIn m) (sym x.source_is) r;
        },
      )

  tick_of_silent_step : (j : ℕ) → SilentStep m j → Tick (view m) (source m j) (target m j)
  tick_of_silent_step j x = record {
    action = action m j;
    is_silent = T-eqb x.is_silent;
    step = record { number = j; number_lt = x.number_lt; source_is = refl; action_is = refl; target_is = refl };
  }

  pub no_tick_of_no_silent_step : ((j : ℕ) → ¬ (SilentStep m j)) ↔ NoTick (view m)
  no_tick_of_no_silent_step = (
    λ none p q r t. let x = silent_step_of_tick p q r t in none x.0 x.1,
    λ still j x. still (source m j) (target m j) x.reachable (tick_of_silent_step j x),
  )

-- An action that is not silent is low, release or high.
levelled_of_not-silent : (m : Model) (a k : ℕ) → level m a ≡ k → k ≤ last_level → ¬ (k ≡ silent)
    → Levelled (view m).levels a
levelled_of_not-silent m a zero e l d = low (T-eqb e) (rw e tt) (rw e tt)
levelled_of_not-silent m a (suc zero) e l d = release (rw e tt) (T-eqb e) (rw e tt)
levelled_of_not-silent m a (suc (suc zero)) e l d = high (rw e tt) (rw e tt) (T-eqb e)
levelled_of_not-silent m a (suc (suc (suc zero))) e l d = absurd (d refl)
levelled_of_not-silent m a (suc (suc (suc (suc k)))) e l d = absurd (omega arith)

module _ {s : List ℕ} {m : Model} (st : Stored s m) where
  pub levelled_of_no_tick : NoTick (view m) → LevelledSteps (view m)
  levelled_of_no_tick still p a q r x =
      levelled_of_not-silent m a (level m a) refl (st.level_le a ((decided_view st).steps.label_lt p a q x))
      (λ e. still p q r (record { action = a; is_silent = T-eqb e; step = x }))

  -- Where no silent step can be reached, the ranks between reachable states are those under the low steps.
  pub rank↔low_rank : NoTick (view m) → (p q r : ℕ) → ReachableIn m p → ReachableIn m q
      → Rank (LowStep (view m)) p q r ↔ Rank (WeakMove (view m)) p q r
  rank↔low_rank still = weak_rank (view m) still (bounded_view st) (no_silent_label_view st)
      (low_round (view m) (tests m))
      (weak_round (view m) (tests m)) (low_step_game st) (weak_move_game st)

  -- "as in the weak bisimulation of source document 002"
  pub model_rank_zero↔Weak_bisimilar : (p q : ℕ) → p < m.head.states → q < m.head.states
      → Rank (WeakMove (view m)) p q 0 ↔ WeakBisimilar (LowStep (view m)) (Tick (view m)) m.head.states p q
  model_rank_zero↔Weak_bisimilar = rank_zero↔Weak_bisimilar (LowStep (view m)) (Tick (view m)) m.head.states
      (λ p a q x. omega (arith, x.1.action_is, st.action_lt x.1.number x.1.number_lt, st.actions_le))
      (λ p a q x. (bounded_view st).target_lt p a q x.1)
      (λ p q x. (bounded_view st).target_lt p x.action q x.step)
      (weak_round (view m) (tests m)) (weak_move_game st)
