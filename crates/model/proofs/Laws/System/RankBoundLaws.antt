-- The low steps of a model make a game, and so do the moves that are played; no rank of two of its states exceeds its
-- states minus 1. Document 01, "Rank"; document 02, (vii). Assumes nothing.
use Rattle.std.proofs.Common.{List, ℕ, ◌-◌, ◌≤◌, ◌<◌, arith}
use Rattle.lts.specs.Alike.{Rank}
use Rattle.lts.specs.Checked.{low_round, weak_round}
use Rattle.lts.proofs.CheckedLaws.{low_game, weak_view_game, no_silent_label_of_decided}
use Rattle.lts.specs.Game.{Game}
use Rattle.lts.specs.Weak.{silent_label, LowStep, WeakMove, NoSilentLabel}
use Rattle.lts.proofs.RankLaws.{rank_le, rank_lt}
use Rattle.text.specs.Model.{Model}
use Rattle.model.specs.WellFormed.{WellFormed}
use Rattle.model.specs.System.{view}
use Rattle.model.specs.Inner.Stored.{Stored}
use Rattle.model.specs.Inner.StepTest.{tests}
use Rattle.model.proofs.Laws.System.GoodStoredLaws.{well_formed_stored}
use Rattle.model.specs.Laws.System.StepTestLaws.{decided_view}

module _ {s : List ℕ} {m : Model} (st : Stored s m) where
  pub low_step_game : Game (LowStep (view m)) m.head.states (low_round (view m) (tests m))
  low_step_game = low_game (view m) (tests m) (decided_view st)

  -- No action has the silent moves' label.
  pub actions_le_silent_label : (tests m).actions ≤ silent_label
  actions_le_silent_label = omega (arith, st.actions_le)

  pub no_silent_label_view : NoSilentLabel (view m)
  no_silent_label_view = no_silent_label_of_decided (view m) (tests m) (decided_view st) actions_le_silent_label

  pub weak_move_game : Game (WeakMove (view m)) m.head.states (weak_round (view m) (tests m))
  weak_move_game = weak_view_game (view m) (tests m) (decided_view st) actions_le_silent_label

  pub stored_rank_lt : {p q k : ℕ} → p < m.head.states → q < m.head.states → Rank (WeakMove (view m)) p q k
      → k < m.head.states
  stored_rank_lt {p} {q} {k} = rank_lt (WeakMove (view m)) m.head.states _ weak_move_game p q k

-- "No rank exceeds states minus 1."
pub well_formed-rank_le : {m : Model} → WellFormed m → (p q r : ℕ) → p < m.head.states → q < m.head.states
    → Rank (WeakMove (view m)) p q r → r ≤ m.head.states - 1
well_formed-rank_le {m} w = rank_le (WeakMove (view m)) m.head.states _ (weak_move_game (well_formed_stored w))
