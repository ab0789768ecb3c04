-- What Judge answers.
-- Document 01, operation 4: "Answers *passed* with the greatest rank in the table, or *refused* with a step and a
-- depth: of the reachable high steps whose ends have a rank above 0, the least rank, and the lowest step number having
-- it."
use Rattle.std.specs.Prelude.{ℕ, ◌≤◌, ◌<◌}
use Rattle.lts.specs.Alike.{Rank}
use Rattle.lts.specs.Noninterference.{BNID}
use Rattle.text.specs.Model.{Model}
use Rattle.model.specs.System.{source, target}
use Rattle.model.specs.System.{IsState, HighStep, view}
use Rattle.verdicts.specs.declared.judging.Verdict.{Verdict}
use Rattle.verdicts.specs.declared.judging.Verdict.TheVariants.{Passed, Refused}
use Rattle.ranking.specs.Table.{Greatest}
use Rattle.lts.specs.Weak.{WeakMove}

-- Step j is a reachable high step whose ends have the rank d, above 0.
pub record Leak (m : Model) (j d : ℕ) : Type 0 where
  pub high_step : HighStep m j
  pub rank : Rank (WeakMove (view m)) (source m j) (target m j) d
  pub above_zero : 0 < d

-- Some low-view bisimulation pairs the ends of each reachable high step (demand 2: BNID, definition 22 of source 000).
pub record PassedWith (m : Model) (top : ℕ) : Type 0 where
  pub bnid : BNID (view m)
  pub greatest : Greatest (WeakMove (view m)) (IsState m) top

-- Of the reachable high steps whose ends have a rank above 0, d is the least rank, and j the lowest step having it.
pub record RefusedAt (m : Model) (j d : ℕ) : Type 0 where
  pub leak : Leak m j d
  pub least : (i e : ℕ) → Leak m i e → d ≤ e
  pub lowest : (i : ℕ) → Leak m i d → j ≤ i

-- What a verdict says of a model.
abbrev pub Judged : Model → Verdict → Type 0
Judged m (Passed top) = PassedWith m top
Judged m (Refused j d) = RefusedAt m j.0 d
