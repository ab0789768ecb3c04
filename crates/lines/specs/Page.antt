-- What the page says of a model.
-- Document 01, "The page" and operation 7.
use Rattle.std.specs.Prelude.{List, [], ◌∷◌, ◌++◌, map, ◌≡◌, ℕ, suc, ◌<◌, length, drop}
use Rattle.std.proofs.Math.Option.{Option, none, some}
use Rattle.lts.specs.Alike.{Rank}
use Rattle.text.specs.Model.{Model}
use Rattle.model.specs.System.{source, ReachableIn, DistanceIn, SilentStep, NoSilentStep, DeterministicModel, IsState}
use Rattle.model.specs.System.{view, name_of}
use Rattle.verdicts.specs.declared.judging.Verdict.{Verdict}
use Rattle.verdicts.specs.declared.judging.Verdict.TheVariants.{Passed, Refused}
use Rattle.distances.specs.Runs.{RunTo}
use Rattle.verdicts.specs.Verdicts.{Judged}
use Rattle.letters.specs.declared.word.End.{End}
use Rattle.letters.specs.Words.{WordOf}
use Rattle.lines.specs.PageLines.{PageLine, verdict_line, state_line, run_line, word_line, allows_line}
use Rattle.lines.specs.PageLines.{no_word_line, last_line}
use Rattle.lts.specs.Weak.{WeakMove}

-- What stands in a `C` line as the distance of state p: "distance `-` if unreachable".
pub data DistanceField (m : Model) (p : ℕ) : Option ℕ → Type 0 where
  unreached : ¬ (ReachableIn m p) → DistanceField m p none
  reached : {d : ℕ} → DistanceIn m p d → DistanceField m p (some d)

-- Of the states of a kind, the lowest of rank 0 to p.
pub record LowestAlike (m : Model) (Among : ℕ → Type 0) (p class : ℕ) : Type 0 where
  pub class_among : Among class
  pub rank_zero : Rank (WeakMove (view m)) p class 0
  pub lowest : (q : ℕ) → q < class → Among q → ¬ (Rank (WeakMove (view m)) p q 0)

-- "class is the lowest state of rank 0 to it"
abbrev pub ClassOf : Model → ℕ → ℕ → Type 0
ClassOf m p class = LowestAlike m (IsState m) p class

-- The `C` lines of the states below n, "per state" one.
pub data StateLines (m : Model) : ℕ → List PageLine → Type 0 where
  no_state : StateLines m 0 []
  next_state : {n : ℕ} {lines : List PageLine} {distance : Option ℕ} {class : ℕ} → StateLines m n lines
      → DistanceField m n distance → ClassOf m n class
      → StateLines m (suc n) (lines ++ (state_line n distance class ∷ []))

-- `W,name`
abbrev pub name_line : Model → ℕ → PageLine
name_line m a = word_line (name_of m a)

-- "if deterministic, `W,name` per letter of the word and `B,source` or `B,target` for the end that allows it, otherwise
-- `N`". "Page fills [..] word if it prints a `B` line (as Word does)." The word has as many letters as the depth says.
-- A model with a reachable silent step has none: "Page prints `N` for it if it is refused" (document 02, (vii)).
pub data LeakShown (m : Model) (j depth : ℕ) (word word' : List ℕ) : List PageLine → Type 0 where
  by_word : {w : List ℕ} {end : End} → DeterministicModel m → NoSilentStep m → WordOf m j w end → length w ≡ depth
      → word' ≡ w ++ drop (length w) word
      → LeakShown m j depth word word' (map (name_line m) w ++ (allows_line end ∷ []))
  by_branch : ¬ (DeterministicModel m) → word' ≡ word → LeakShown m j depth word word' (no_word_line ∷ [])
  by_silent : (i : ℕ) → SilentStep m i → word' ≡ word → LeakShown m j depth word word' (no_word_line ∷ [])

-- "If refused: `R,step` per step of the run to the source of Judge's step"; then what shows the leak. "Page fills run
-- if the model is refused (as Run does for the source of Judge's step)".
pub record LeakLines (m : Model) (j depth : ℕ) (run word run' word' : List ℕ) (lines : List PageLine) : Type 0 where
  pub steps : List ℕ
  pub run_to : RunTo m (source m j) steps
  pub run_list : run' ≡ steps ++ drop (length steps) run
  pub rest : List PageLine
  pub shown : LeakShown m j depth word word' rest
  pub lines_are : lines ≡ map run_line steps ++ rest

-- A passed model has no such lines, and its run and word are unchanged.
pub record NoLeakLines (run word run' word' : List ℕ) (lines : List PageLine) : Type 0 where
  pub run_kept : run' ≡ run
  pub word_kept : word' ≡ word
  pub lines_are : lines ≡ []

-- What follows the `C` lines.
abbrev pub AfterStates : Model → Verdict → List ℕ → List ℕ → List ℕ → List ℕ → List PageLine → Type 0
AfterStates m (Passed rank) run word run' word' lines = NoLeakLines run word run' word' lines
AfterStates m (Refused j depth) run word run' word' lines = LeakLines m j.0 depth run word run' word' lines

-- The lines of the page, in order.
pub record PageOf (m : Model) (run word run' word' : List ℕ) (lines : List PageLine) : Type 0 where
  pub verdict : Verdict
  pub judged : Judged m verdict
  pub states : List PageLine
  pub state_lines : StateLines m m.head.states states
  pub after : List PageLine
  pub after_states : AfterStates m verdict run word run' word' after
  pub lines_are : lines ≡ (verdict_line verdict ∷ []) ++ states ++ after ++ (last_line ∷ [])
