-- The `C` lines of a model, computed. Only laws cite it.
-- Document 01, "The page".
use Rattle.std.specs.Prelude.{Bool, cond, List, [], ◌∷◌, ◌++◌, ℕ, zero, suc, eqb, ltb}
use Rattle.std.proofs.Math.Option.{Option, none, some}
use Rattle.lts.specs.Decided.{within?}
use Rattle.text.specs.Model.{Model}
use Rattle.verdicts.specs.Inner.VerdictTest.{rank_in}
use Rattle.lines.specs.PageLines.{PageLine, state_line}
use Rattle.model.specs.System.{view}
use Rattle.model.specs.Inner.StepTest.{tests}

-- The least number below n that passes f; n if none does.
unfoldable pub least_passing : ℕ → (ℕ → Bool) → ℕ
least_passing zero f = zero
least_passing (suc n) f =
    let i = least_passing n f in
    let b = f n in
    cond (ltb i n) i (cond b n (suc n))

-- At most k steps lead from a start to p.
abbrev pub near? : Model → ℕ → ℕ → Bool
near? m p k = within? (view m) (tests m) k p

-- The least number of steps to p, which is below the number of states; none if p is not reachable.
abbrev pub least_distance : Model → ℕ → Option ℕ
least_distance m p =
    let d = least_passing m.head.states (near? m p) in
    cond (ltb d m.head.states) (some d) none

-- q has the rank 0 to p.
abbrev pub rank_zero? : Model → ℕ → ℕ → Bool
rank_zero? m p q = eqb (rank_in m p q) 0

-- The lowest state of rank 0 to p: p itself if none below is.
abbrev pub lowest_alike : Model → ℕ → ℕ
lowest_alike m p = least_passing p (rank_zero? m p)

-- The `C` lines of the states below n.
unfoldable pub state_lines_of : Model → ℕ → List PageLine
state_lines_of m zero = []
state_lines_of m (suc n) =
    let distance = least_distance m n in
    let class = lowest_alike m n in
    state_lines_of m n ++ (state_line n distance class ∷ [])
