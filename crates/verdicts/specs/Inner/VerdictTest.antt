-- The verdict of a model, computed: its ranks, its greatest rank and the lowest step of least depth. Only laws cite it.
-- Document 01, operations 3 and 4.
use Rattle.std.specs.Prelude.{Bool, cond, ◌&&◌, ℕ, zero, suc, ◌-◌, eqb, ltb, length}
use Rattle.lts.specs.Decided.{within?}
use Rattle.lts.specs.Checked.{weak_rank}
use Rattle.text.specs.Model.{high, Model}
use Rattle.model.specs.System.{source, action, target, level, view}
use Rattle.verdicts.specs.declared.judging.Verdict.{Verdict}
use Rattle.verdicts.specs.declared.judging.Verdict.TheVariants.{Passed, Refused}
use Rattle.model.specs.Inner.StepTest.{tests}

-- The rank of p and q.
abbrev pub rank_in : Model → ℕ → ℕ → ℕ
rank_in m p q = weak_rank (view m) (tests m) p q

-- Some run leads from a start to p: one of fewer steps than there are states.
abbrev pub reachable? : Model → ℕ → Bool
reachable? m p = within? (view m) (tests m) (m.head.states - 1) p

-- The greatest of f 0 up to f (n - 1); 0 if n is 0.
unfoldable pub greatest_below : ℕ → (ℕ → ℕ) → ℕ
greatest_below zero f = 0
greatest_below (suc n) f =
    let g = greatest_below n f in
    let x = f n in
    cond (ltb g x) x g

-- The greatest rank of two states.
abbrev pub greatest_rank : Model → ℕ
greatest_rank m = greatest_below m.head.states (λ p. greatest_below m.head.states (rank_in m p))

-- Step j is a high step that can be reached.
abbrev pub high_step? : Model → ℕ → Bool
high_step? m j = eqb (level m (action m j)) high && reachable? m (source m j)

-- The rank of the ends of step j if it is a high step that can be reached; 0 for any other.
abbrev pub depth_at : Model → ℕ → ℕ
depth_at m j = let r = rank_in m (source m j) (target m j) in cond (high_step? m j) r 0

-- A step and its depth; depth 0 stands for none.
pub record LeastDepth : Type 0 where
  pub step : ℕ
  pub depth : ℕ

-- What was found, once step n with the depth e is looked at too.
abbrev pub look_at : ℕ → ℕ → LeastDepth → LeastDepth
look_at n e found =
    cond (eqb e 0) found
    (cond (eqb found.depth 0) (record { step = n; depth = e })
    (cond (ltb e found.depth) (record { step = n; depth = e }) found))

-- The lowest step of least depth among those below n.
unfoldable pub least_below : Model → ℕ → LeastDepth
least_below m zero = record { step = 0; depth = 0 }
least_below m (suc n) =
    let found = least_below m n in
    let e = depth_at m n in
    look_at n e found

-- The verdict with the greatest rank `top`, and what was found among all steps.
abbrev pub verdict_from : ℕ → LeastDepth → Verdict
verdict_from top found = cond (eqb found.depth 0) (Passed top) (Refused (record { 0 = found.step }) found.depth)

abbrev pub verdict_of : Model → Verdict
verdict_of m =
    let top = greatest_rank m in
    let found = least_below m (length m.steps) in
    verdict_from top found
