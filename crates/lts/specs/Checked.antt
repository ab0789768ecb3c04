-- The tests of BNID and of deterministic, for views that tests decide. Document 01, "The meaning"; definition 22 of
-- source 000. Assumes nothing.
use Rattle.std.specs.Prelude.{Bool, not, ◌&&◌, ◌||◌, ℕ, ◌-◌, eqb}
use Rattle.lts.specs.Tests.{all, any}
use Rattle.lts.specs.Game.{rank}
use Rattle.lts.specs.View.{View}
use Rattle.lts.specs.Decided.{answers?, ViewTest, within?}
use Rattle.lts.specs.WeakTests.{weak?, weak_answers?}

-- The test of `LowStep`.
abbrev pub low_step? : View → ViewTest → ℕ → ℕ → ℕ → Bool
low_step? v t p a q = v.levels.low? a && t.step? p a q

-- One round under the low steps, inside R.
abbrev pub low_round : View → ViewTest → (ℕ → ℕ → Bool) → ℕ → ℕ → Bool
low_round v t = answers? v.states t.actions (low_step? v t)

-- The rank of p and q under the low steps, computed.
abbrev pub low_rank : View → ViewTest → ℕ → ℕ → ℕ
low_rank v t p q = rank (low_round v t) v.states p q

-- The test of `Tick`.
abbrev pub tick? : View → ViewTest → ℕ → ℕ → Bool
tick? v t p q = any t.actions (λ a. let s = t.step? p a q in v.levels.silent? a && s)

-- The test of `WeakMove`.
abbrev pub weak_move? : View → ViewTest → ℕ → ℕ → ℕ → Bool
weak_move? v t = weak? v.states (low_step? v t) (tick? v t)

-- One round under the moves that are played, inside R.
abbrev pub weak_round : View → ViewTest → (ℕ → ℕ → Bool) → ℕ → ℕ → Bool
weak_round v t = weak_answers? v.states t.actions (low_step? v t) (tick? v t)

-- The rank of p and q under the moves that are played, computed.
abbrev pub weak_rank : View → ViewTest → ℕ → ℕ → ℕ
weak_rank v t p q = rank (weak_round v t) v.states p q

-- A step with the action a leads from the reachable state p to q.
abbrev pub reachable_step? : View → ViewTest → ℕ → ℕ → ℕ → Bool
reachable_step? v t p a q = t.step? p a q && within? v t (v.states - 1) p

-- If a high step with the action a leads from the reachable state p to q, the two have the rank 0.
abbrev pub harmless? : View → ViewTest → ℕ → ℕ → ℕ → Bool
harmless? v t p a q = let r = eqb (weak_rank v t p q) 0 in not (v.levels.high? a && reachable_step? v t p a q) || r

-- The test of `BNID`.
unfoldable pub bnid? : View → ViewTest → Bool
bnid? v t = all v.states (λ p. all t.actions (λ a. all v.states (harmless? v t p a)))

-- If steps with the action a lead from the reachable state p to q and to r, these two are one.
abbrev pub one_target? : View → ViewTest → ℕ → ℕ → ℕ → ℕ → Bool
one_target? v t p a q r = not (reachable_step? v t p a q && t.step? p a r) || eqb q r

-- The test of `Deterministic`.
unfoldable pub deterministic? : View → ViewTest → Bool
deterministic? v t =
    all v.states (λ p. all t.actions (λ a. all v.states (λ q. all v.states (one_target? v t p a q))))
