-- Systems given by lists of steps and starts, with three actions, for the examples: their views and tests.
-- Assumes nothing.
use Rattle.std.specs.Prelude.{List, [], ◌∷◌, Bool, false, ◌&&◌, ◌||◌, ℕ, T, eqb, ltb}
use Rattle.lts.specs.View.{Levels, View}
use Rattle.lts.specs.Decided.{ViewTest}

-- A step of a listed system.
pub record Arrow : Type 0 where
  pub source : ℕ
  pub action : ℕ
  pub target : ℕ

-- The step from p with the action a to q.
abbrev pub arrow : ℕ → ℕ → ℕ → Arrow
arrow p a q = record { source = p; action = a; target = q }

-- n states, the steps, the starts.
pub record System : Type 0 where
  pub states : ℕ
  pub starts : List ℕ
  pub steps : List Arrow

-- p is in the list.
abbrev pub has : List ℕ → ℕ → Bool
has [] p = false
has (s ∷ l) p = eqb s p || has l p

-- A step of the list leads from p to q with the action a.
abbrev pub leads : List Arrow → ℕ → ℕ → ℕ → Bool
leads [] p a q = false
leads (s ∷ l) p a q = (eqb s.source p && (eqb s.action a && eqb s.target q)) || leads l p a q

-- The steps of M among its states and the three actions.
abbrev pub step? : System → ℕ → ℕ → ℕ → Bool
step? M p a q = leads M.steps p a q && (ltb p M.states && (ltb a 3 && ltb q M.states))

-- The starts of M among its states.
abbrev pub start? : System → ℕ → Bool
start? M p = has M.starts p && ltb p M.states

-- M under the levels L.
abbrev pub view : Levels → System → View
view L M = record {
  levels = L;
  Step = λ p a q. T (step? M p a q);
  Start = λ p. T (start? M p);
  states = M.states;
}

-- The tests of M.
abbrev pub tests : System → ViewTest
tests M = record { step? = step? M; start? = start? M; actions = 3 }
