-- The names of the low actions with a step from a state.
-- Document 02, (ii): "the names of the low actions with a step there, in action order".
use Rattle.std.specs.Prelude.{Bool, cond, ◌&&◌, List, [], ◌∷◌, ◌++◌, map, ℕ, zero, suc, eqb, length}
use Rattle.lts.specs.Tests.{any}
use Rattle.text.specs.Model.{Model}
use Rattle.model.specs.System.{source, action, view, name_of}

-- Step j leaves p with the action a.
abbrev pub leaves? : Model → ℕ → ℕ → ℕ → Bool
leaves? m p a j = eqb (source m j) p && eqb (action m j) a

-- The action a is low, and one of the first n steps leaves p with it.
abbrev pub low_from? : Model → ℕ → ℕ → ℕ → Bool
low_from? m p n a = (view m).levels.low? a && any n (leaves? m p a)

-- The numbers below n that pass f, in order.
unfoldable pub passing : ℕ → (ℕ → Bool) → List ℕ
passing zero f = []
passing (suc n) f = passing n f ++ cond (f n) (n ∷ []) []

-- "the low actions with a step there, in action order"
abbrev pub low_actions : Model → ℕ → List ℕ
low_actions m p = passing (length m.actions) (low_from? m p (length m.steps))

-- Their names.
abbrev pub low_names : Model → ℕ → List (List ℕ)
low_names m p = map (name_of m) (low_actions m p)
