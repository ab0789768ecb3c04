-- The tests of a model's steps and of its starts.
-- Document 01, "The meaning"; document 02, (iii).
use Rattle.std.specs.Prelude.{Bool, ◌&&◌, ℕ, eqb, length, get_or}
use Rattle.lts.specs.Tests.{any}
use Rattle.lts.specs.Decided.{ViewTest}
use Rattle.text.specs.Model.{Model}
use Rattle.model.specs.System.{source, action, target, starts}

-- Step j leads from p with the action a to q.
abbrev pub leads? : Model → ℕ → ℕ → ℕ → ℕ → Bool
leads? m p a q j = eqb (source m j) p && (eqb (action m j) a && eqb (target m j) q)

-- Some step does.
unfoldable pub step? : Model → ℕ → ℕ → ℕ → Bool
step? m p a q = any (length m.steps) (leads? m p a q)

-- Some start is p.
unfoldable pub start? : Model → ℕ → Bool
start? m p = any (length (starts m)) (λ i. eqb (get_or (starts m) i 0) p)

-- The tests of a model's view.
abbrev pub tests : Model → ViewTest
tests m = record { step? = step? m; start? = start? m; actions = m.head.actions }
