-- What every operation on a store promises.
-- Document 01, "Refused because of the state".
use Rattle.std.specs.Prelude.{List, ◌≡◌, ℕ}
use Rattle.std.proofs.Math.Option.{Option, none, some}
use Rattle.text.specs.Faults.{Outcome, refuses}
use Rattle.model.specs.Store.{Good}

-- "Tested in rising order": a list that is too short, then a store that is not good, "All unchanged"; else what the
-- operation does on a good store
pub record OnStore (lists : Option ℕ) (store : List ℕ) (outcome : Outcome) (Unchanged : Type 0)
    (Done : Good store → Type 0) : Type 0 where
  pub short : (k : ℕ) → lists ≡ some k → (outcome ≡ refuses 21 k) × Unchanged
  pub not_good : lists ≡ none → ¬ (Good store) → (outcome ≡ refuses 22 0) × Unchanged
  pub good : lists ≡ none → (g : Good store) → Done g
