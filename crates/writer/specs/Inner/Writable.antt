-- What the writers of the lines ask of a store. Only the contracts of inner functions cite it.
use Rattle.std.specs.Prelude.{ℕ, ◌≤◌, List, length}
use Rattle.text.specs.Limits.{store_length}
use Rattle.model.specs.Store.{Good}

pub record Writable (store : List ℕ) : Type 0 where
  pub long : store_length ≤ length store
  pub good : Good store
