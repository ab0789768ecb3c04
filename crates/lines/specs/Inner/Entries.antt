-- The row of a state in the table, as the page shows it. Only the contracts of inner functions cite it.
use Rattle.std.specs.Prelude.{List, ◌≡◌, ℕ, ◌≤◌, ◌<◌, get_or}
use Rattle.text.specs.Limits.{pair_place}
unfoldable pub use Rattle.columns.specs.Inner.Entries.{distance_of}

-- The lowest place that is 0 in row p of the table.
pub record LowestZero (table : List ℕ) (p q : ℕ) : Type 0 where
  pub le : q ≤ p
  pub zero : get_or table (pair_place p q) 0 ≡ 0
  pub lowest : (i : ℕ) → i < q → ¬ (get_or table (pair_place p i) 0 ≡ 0)
