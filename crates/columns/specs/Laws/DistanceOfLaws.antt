-- The distance in a list, as the page and the roll show it.
-- Document 01, "The page". Assumes nothing.
use Rattle.std.specs.Prelude.{Bool, cond, List, ◌≡◌, ℕ, get_or}
use Rattle.std.proofs.Math.Option.{Option, none, some}
use Rattle.std.proofs.Math.Path.{ap}
use Rattle.std.proofs.Common.{eq-eqb, ne_eqb}
use Rattle.text.specs.Limits.{unreachable}
use Rattle.columns.specs.Inner.Entries.{distance_of}

module _ (distances : List ℕ) (p : ℕ) where
  -- none where the test holds
  shown : Bool → Option ℕ
  shown unreached = cond unreached none (some (get_or distances p 0))

  pub distance_of_unreachable : get_or distances p 0 ≡ unreachable → distance_of distances p ≡ none
  unfolding distance_of shown
  distance_of_unreachable e = ap shown (eq-eqb (get_or distances p 0) unreachable e)

  pub distance_of_reachable : ¬ (get_or distances p 0 ≡ unreachable) → distance_of distances p ≡ some
      (get_or distances p 0)
  unfolding distance_of shown
  distance_of_reachable n = ap shown (ne_eqb (get_or distances p 0) unreachable n)
