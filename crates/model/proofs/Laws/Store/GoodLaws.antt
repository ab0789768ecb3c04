-- A store is good exactly if its places are.
-- Document 01, "The model store": "A store is good if some text reads to it." Assumes nothing.
use Rattle.std.proofs.Common.{List, ℕ, ◌≤◌, length}
use Rattle.text.specs.Limits.{store_length}
use Rattle.model.specs.Store.{Good}
use Rattle.model.proofs.Laws.Store.StoredModelLaws.{Good→Holds, Holds→Good}
use Rattle.model.specs.Inner.GoodPlaces.{GoodPlaces}
use Rattle.model.proofs.Laws.Store.GoodPlacesLaws.{GoodPlaces→Holds}
use Rattle.model.proofs.Laws.Store.HoldsLaws.{Holds→GoodPlaces}

module _ (s : List ℕ) (fits : store_length ≤ length s) where
  pub GoodPlaces→Good : GoodPlaces s → Good s
  GoodPlaces→Good g = Holds→Good s (GoodPlaces→Holds s fits g)

  pub Good→GoodPlaces : Good s → GoodPlaces s
  Good→GoodPlaces g = Holds→GoodPlaces s fits (Good→Holds s g)
