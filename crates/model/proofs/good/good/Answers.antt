-- A store is good exactly if its places are.
use Rattle.text.specs.Laws.DecidesLaws.{decides_iff}
use Rattle.model.proofs.Laws.Store.GoodLaws.{GoodPlaces→Good, Good→GoodPlaces}
use Rattle.model.proofs.good.good.Goals as goal

pub returns : goal.returns
returns c =
    let s = c.args.store.now in
    decides_iff c.places_good.result (GoodPlaces→Good s c.requires) (Good→GoodPlaces s c.requires) c.places_good.ensures
