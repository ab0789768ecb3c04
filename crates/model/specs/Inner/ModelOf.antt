-- The model that a good store holds.
use Rattle.text.specs.Model.{Model}
use Rattle.model.specs.StoredModel.{model_at}
use Rattle.model.specs.declared.good_store.GoodStore.{GoodStore}

abbrev pub model_of : GoodStore → Model
model_of store = model_at store.places.now
