-- The name of an action, as the store holds it.
-- Document 01, "The text" and "The model store". Assumes nothing.
use Rattle.std.specs.Prelude.{List, ◌≡◌, ℕ, ◌+◌, ◌-◌, ◌≤◌, ◌<◌, T, length, get_or, take, drop}
use Rattle.std.proofs.Common.{ap, arith, length-take, length-drop}
use Rattle.text.specs.All.{All}
use Rattle.text.specs.Limits.{action_limit, name_limit, name_length_place, name_place}
use Rattle.text.specs.Lines.{name?}
use Rattle.text.specs.Model.{ActionLine}
use Rattle.text.specs.Laws.AllLaws.{all_of_all}
use Rattle.model.specs.StoredModel.{head_at, action_at, model_at}
use Rattle.model.specs.System.{name_of}
use Rattle.model.specs.Inner.LineText.{NameByte}
use Rattle.model.proofs.Laws.Store.GoodLaws.{Good→GoodPlaces}
use Rattle.model.proofs.Laws.Store.StoredModelLaws.{action_at_holds, Good→Holds, good_well_formed}
use Rattle.model.specs.Laws.Store.WellFormedLaws.{action_fits}
use Rattle.model.specs.Laws.Text.ActionLineLaws.{name_bytes, name-length, name_byte_lt}
use Rattle.writer.specs.Inner.Writable.{Writable}
use Rattle.writer.specs.Laws.WritableLaws.{actions_le}

pub actions-counted : {s : List ℕ} → Writable s → length (model_at s).actions ≡ (model_at s).head.actions
actions-counted {s} w = (good_well_formed s w.good).action_count

module _ {s : List ℕ} (w : Writable s) (a : ℕ) (l : a < length (model_at s).actions) where
  action_lt : a < (head_at s).actions
  unfolding model_at
  action_lt = omega (arith, l, actions-counted w)

  pub action_limit_lt : a < action_limit
  action_limit_lt = omega (arith, action_lt, actions_le s w)

  -- ---- "A name is 1 to 12 bytes of a to z and 0 to 9"

  name_fits : T (name? (name_of (model_at s) a))
  name_fits = (action_fits (model_at s) (good_well_formed s w.good) a _ l).name

  pub name_length_le : length (name_of (model_at s) a) ≤ name_limit
  name_length_le = (name-length (name_of (model_at s) a) name_fits).1

  pub name_bytes_lt : All (λ (b : ℕ). b < 256) (name_of (model_at s) a)
  name_bytes_lt =
      let name = name_of (model_at s) a in
      all_of_all NameByte (λ b. b < 256) name_byte_lt name (name_bytes name name_fits)

  -- ---- the part of the store where it stands

  pub name_of_stored : (action_at s a).name ≡ name_of (model_at s) a
  name_of_stored = ap (λ (x : ActionLine). x.name) (action_at_holds s (model_at s) (Good→Holds s w.good) a _ l)

  pub name_part : (place len : ℕ) → place ≡ name_place a → len ≡ get_or s (name_length_place a) 0
      → take (place + len - place) (drop place s) ≡ name_of (model_at s) a
  name_part place len p n =
      let e : place + len - place ≡ len = omega arith in rw (e, p, n) name_of_stored

  pub name_part_le : name_place a + get_or s (name_length_place a) 0 ≤ length s
  name_part_le =
      let short = ((Good→GoodPlaces s w.long w.good).actions.at a (omega arith) action_lt).fits in
      omega (arith, w.long, action_limit_lt, short)

  pub name_length_stored : get_or s (name_length_place a) 0 ≡ length (name_of (model_at s) a)
  name_length_stored =
      let t = length-take (get_or s (name_length_place a) 0) (drop (name_place a) s) in
      omega (arith, name_part_le, t, length-drop (name_place a) s, ap length name_of_stored)
