-- The store of a model without a high action is not good.
-- Document 02, (vi). Assumes nothing.
use Rattle.std.proofs.Common.{not, List, ◌++◌, ◌≡◌, ℕ, T, length, sym, subst, T_not}
use Rattle.text.specs.Model.{ActionLine, Model, some_high?}
use Rattle.model.specs.Inner.StoredActions.{Short}
use Rattle.model.specs.Store.{head_row, store_of, Good}
use Rattle.model.specs.StoredModel.{model_at}
use Rattle.model.proofs.Laws.Store.StoredModelLaws.{good_well_formed}
use Rattle.model.proofs.Laws.Store.NamesLaws.{actions_stored_store_of, listed_stored}

-- "stores made from such texts are no longer good", whatever follows
pub store_of_no-high : (m : Model) (rest : List ℕ) → length m.actions ≡ m.head.actions → Short m.actions
    → T (not (some_high? m.actions)) → ¬ (Good (store_of m ++ rest))
unfolding store_of head_row model_at
store_of_no-high m rest count short t g =
    let s : List ℕ = store_of m ++ rest in
    let e = listed_stored s m.actions m.head.actions (sym count) (actions_stored_store_of m rest short) in
    T_not (some_high? m.actions) t
    (subst (λ (l : List ActionLine). T (some_high? l)) e (good_well_formed s g).some_high)
