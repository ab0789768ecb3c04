-- A good store has all that the judge uses of it.
-- Document 01, "The text" and "The model store"; document 02, (iii). Assumes nothing.
use Rattle.std.proofs.Common.{Bool, false, not, List, [], ◌++◌, ◌≡◌, ℕ, ◌≤◌, length, ⊎_elim, sym, ap, subst, arith}
use Rattle.std.proofs.Common.{eq-or-lt_of_le, length-append, length-take}
use Rattle.text.specs.Limits.{store_length}
use Rattle.text.specs.Decides.{Decides}
use Rattle.text.specs.Laws.DecidesLaws.{decides_passed}
use Rattle.text.specs.Model.{Model}
use Rattle.text.specs.Inner.Ranges.{HeadRanges}
use Rattle.model.specs.Store.{store_of, Good}
use Rattle.model.specs.StoredModel.{model_at, Holds}
use Rattle.model.specs.System.{source, action}
use Rattle.model.specs.WellFormed.{WellFormed}
use Rattle.model.specs.Laws.Store.StoreLaws.{steps_le, store_of_length}
use Rattle.model.proofs.Laws.Store.StoredModelLaws.{head_at_holds, step_at_holds, level_holds, holds_store_of}
use Rattle.model.proofs.Laws.Store.StoredModelLaws.{extra_count_at_holds, extra_start_at_holds, Good→Holds}
use Rattle.model.proofs.Laws.Store.StoredModelLaws.{holds_of_good, good-model}
use Rattle.model.specs.Laws.Store.StartsLaws.{extra_count_le}
use Rattle.model.specs.Laws.Store.SystemLaws.{start_lt}
use Rattle.model.specs.Laws.Store.WellFormedLaws.{head_ranges, step_ranges, step_above, level_le}
use Rattle.model.specs.Inner.Stored.{Stored}

module _ (s : List ℕ) (m : Model) (long : store_length ≤ length s) (h : Holds s m) where
  abbrev w : WellFormed m
  w = h.well_formed

  abbrev head : HeadRanges m.head
  head = head_ranges m w

  pub holds→Stored : Stored s m
  holds→Stored = record {
    length_le = long;
    head_is = head_at_holds s m h;
    states_pos = head.states_pos;
    states_le = head.states;
    actions_le = head.actions;
    extra_count_is = extra_count_at_holds s m h;
    extra_count_le = extra_count_le m w;
    extra_start_is = extra_start_at_holds s m h;
    start_lt = start_lt m w;
    steps_is = sym w.step_count;
    steps_le = steps_le m w;
    step_is = λ j l. step_at_holds s m h j _ l;
    source_lt = λ j l. (step_ranges m w j l).source;
    action_lt = λ j l. (step_ranges m w j l).action;
    target_lt = λ j l. (step_ranges m w j l).target;
    level_is = λ a l. level_holds s m h a (omega (arith, w.action_count));
    level_le = λ a l. level_le m w a (omega (arith, w.action_count));
    source_le = λ i j l k.
        ⊎_elim (λ e. omega (arith, ap (source m) e)) (λ o. (step_above m w i j o k).source) (eq-or-lt_of_le l);
    action_le = λ i j l k e.
        ⊎_elim (λ d. omega (arith, ap (action m) d)) (λ o. (step_above m w i j o k).action e) (eq-or-lt_of_le l);
    target_lt_target = λ i j l k. (step_above m w i j l k).target;
  }

pub well_formed_stored : {m : Model} → WellFormed m → Stored (store_of m ++ []) m
well_formed_stored {m} w = holds→Stored (store_of m ++ []) m
    (omega (arith, store_of_length m w, length-append (store_of m) [])) (holds_store_of m [] w)

pub good→Stored : (s : List ℕ) → store_length ≤ length s → Good s → Stored s (model_at s)
good→Stored s long g = holds→Stored s (model_at s) long (Good→Holds s g)

-- the same after a test `if !good(store) { return ..; }` that was passed
pub passed→Stored : (s : List ℕ) (r : Bool) → store_length ≤ length s → Decides r (Good s) → not r ≡ false
    → Stored s (model_at s)
passed→Stored s r long d e = good→Stored s long (decides_passed r (Good s) d e)

-- what a good store shows of its model
pub good_stored : (s : List ℕ) (g : Good s) → Stored s g.model
good_stored s g =
    let n = store_of_length g.model (holds_of_good s g).well_formed in
    let l : store_length ≤ length s = omega (arith, ap length g.stored, length-take store_length s) in
    subst (λ (m : Model). Stored s m) (sym (good-model s g)) (good→Stored s l g)
