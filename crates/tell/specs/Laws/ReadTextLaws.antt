-- A text is read exactly where it states a model, and the store that Read leaves holds this model.
-- Document 01, operation 1; DEMANDS, 3: "each without a fault listed for Read is". Assumes nothing.
use Rattle.std.specs.Prelude.{List, [], ◌++◌, ◌↔◌, ◌≡◌, refl, ℕ, ◌≤◌, ◌<◌, length, drop}
use Rattle.std.proofs.Common.{⊎_elim, sym, ap, subst, ◌∙◌, arith}
use Rattle.std.proofs.Math.Option.{Option, none, some}
use Rattle.lts.proofs.TestsLaws.{lt_or_le}
use Rattle.text.specs.Limits.{store_length}
use Rattle.text.specs.Faults.{Outcome, answers, refuses}
use Rattle.text.specs.Laws.OutcomeLaws.{answers_not_refuses}
use Rattle.text.specs.Model.{Model}
use Rattle.model.specs.Reading.{done, read_text}
use Rattle.model.specs.Store.{store_of}
use Rattle.model.specs.StoredModel.{Holds}
use Rattle.read_write.specs.ReadPromise.{reading_outcome, read_lists, ReadPromise}
use Rattle.text.specs.Laws.FirstShortLaws.{first_short_lt, first_short_le}
use Rattle.read_write.specs.Laws.ReadPromiseLaws.{read_done, read_length}
use Rattle.model.proofs.Laws.Text.ReadingLaws.{read_text_iff}
use Rattle.model.proofs.Laws.Store.StoredModelLaws.{holds_store_of}
use Rattle.tell.specs.Claim.{States, NotShort}

-- ---- a call that did not give 21 had all its lists

pub lists_of_not_short : (lists : Option ℕ) {outcome : Outcome} → ((k : ℕ) → lists ≡ some k → outcome ≡ refuses 21 k)
    → NotShort outcome → lists ≡ none
lists_of_not_short none short told = refl
lists_of_not_short (some k) short told = absurd (told k (short k refl))

-- ---- a text and the model that it states

pub states→read_text : {text : List ℕ} {m : Model} → States text m → read_text text ≡ done m
states→read_text {text} {m} = (read_text_iff text m).1

pub read_text→states : {text : List ℕ} {m : Model} → read_text text ≡ done m → States text m
read_text→states {text} {m} = (read_text_iff text m).0

pub states↔read_text : {text : List ℕ} {m : Model} → States text m ↔ (read_text text ≡ done m)
states↔read_text = (states→read_text, read_text→states)

-- A text states one model.
pub states_unique : {text : List ℕ} {m n : Model} → States text m → States text n → m ≡ n
states_unique {text} {m} {n} s t =
    let e : done m ≡ done n = sym (states→read_text s) ∙ states→read_text t in
    cc

-- ---- a successful Read

module _ {text store exit : List ℕ} (p : ReadPromise text store (answers []) exit) where
  read_long : store_length ≤ length store
  read_long = ⊎_elim short (λ l. l) (lt_or_le (length store) store_length)
    where
      short : length store < store_length → store_length ≤ length store
      short l =
          absurd (answers_not_refuses (p.short 2 (first_short_le _ _ _ (omega arith) ∙ first_short_lt _ _ _ l)).0)

  -- the store that it leaves is long enough
  pub read_exit_long : store_length ≤ length exit
  read_exit_long = omega (arith, read_long, read_length text store exit read_long p)

  pub read_states : (m : Model) × States text m
  read_states =
      let d = read_done text store exit read_long p in
      (d.0, read_text→states d.1)

  -- "Judge and Word then get the store as Read left it": it holds the model that the text states.
  pub read_holds : (m : Model) → States text m → Holds exit m
  read_holds m s =
      let d = read_done text store exit read_long p in
      let e = states_unique (read_text→states d.1) s in
      let rest = drop store_length store in
      subst (λ (x : List ℕ). Holds x m) (sym (d.2 ∙ ap (λ (n : Model). store_of n ++ rest) e))
      (holds_store_of m rest s.well_formed)

-- ---- Read's answer

pub read↔States : {text store : List ℕ} {read : Outcome} {exit : List ℕ} → ReadPromise text store read exit
    → NotShort read → (read ≡ answers []) ↔ ((m : Model) × States text m)
unfolding reading_outcome
read↔States {text} {store} {read} {exit} p told = (
  λ e. read_states (subst (λ (x : Outcome). ReadPromise text store x exit) e p),
  λ (m, s). p.answer (lists_of_not_short (read_lists text store) (λ k h. (p.short k h).0) told)
      ∙ ap reading_outcome (states→read_text s),
)
