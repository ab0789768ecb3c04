-- An operation on a store keeps its promise in each of its ways: a list is short, the store is not good, all is done;
-- and the promise pins one answer if each way does.
-- Document 01, "Refused because of the state". Assumes nothing.
use Rattle.std.proofs.Common.{List, ◌⊎◌, ◌≡◌, refl, ℕ, inl, inr, sym, ap, ◌∙◌, subst, arith}
use Rattle.std.proofs.Math.Option.{Option, none, some}
use Rattle.text.specs.Faults.{Outcome, answers, refuses}
use Rattle.text.specs.Laws.OutcomeLaws.{answers_not_refuses}
use Rattle.model.specs.OnStore.{OnStore}
use Rattle.text.specs.Model.{Model}
use Rattle.model.specs.Store.{Good}
use Rattle.model.specs.StoredModel.{model_at}
use Rattle.model.proofs.Laws.Store.StoredModelLaws.{good-model}
use Rattle.model.proofs.Laws.Store.GoodTestLaws.{good_cases}

module _ {lists : Option ℕ} {store : List ℕ} {outcome : Outcome} {Unchanged : Type 0} {Done : Good store → Type 0} where
  pub on_store_short : {place : ℕ} → lists ≡ some place → outcome ≡ refuses 21 place → Unchanged
      → OnStore lists store outcome Unchanged Done
  on_store_short {place} e t u = record {
    short = λ k h. let same : place ≡ k = cc in (t ∙ ap (refuses 21) same, u);
    not_good = λ h n. let z : ◌≡◌ {A = ℕ} 0 1 = cc in absurd (omega arith);
    good = λ h g. let z : ◌≡◌ {A = ℕ} 0 1 = cc in absurd (omega arith);
  }

  pub on_store_not_good : lists ≡ none → ¬ (Good store) → outcome ≡ refuses 22 0 → Unchanged
      → OnStore lists store outcome Unchanged Done
  on_store_not_good e n t u = record {
    short = λ k h. let z : ◌≡◌ {A = ℕ} 0 1 = cc in absurd (omega arith);
    not_good = λ h m. (t, u);
    good = λ h g. absurd (n g);
  }

  pub on_store_good : lists ≡ none → Good store → ((g : Good store) → Done g)
      → OnStore lists store outcome Unchanged Done
  on_store_good e g done = record {
    short = λ k h. let z : ◌≡◌ {A = ℕ} 0 1 = cc in absurd (omega arith);
    not_good = λ h n. absurd (n g);
    good = λ h k. done k;
  }

-- Whatever text reads to a good store, it states the model that the store shows.
pub on_store-model : {lists : Option ℕ} {store : List ℕ} {outcome : Outcome} {Unchanged : Type 0} (On : Model → Type 0)
    → lists ≡ none → Good store → On (model_at store) → OnStore lists store outcome Unchanged (λ g. On g.model)
on_store-model {store = store} On e g done = on_store_good e g (λ h. subst On (sym (good-model store h)) done)

-- ---- one answer

pub option_cases : (o : Option ℕ) → ((k : ℕ) × (o ≡ some k)) ⊎ (o ≡ none)
option_cases none = inr refl
option_cases (some k) = inl (k, refl)

-- What pins one answer and the same lists where the lists are unchanged, and where the store is good, pins them.
pub on_store_unique : {lists : Option ℕ} {store : List ℕ} {outcome outcome' : Outcome}
    {Unchanged Unchanged' Same : Type 0} {Done Done' : Good store → Type 0} → (Unchanged → Unchanged' → Same)
    → ((g : Good store) → Done g → Done' g → (outcome ≡ outcome') × Same) → OnStore lists store outcome Unchanged Done
    → OnStore lists store outcome' Unchanged' Done' → (outcome ≡ outcome') × Same
on_store_unique {lists} {store} {outcome} {outcome'} {Same = Same} kept pins p q =
    go (option_cases lists) (good_cases store)
  where
    go : ((k : ℕ) × (lists ≡ some k)) ⊎ (lists ≡ none) → Good store ⊎ (¬ (Good store)) → (outcome ≡ outcome') × Same
    go (inl s) d =
        let a = p.short s.0 s.1 in
        let b = q.short s.0 s.1 in
        (a.0 ∙ sym b.0, kept a.1 b.1)
    go (inr e) (inl g) = pins g (p.good e g) (q.good e g)
    go (inr e) (inr n) =
        let a = p.not_good e n in
        let b = q.not_good e n in
        (a.0 ∙ sym b.0, kept a.1 b.1)

-- An operation that answers had long lists and a good store.
pub on_store_answered : {lists : Option ℕ} {store values : List ℕ} {Unchanged : Type 0} {Done : Good store → Type 0}
    → OnStore lists store (answers values) Unchanged Done → (lists ≡ none) × ((g : Good store) × Done g)
on_store_answered {lists} {store} {values} {Unchanged} {Done} x = go (option_cases lists) (good_cases store)
  where
    go : ((k : ℕ) × (lists ≡ some k)) ⊎ (lists ≡ none) → Good store ⊎ (¬ (Good store))
        → (lists ≡ none) × ((g : Good store) × Done g)
    go (inl s) d = absurd (answers_not_refuses (x.short s.0 s.1).0)
    go (inr e) (inl g) = (e, (g, x.good e g))
    go (inr e) (inr n) = absurd (answers_not_refuses (x.not_good e n).0)
