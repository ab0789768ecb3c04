-- The names of the low actions from a state, one step more at a time: the steps of a state rise by action.
-- Document 02, (ii): "the names of the low actions with a step there, in action order". Assumes nothing.
use Rattle.std.specs.Prelude.{false, not, List, [], ◌∷◌, ◌++◌, map, ◌≡◌, refl, ℕ, zero, suc, ◌+◌, ◌-◌, ◌≤◌, ◌<◌, T}
use Rattle.std.specs.Prelude.{length, get_or}
use Rattle.std.proofs.lemmas.List.{map-append}
use Rattle.std.proofs.Common.{append_assoc, append-nil, ⊎_elim, sym, ap, subst, ◌∙◌, add-one, arith, T_not}
use Rattle.std.proofs.Math.Dec.{not_T}
use Rattle.lts.specs.Tests.{any}
use Rattle.lts.proofs.TestsLaws.{T_cases, T→true, not-T→false, and_intro, and_left, and_right, any→Some, Some→any}
use Rattle.lts.proofs.TestsLaws.{test_eq, lt-suc_cases, lt_or_le, eq_or_not}
use Rattle.text.specs.Model.{Model}
use Rattle.model.specs.StoredModel.{model_at}
use Rattle.model.specs.System.{source, action, view, name_of}
use Rattle.model.specs.Inner.Index.{Begins}
use Rattle.model.specs.Inner.Stored.{Stored}
use Rattle.model.specs.Laws.System.IndexLaws.{begins-source, begins_le}
use Rattle.letters.specs.Inner.Letters.{StepLists}
use Rattle.writer.specs.Inner.Writable.{Writable}
use Rattle.columns.specs.LowNames.{leaves?, low_from?, passing, low_names}
use Rattle.columns.specs.Inner.Filling.{FirstLow, first_low?, name_added, low_names_to}
use Rattle.columns.specs.Laws.FirstLowLaws.{leaves?_intro, leaves?_source, leaves?_action}
use Rattle.columns.specs.Laws.FirstLowLaws.{first_low?→FirstLow, FirstLow→first_low?, name_added_first}
use Rattle.writer.specs.Laws.NameLaws.{actions-counted}
use Rattle.columns.specs.Laws.PassingLaws.{passing_same, passing-nil, passing_next}

-- ---- the low actions of the first n steps

-- A step below n leaves p with the low action a.
record LowFrom (m : Model) (p n a : ℕ) : Type 0 where
  is_low : T ((view m).levels.low? a)
  number : ℕ
  number_lt : number < n
  source_is : source m number ≡ p
  action_is : action m number ≡ a

module _ (m : Model) where
  -- the same step below another number
  low_from_lt : {p n k a : ℕ} (x : LowFrom m p n a) → x.number < k → LowFrom m p k a
  low_from_lt x l = record {
    is_low = x.is_low;
    number = x.number;
    number_lt = l;
    source_is = x.source_is;
    action_is = x.action_is;
  }

  low_from?→LowFrom : {p n a : ℕ} → T (low_from? m p n a) → LowFrom m p n a
  low_from?→LowFrom {p} {n} {a} t =
      let x = any→Some n (leaves? m p a) (and_right ((view m).levels.low? a) (any n (leaves? m p a)) t) in
      record {
        is_low = and_left ((view m).levels.low? a) (any n (leaves? m p a)) t;
        number = x.0;
        number_lt = x.1;
        source_is = leaves?_source m p a x.0 x.2;
        action_is = leaves?_action m p a x.0 x.2;
      }

  LowFrom→low_from? : {p n a : ℕ} → LowFrom m p n a → T (low_from? m p n a)
  LowFrom→low_from? {p} {n} {a} x =
      and_intro ((view m).levels.low? a) (any n (leaves? m p a)) x.is_low
      (Some→any n (leaves? m p a) x.number x.number_lt
      (leaves?_intro m p a x.number x.source_is x.action_is))

  not_low_from : {p n a : ℕ} → ¬ (LowFrom m p n a) → low_from? m p n a ≡ false
  not_low_from {p} {n} {a} f =
      not-T→false (low_from? m p n a) (not_T (low_from? m p n a) (λ t. f (low_from?→LowFrom t)))

-- ---- one step more

module _ {s : List ℕ} {m : Model} (st : Stored s m) (counted : length m.actions ≡ m.head.actions) {p : ℕ} (j : ℕ)
    (l : j < length m.steps) (own : source m j ≡ p) where
  -- the actions of the steps before are no greater
  low_from_le : (a : ℕ) → LowFrom m p j a → a ≤ action m j
  low_from_le a x = omega (
    arith,
    x.action_is,
    st.action_le x.number j (omega (arith, x.number_lt)) l (x.source_is ∙ sym own),
  )

  -- another action than that of step j
  low_from_before : (a : ℕ) → ¬ (action m j ≡ a) → LowFrom m p (suc j) a → LowFrom m p j a
  low_from_before a ne x = low_from_lt m x
      (⊎_elim (λ e. absurd (ne (ap (action m) (sym e) ∙ x.action_is))) (λ k. k) (lt-suc_cases x.number_lt))

  low_from?_same : (a : ℕ) → (LowFrom m p (suc j) a → LowFrom m p j a) → low_from? m p j a ≡ low_from? m p (suc j) a
  low_from?_same a f = test_eq (low_from? m p j a) (low_from? m p (suc j) a)
      (λ t. let x = low_from?→LowFrom m t in LowFrom→low_from? m (low_from_lt m x (omega (arith, x.number_lt))))
      (λ t. LowFrom→low_from? m (f (low_from?→LowFrom m t)))

  -- step j is the first of its low action: it comes last
  added : FirstLow m j → passing (length m.actions) (low_from? m p (suc j))
      ≡ passing (length m.actions) (low_from? m p j) ++ (action m j ∷ [])
  added x = passing_next (length m.actions) (low_from? m p j) (low_from? m p (suc j)) (action m j)
      (omega (arith, counted, st.action_lt j l))
      (T→true _ (LowFrom→low_from? m (record {
        is_low = x.is_low;
        number = j;
        number_lt = omega arith;
        source_is = own;
        action_is = refl;
      })))
      (λ i k. low_from?_same i (low_from_before i (λ e. omega (arith, e, k))))
      (λ i k. not_low_from m (λ y.
      x.none_before y.number y.number_lt (y.source_is ∙ sym own)
      (omega (arith, y.action_is, low_from_le i y, k))))
      (λ i k. not_low_from m (λ y. omega (arith, low_from_le i (low_from_before i (λ e. omega (arith, e, k)) y), k)))

  -- a step before it has its action
  named_before : ¬ (FirstLow m j) → (a : ℕ) → LowFrom m p (suc j) a → LowFrom m p j a
  named_before none a x = ⊎_elim same (λ ne. low_from_before a ne x) (eq_or_not (action m j) a)
    where
      none_of : action m j ≡ a → ¬ (LowFrom m p j a) → FirstLow m j
      none_of e f = record {
        is_low = subst (λ (b : ℕ). T ((view m).levels.low? b)) (sym e) x.is_low;
        none_before = λ i k d h. f (record {
          is_low = x.is_low;
          number = i;
          number_lt = k;
          source_is = d ∙ own;
          action_is = h ∙ e;
        });
      }

      same : action m j ≡ a → LowFrom m p j a
      same e = ⊎_elim (low_from?→LowFrom m)
          (λ t. absurd (none (none_of e (λ y. T_not (low_from? m p j a) t (LowFrom→low_from? m y)))))
          (T_cases (low_from? m p j a))

  kept : ¬ (FirstLow m j)
      → passing (length m.actions) (low_from? m p (suc j)) ≡ passing (length m.actions) (low_from? m p j)
  kept none = passing_same (length m.actions) (low_from? m p (suc j)) (low_from? m p j)
      (λ a k. sym (low_from?_same a (named_before none a)))

  low_names_suc : low_names_to m p (suc j) ≡ low_names_to m p j ++ name_added m j
  low_names_suc = ⊎_elim first later (T_cases (first_low? m j))
    where
      names : List (List ℕ)
      names = low_names_to m p j

      first : T (first_low? m j) → low_names_to m p (suc j) ≡ names ++ name_added m j
      first t =
          rw (T→true (first_low? m j) t)
          (ap (map (name_of m)) (added (first_low?→FirstLow m t))
          ∙ map-append (name_of m) (passing (length m.actions) (low_from? m p j)) (action m j ∷ []))

      later : T (not (first_low? m j)) → low_names_to m p (suc j) ≡ names ++ name_added m j
      later t =
          rw (not-T→false (first_low? m j) t)
          (ap (map (name_of m)) (kept (λ x. T_not (first_low? m j) t (FirstLow→first_low? m x))) ∙ sym
          (append-nil names))

-- ---- the steps of a state

module _ {s begins roles : List ℕ} (w : Writable s) (L : StepLists (model_at s) s begins roles) {p : ℕ}
    (own : p < (model_at s).head.states) where
  abbrev m : Model
  m = model_at s

  -- The steps of p begin at `from`, and those of the next state at `to`.
  abbrev from : ℕ
  from = get_or begins p 0

  abbrev to : ℕ
  to = get_or begins (p + 1) 0

  b : Begins m p from
  b = L.index.at p (omega (arith, own))

  e : Begins m (p + 1) to
  e = L.index.at (p + 1) (omega (arith, own))

  pub steps_begin_le : from ≤ to
  steps_begin_le = begins_le b e

  -- no step before them leaves the state
  pub low_names_begin : low_names_to m p from ≡ []
  low_names_begin = ap (map (name_of m)) (passing-nil (length m.actions) (low_from? m p from) (λ a l.
      not_low_from m (λ x. omega (arith, x.source_is, b.below x.number x.number_lt))))

  -- and none after them
  pub low_names_end : low_names_to m p to ≡ low_names m p
  low_names_end = ap (map (name_of m)) (passing_same (length m.actions) (low_from? m p to)
      (low_from? m p (length m.steps))
      (λ a l. test_eq (low_from? m p to a) (low_from? m p (length m.steps) a) (λ t. more (low_from?→LowFrom m t))
      (λ t. fewer (low_from?→LowFrom m t))))
    where
      more : {a : ℕ} → LowFrom m p to a → T (low_from? m p (length m.steps) a)
      more x = LowFrom→low_from? m (low_from_lt m x (omega (arith, x.number_lt, e.from_le)))

      fewer : {a : ℕ} → LowFrom m p (length m.steps) a → T (low_from? m p to a)
      fewer x = LowFrom→low_from? m (low_from_lt m x
          (⊎_elim (λ k. k) (λ k. absurd (omega (arith, x.source_is, e.above x.number k x.number_lt)))
          (lt_or_le x.number to)))

  -- those of the steps before j stand first
  low_names_rest : (k j : ℕ) → j + k ≡ to → from ≤ j → (more : List (List ℕ)) ×
      (low_names m p ≡ low_names_to m p j ++ more)
  low_names_rest zero j n f =
      let same : j ≡ to = omega (arith, n) in
      ([], sym low_names_end ∙ ap (low_names_to m p) (sym same) ∙ sym (append-nil (low_names_to m p j)))
  low_names_rest (suc k) j n f =
      let rest = low_names_rest k (suc j) (omega (arith, n)) (omega (arith, f)) in
      let l : j < length m.steps = omega (arith, n, e.from_le) in
      let next = low_names_suc L.stored (actions-counted w) j l (begins-source b e j f (omega (arith, n))) in (
        name_added m j ++ rest.0,
        rest.1
            ∙ ap (λ (names : List (List ℕ)). names ++ rest.0) next
            ∙ append_assoc (low_names_to m p j) (name_added m j) rest.0,
      )

  module _ (j : ℕ) (f : from ≤ j) (k : j < to) where
    pub low_names_next : low_names_to m p (j + 1) ≡ low_names_to m p j ++ name_added m j
    low_names_next =
        rw add-one
        (low_names_suc L.stored (actions-counted w) j (omega (arith, k, e.from_le)) (begins-source b e j f k))

    -- the name of step j, and those behind it
    pub low_names_split : FirstLow m j
        → (more : List (List ℕ)) × (low_names m p ≡ low_names_to m p j ++ (name_of m (action m j) ∷ more))
    low_names_split x =
        let rest = low_names_rest (to - (j + 1)) (j + 1) (omega (arith, k)) (omega (arith, f)) in
        let next = low_names_next ∙ ap (λ (names : List (List ℕ)). low_names_to m p j ++ names)
        (name_added_first m x) in (
          rest.0,
          rest.1
              ∙ ap (λ (names : List (List ℕ)). names ++ rest.0) next
              ∙ append_assoc (low_names_to m p j) (name_of m (action m j) ∷ []) rest.0,
        )
