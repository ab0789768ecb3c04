-- The names and levels of actions as they stand in the store, and the test whether a name is used.
-- Document 01, "The text" and "The model store". Assumes nothing.
use Rattle.std.proofs.Common.{Bool, true, false, MatchBool, ◌≡◌, refl, T, take, drop, ◌||◌, get_or, List, [], ◌∷◌, ◌++◌}
use Rattle.std.proofs.Common.{append_assoc, ap, ◌∙◌, subst, drop-cons, drop-drop, drop_at, get_or-drop, ext_get_or}
use Rattle.std.proofs.Common.{add-one, ℕ, zero, suc}
use Rattle.std.proofs.Common.{◌+◌, ◌-◌, ◌*◌, ◌≤◌, ◌<◌, arith}
use Rattle.std.proofs.Math.Path.{sym}
use Rattle.std.proofs.Math.ListN.{length, replicate, get_or-append}
use Rattle.std.proofs.Math.Seq.{take-append_seam, drop-length}
use Rattle.lts.proofs.TestsLaws.{T→true}
use Rattle.text.specs.Limits.{name_limit, actions_begin, name_length_column, name_column, action_size, actions_length}
use Rattle.text.specs.Limits.{steps_length, action_place}
use Rattle.std.specs.Bool.{Decides}
use Rattle.text.specs.Split.{same?}
use Rattle.text.specs.Laws.SameLaws.{same?→eq, eq→same?, same?_refl, same?-length}
use Rattle.text.specs.Model.{ActionLine, Model, no_action}
use Rattle.text.specs.Lines.{used?}
use Rattle.model.specs.Store.{padded, action_numbers, actions_numbers, steps_numbers, head_row}
use Rattle.model.specs.Store.{extra_numbers, store_of}
use Rattle.model.specs.Inner.StoredActions.{ActionStored, ActionsStored, Short}
use Rattle.model.specs.Laws.Store.ListedLaws.{used?_listed, listed_used?}
use Rattle.model.specs.Laws.Store.StoreLaws.{action_numbers-length}
use Rattle.model.proofs.Laws.Store.StoredModelLaws.{listed_all, action_at_lem}
use Rattle.model.specs.StoredModel.{action_at, listed}

-- ---- one name

same?_differ : (s t : List ℕ) (i : ℕ) → (get_or s i 0 ≡ get_or t i 0 → ⊥) → same? s t ≡ false
same?_differ s t i h = go (same? s t) refl
  where
    go : (b : Bool) → same? s t ≡ b → same? s t ≡ false
    go true e = absurd (h (ap (λ (l : List ℕ). get_or l i 0) (same?→eq s t (subst T (sym e) tt))))
    go false e = e

module _ (store : List ℕ) (at : ℕ) (a : ActionLine) (s : ActionStored store at a) (name : List ℕ) where
  stored_length : get_or store (at + name_length_column) 0 ≡ length a.name
  unfolding action_numbers
  stored_length = sym (get_or-drop at store name_length_column 0) ∙ rw s.stored

  stored_byte : (i : ℕ) → i < length a.name → get_or store (at + name_column + i) 0 ≡ get_or a.name i 0
  unfolding action_numbers padded
  stored_byte i h =
      let e : at + name_column + i ≡ at + suc (suc i) = omega arith in
      let z : List ℕ = replicate (name_limit - length a.name) 0 in
      rw e (sym (get_or-drop at store (suc (suc i)) 0) ∙ rw (s.stored, append_assoc)
      (get_or-append a.name (z ++ s.after) 0 i h))

  pub named_length : (get_or store (at + name_length_column) 0 ≡ length name → ⊥) → false ≡ same? a.name name
  named_length h = sym (same?-length a.name name (λ e. h (stored_length ∙ e)))

  module _ (l : get_or store (at + name_length_column) 0 ≡ length name) where
    pub named_differ : (i : ℕ) → i < length name → (get_or store (at + name_column + i) 0 ≡ get_or name i 0 → ⊥)
        → false ≡ same? a.name name
    named_differ i h d =
        let n = stored_length in
        sym (same?_differ a.name name i (λ e. d (stored_byte i (omega arith) ∙ e)))

    pub named_same : ((i : ℕ) → i < length name → get_or store (at + name_column + i) 0 ≡ get_or name i 0)
        → true ≡ same? a.name name
    named_same h =
        let n : length a.name ≡ length name = sym stored_length ∙ l in
        let e : a.name ≡ name = ext_get_or 0 a.name name n (λ i k. sym (stored_byte i k) ∙ h i (rw n at k)) in
        rw e (sym (T→true (same? name name) (same?_refl name)))

    stored_part : (p n : ℕ) → p ≡ at + name_column → n ≡ length name → take n (drop p store) ≡ a.name
    unfolding action_numbers padded
    stored_part p n d e =
        let z : List ℕ = replicate (name_limit - length a.name) 0 in
        let m : n ≡ length a.name = e ∙ sym l ∙ stored_length in
        rw (d, ← drop-drop 2 at store, s.stored, append_assoc, m) (take-append_seam a.name (z ++ s.after))

    -- what decides whether the places hold the name answers whether it is the action's
    pub named_part : (p n : ℕ) (r : Bool) → p ≡ at + name_column → n ≡ length name
        → Decides r (take n (drop p store) ≡ name) → r ≡ same? a.name name
    named_part p n true d e h = sym (T→true _ (eq→same? a.name name (sym (stored_part p n d e) ∙ h.0 refl)))
    named_part p n false d e h = go (same? a.name name) refl
      where
        go : (b : Bool) → same? a.name name ≡ b → false ≡ same? a.name name
        go true t =
            let f : false ≡ true = h.1 (stored_part p n d e ∙ same?→eq a.name name (subst T (sym t) tt)) in cc
        go false t = sym t

-- ---- the names of some actions

actions_stored_first : (store : List ℕ) (at : ℕ) (a : ActionLine) (rest : List ActionLine)
    → ActionsStored store at (a ∷ rest)
    → ActionStored store at a
unfolding actions_numbers Short
actions_stored_first store at a rest s =
    record {
      after = actions_numbers rest ++ s.after;
      stored = s.stored ∙ append_assoc (action_numbers a) (actions_numbers rest) s.after;
      short = s.short.0;
    }

actions_stored-rest : (store : List ℕ) (at : ℕ) (a : ActionLine) (rest : List ActionLine)
    → ActionsStored store at (a ∷ rest)
    → ActionsStored store (at + action_size) rest
unfolding Short actions_stored_first actions_numbers
actions_stored-rest store at a rest s =
    let f = actions_stored_first store at a rest s in
    let behind : List ℕ = actions_numbers rest ++ s.after in
    record {
      after = s.after;
      stored = sym (drop-drop action_size at store) ∙ rw f.stored
          (drop_at (action_numbers a) behind action_size (action_numbers-length a f.short));
      short = s.short.1;
    }

actions_stored-drop : (store : List ℕ) (at k : ℕ) (actions : List ActionLine) → ActionsStored store at actions
    → k ≤ length actions → ActionsStored store (at + action_size * k) (drop k actions)
actions_stored-drop store at zero actions s h = let z : at + action_size * 0 ≡ at = omega arith in rw z s
actions_stored-drop store at (suc k) [] s h = absurd (omega arith)
actions_stored-drop store at (suc k) (a ∷ rest) s h =
    let z : at + action_size * suc k ≡ at + action_size + action_size * k = omega arith in
    let l : k ≤ length rest = omega arith in
    rw z (actions_stored-drop store (at + action_size) k rest (actions_stored-rest store at a rest s) l)

module _ (store : List ℕ) (actions : List ActionLine) (s : ActionsStored store actions_begin actions) (i : ℕ)
    (l : i < length actions) where
  action_stored_at : ActionStored store (action_place i) (get_or actions i no_action)
  action_stored_at =
      let k : i ≤ length actions = omega arith in
      let c : drop i actions ≡ get_or actions i no_action ∷ drop (suc i) actions = drop-cons actions i no_action l in
      actions_stored_first store (action_place i) (get_or actions i no_action) (drop (suc i) actions)
      (rw c at (actions_stored-drop store actions_begin i actions s k))

  action_at_stored : action_at store i ≡ get_or actions i no_action
  action_at_stored = action_at_lem store i _ _ action_stored_at.stored

  pub used?_drop : (name : List ℕ) (r : Bool)
      → ((a : ActionLine) → ActionStored store (action_place i) a → r ≡ same? a.name name)
      → used? name (drop i actions) ≡ r || used? name (drop (i + 1) actions)
  unfolding used?
  used?_drop name r tested = rw (drop-cons actions i no_action l, add-one, tested _ action_stored_at)

pub used?_none : (name : List ℕ) (before : List ActionLine) (i : ℕ) → i ≡ length before
    → used? name (drop i before) ≡ false
unfolding used?
used?_none name before i e = rw (e, drop-length before)

-- actions that stand in a store are those that it shows
pub listed_stored : (store : List ℕ) (actions : List ActionLine) (n : ℕ) → n ≡ length actions
    → ActionsStored store actions_begin actions → listed n (action_at store) ≡ actions
listed_stored store actions n e s =
    listed_all actions no_action (action_at store) n e (λ i l. action_at_stored store actions s i l)

-- the actions of a model stand in its store, whatever follows
pub actions_stored_store_of : (m : Model) (rest : List ℕ) → Short m.actions
    → ActionsStored (store_of m ++ rest) actions_begin m.actions
unfolding store_of padded head_row
actions_stored_store_of m rest short =
    let n : List ℕ = actions_numbers m.actions in
    let z : List ℕ = replicate (actions_length - length n) 0 in
    let y : List ℕ = padded steps_length (steps_numbers m.steps) ++ (extra_numbers m.extra_starts ++ rest) in
    record { after = z ++ y; stored = simp append_assoc; short = short }

-- ---- whether a name is used

module _ (store : List ℕ) (actions : List ActionLine) (s : ActionsStored store actions_begin actions) (name : List ℕ)
    (n : ℕ) (e : length actions ≡ n) where
  -- what each test of an action that stands at place p says of its name
  abbrev pub SaysAt : Bool → ℕ → Type 0
  SaysAt b k = (a : ActionLine) → ActionStored store (action_place k) a → b ≡ same? a.name name

  listed_used : T (used? name (listed n (action_at store))) → T (used? name actions)
  listed_used t = rw (listed_stored store actions n (sym e) s) at t

  used_listed : T (used? name actions) → T (used? name (listed n (action_at store)))
  used_listed t = rw (listed_stored store actions n (sym e) s) t

  pub used?_answer : (r : Bool) → MatchBool r ((k : ℕ) × (k < n) × SaysAt true k) ((k : ℕ) → k < n → SaysAt false k)
      → r ≡ used? name actions
  used?_answer true h =
      let l : h.0 < length actions = rw e h.1 in
      let a = get_or actions h.0 no_action in
      let f = same?→eq a.name name (subst T (h.2 a (action_stored_at store actions s h.0 l)) tt) in
      let g = ap (λ (x : ActionLine). x.name) (action_at_stored store actions s h.0 l) ∙ f in
      sym (T→true _ (listed_used (listed_used? name (action_at store) n h.0 h.1 g)))
  used?_answer false h = go (used? name actions) refl
    where
      go : (b : Bool) → used? name actions ≡ b → false ≡ used? name actions
      go true t =
          let w = used?_listed name (action_at store) n (used_listed (subst T (sym t) tt)) in
          let l : w.0 < length actions = rw e w.1 in
          let a = get_or actions w.0 no_action in
          let g = ap (λ (x : ActionLine). x.name) (sym (action_at_stored store actions s w.0 l)) ∙ w.2 in
          absurd (subst T (sym (h w.0 w.1 a (action_stored_at store actions s w.0 l))) (eq→same? a.name name g))
      go false t = sym t
