-- What is found among the steps of a state: the first step that a claim holds of, letters, and steps without an answer.
-- Document 01, operation 6. Assumes nothing.
use Rattle.std.specs.Prelude.{Option, Some, None, MatchOption, IsSomeAnd, Bool, true, false, not, List, ◌≡◌, refl, ℕ}
use Rattle.std.specs.Prelude.{zero, suc, ◌+◌, ◌≤◌, ◌<◌, T, length, get_or}
use Rattle.std.specs.Bool.{then_some}
use Rattle.std.proofs.Common.{⊎_elim, sym, subst, ◌∙◌, add-one, arith}
use Rattle.lts.specs.Alike.{Separated, Rank}
use Rattle.lts.proofs.AlikeLaws.{rank_unique, rank_of_separated, separated_of_rank}
use Rattle.lts.proofs.FirstWordLaws.{letter_of_separated}
use Rattle.lts.specs.Run.{onward}
use Rattle.lts.proofs.TestsLaws.{lt_or_le}
use Rattle.text.specs.declared.Step.{Step}
use Rattle.text.specs.Decides.{Decides}
use Rattle.text.specs.First.{First}
use Rattle.text.specs.Laws.FirstLaws.{first_found}
use Rattle.text.specs.Limits.{pair_place}
use Rattle.text.specs.Model.{Model, low}
use Rattle.model.specs.System.{source, action, target, ReachableIn, DeterministicModel, view}
use Rattle.model.specs.Laws.Store.SystemLaws.{own_step, deterministic_model→Deterministic}
use Rattle.model.specs.Inner.Index.{Index}
use Rattle.model.specs.Inner.Stored.{Stored}
use Rattle.model.specs.Laws.System.RolesLaws.{low_of_role, role_of_low}
use Rattle.model.specs.Laws.System.IndexLaws.{begins-source}
use Rattle.model.proofs.Laws.System.RankBoundLaws.{low_step_game}
use Rattle.letters.specs.Inner.Letters.{FoundFirst, StepOf, Unanswered, Answer, HasAnswer}
use Rattle.letters.specs.Inner.Letters.{FirstLetter, StepLists, WordLists, SeparatedPair}
use Rattle.lts.specs.Weak.{LowStep}

-- ---- the first step

pub found_at : (P : ℕ → Type 0) {r : Option Step} {j : Step} → r ≡ Some j → FoundFirst P r → First P j.0
found_at P e x = subst (λ (y : Option Step). FoundFirst P y) e x

pub found_nothing : (P : ℕ → Type 0) {r : Option Step} → r ≡ None → FoundFirst P r → (j : ℕ) → ¬ (P j)
found_nothing P e x = subst (λ (y : Option Step). FoundFirst P y) e x

-- What is found among the numbers from a up to b is found of a claim that holds of none outside.
pub number_found : (P : ℕ → Type 0) {a b : ℕ} (r : Option ℕ)
    → MatchOption r ((k : ℕ) → a ≤ k → k < b → ¬ (P k))
    (λ i. (a ≤ i) × (i < b) × P i × ((k : ℕ) → a ≤ k → k < i → ¬ (P k)))
    → ((i : ℕ) → i < a → ¬ (P i)) → ((i : ℕ) → b ≤ i → ¬ (P i)) → MatchOption r ((j : ℕ) → ¬ (P j)) (First P)
number_found P {a} {b} None h before after =
    λ i. ⊎_elim (before i) (λ l. ⊎_elim (h i l) (after i) (lt_or_le i b)) (lt_or_le i a)
number_found P {a} (Some n) h before after =
    first_found (λ i l. ⊎_elim (before i) (λ k. h.3 i k l) (lt_or_le i a)) h.2

-- The number found, as a step.
pub step_found : (P : ℕ → Type 0) (r : Option ℕ) (o : Option Step) → MatchOption r ((j : ℕ) → ¬ (P j)) (First P)
    → MatchOption r (o ≡ None) (λ i. IsSomeAnd o (λ j. j.0 ≡ i)) → FoundFirst P o
step_found P None o h e = subst (FoundFirst P) (sym e) h
step_found P (Some n) None h e = absurd e
step_found P (Some n) (Some j) h e = subst (First P) (sym e) h

-- A step, where a test holds.
pub found_if : (P : ℕ → Type 0) (b : Bool) (i : Step) → (b ≡ true → First P i.0)
    → (b ≡ false → (j : ℕ) → ¬ (P j)) → FoundFirst P (then_some b i)
found_if P true i f g = f refl
found_if P false i f g = g refl

-- A function that answers the negation of a decision decides what is the negation of the claim.
pub decides_not : {P Q : Type 0} (r : Bool) → (¬ P → Q) → (P → ¬ Q) → Decides r P → Decides (not r) Q
decides_not true f g d = g d
decides_not false f g d = f d

-- The steps of p stand from where they begin up to where those of the next state begin.
module _ {m : Model} {begins : List ℕ} (x : Index m m.head.states begins) {p : ℕ} (l : p < m.head.states) where
  pub own_of_index : (j : ℕ) → get_or begins p 0 ≤ j → j < get_or begins (p + 1) 0
      → (j < length m.steps) × (source m j ≡ p)
  own_of_index j from to =
      let here = x.at p (omega arith) in
      let next = x.at (p + 1) (omega arith) in
      (omega (arith, next.from_le), begins-source here next j from to)

  pub index_of_own : (j : ℕ) → j < length m.steps → source m j ≡ p
      → (get_or begins p 0 ≤ j) × (j < get_or begins (p + 1) 0)
  index_of_own j k e = (
    ⊎_elim (λ h. absurd (omega (arith, (x.at p (omega arith)).below j h))) (λ h. h) (lt_or_le j (get_or begins p 0)),
    ⊎_elim (λ h. h) (λ h. absurd (omega (arith, (x.at (p + 1) (omega arith)).above j h k)))
        (lt_or_le j (get_or begins (p + 1) 0)),
  )

  -- A claim of steps of p holds of none before them, and of none at all once those are tried.
  module _ (P : ℕ → Type 0) (own : (j : ℕ) → P j → (j < length m.steps) × (source m j ≡ p)) where
    pub none_before : (i : ℕ) → i < get_or begins p 0 → ¬ (P i)
    none_before i h y = let o = own i y in omega (arith, (index_of_own i o.0 o.1).0)

    pub none_after : {j end : ℕ} → end ≡ get_or begins (p + 1) 0 → end ≤ j → ((i : ℕ) → i < j → ¬ (P i)) → (i : ℕ)
        → ¬ (P i)
    none_after e h none i y =
        let o = own i y in
        none i (omega (arith, e, (index_of_own i o.0 o.1).1)) y

    -- What `find` tells of the steps of p, where it asks Q of each.
    pub own_found : (Q : ℕ → Type 0) → ((j : ℕ) → j < length m.steps → source m j ≡ p → Q j → P j)
        → ((j : ℕ) → P j → Q j) → {a b : ℕ} → (a ≡ get_or begins p 0) × (b ≡ get_or begins (p + 1) 0) → (r : Option ℕ)
        → MatchOption r ((k : ℕ) → a ≤ k → k < b → ¬ (Q k))
        (λ i. (a ≤ i) × (i < b) × Q i × ((k : ℕ) → a ≤ k → k < i → ¬ (Q k)))
        → MatchOption r ((j : ℕ) → ¬ (P j)) (First P)
    own_found Q of to {a} {b} e r h =
        number_found P r (asks r h) (λ i l. none_before i (omega arith))
        (λ i l y. let k = own i y in omega (arith, (index_of_own i k.0 k.1).1))
      where
        asks : (r : Option ℕ)
            → MatchOption r ((k : ℕ) → a ≤ k → k < b → ¬ (Q k))
            (λ i. (a ≤ i) × (i < b) × Q i × ((k : ℕ) → a ≤ k → k < i → ¬ (Q k)))
            → MatchOption r ((k : ℕ) → a ≤ k → k < b → ¬ (P k))
            (λ i. (a ≤ i) × (i < b) × P i × ((k : ℕ) → a ≤ k → k < i → ¬ (P k)))
        asks None h = λ k l n y. h k l n (to k y)
        asks (Some i) h =
            let o = own_of_index i (omega arith) (omega arith) in
            (h.0, h.1, of i o.0 o.1 h.2, λ k l n y. h.3 k l n (to k y))

-- ---- the action a of step j

pub step_of_at : {m : Model} {q a b i : ℕ} → a ≡ b → StepOf m q a i → StepOf m q b i
step_of_at e x = record { number_lt = x.number_lt; source_is = x.source_is; action_is = x.action_is ∙ e }

module _ {m : Model} {store begins roles : List ℕ} (L : StepLists m store begins roles) {a j : ℕ} (e : a ≡ action m j)
    (l : j < length m.steps) where
  pub role_fits : a < length roles
  role_fits = omega (arith, e, L.roles_of.roles_length, L.stored.actions_le, L.stored.action_lt j l)

  pub letter_low : get_or roles a 0 ≡ low → T ((view m).levels.low? (action m j))
  letter_low z = low_of_role L.roles_of.roles_are e (L.stored.action_lt j l) z

  pub letter_role : T ((view m).levels.low? (action m j)) → get_or roles a 0 ≡ low
  letter_role t = role_of_low L.roles_of.roles_are e (L.stored.action_lt j l) t

  pub unanswered_of : {q : ℕ} → get_or roles a 0 ≡ low → ((i : ℕ) → ¬ (StepOf m q a i)) → Unanswered m q j
  unanswered_of z none = record {
    number_lt = l;
    is_low = letter_low z;
    none = λ i x. none i (step_of_at (sym e) x);
  }

-- ---- the entry of two targets x and y, of step j and of q's step i

module _ {m : Model} {store begins roles table : List ℕ} (L : WordLists m store begins roles table) {j i q a : ℕ}
    (l : j < length m.steps) (r : ReachableIn m (source m j)) (t : ReachableIn m q) (s : StepOf m q a i) {x y : ℕ}
    (e : x ≡ target m j) (f : y ≡ target m i) where
  target_rank : Rank (LowStep (view m)) (target m j) (target m i) (get_or table (pair_place x y) 0)
  target_rank =
      let same : get_or table (pair_place (target m j) (target m i)) 0 ≡ get_or table (pair_place x y) 0 =
      (λ t. get_or table (pair_place (sym e t) (sym f t)) 0) in
      subst (Rank (LowStep (view m)) (target m j) (target m i)) same
      (L.ranks (target m j) (target m i) (onward r (own_step m j l))
      (onward (subst (ReachableIn m) (sym s.source_is) t) (own_step m i s.number_lt)))

  pub separated_of_entry : {k : ℕ} → 0 < k → get_or table (pair_place x y) 0 ≡ k
      → Separated (LowStep (view m)) (target m j) (target m i) k
  separated_of_entry {k} pos z = separated_of_rank (LowStep (view m)) (target m j) (target m i) k pos
      (subst (Rank (LowStep (view m)) (target m j) (target m i)) z target_rank)

  pub target_entry_of_separated : {k : ℕ} → Separated (LowStep (view m)) (target m j) (target m i) k
      → get_or table (pair_place x y) 0 ≡ k
  target_entry_of_separated {k} z =
      rank_unique (LowStep (view m)) (target m j) (target m i) (get_or table (pair_place x y) 0) k
      target_rank (rank_of_separated (LowStep (view m)) (target m j) (target m i) k z)

  -- Step i is the one step of q with that action.
  pub not_answer : {k : ℕ} → DeterministicModel m → a ≡ action m j → ¬ (get_or table (pair_place x y) 0 ≡ k) → (o : ℕ)
      → ¬ (Answer m q k j o)
  not_answer {k} d g z o h =
      let u = h.step_of in
      let same : o ≡ i = d.one_step o i u.number_lt s.number_lt
      (subst (ReachableIn m) (sym u.source_is) t) (u.source_is ∙ sym s.source_is)
      (u.action_is ∙ sym g ∙ sym s.action_is) in
      z (target_entry_of_separated
      (subst (λ (v : ℕ). Separated (LowStep (view m)) (target m j) (target m v) k) same h.targets))

-- ---- the first letter

module _ {m : Model} {p q k b x y : ℕ} where
  pub has_answer_of : (u : LowStep (view m) p b x) → LowStep (view m) q b y → Separated (LowStep (view m)) x y k
      → HasAnswer m p q k u.1.number
  has_answer_of u v s = record {
    number_lt = u.1.number_lt;
    source_is = u.1.source_is;
    by = v.1.number;
    answer = record {
      is_low = subst (λ (a : ℕ). T ((view m).levels.low? a)) (sym u.1.action_is) u.0;
      step_of = record {
        number_lt = v.1.number_lt;
        source_is = v.1.source_is;
        action_is = v.1.action_is ∙ sym u.1.action_is;
      };
      targets = subst (λ (w : ℕ). Separated (LowStep (view m)) w (target m v.1.number) k) (sym u.1.target_is)
          (subst (λ (w : ℕ). Separated (LowStep (view m)) x w k) (sym v.1.target_is) s);
    };
  }

module _ {s : List ℕ} {m : Model} (st : Stored s m) where
  -- Of two states that the round k+1 separates, some low step has an answer.
  pub has_answer_some : (p q k : ℕ) → 0 < k → SeparatedPair m p q (k + 1) → (j : ℕ) × HasAnswer m p q k j
  has_answer_some p q zero pos x = absurd (omega arith)
  has_answer_some p q (suc k) pos x =
      let (a, y, z, u, v, w) = letter_of_separated (view m) _ (low_step_game st)
      (deterministic_model→Deterministic m x.deterministic) k p q x.second_reachable
      (subst (Separated (LowStep (view m)) p q) (add-one (suc k)) x.separated) in
      (u.1.number, has_answer_of u v w)

  -- Steps rise by action, so the first step that has an answer has the lowest action.
  pub first_letter_of : {p q k j i : ℕ} → (j < length m.steps) × (source m j ≡ p) → Answer m q k j i
      → ((o : ℕ) → o < j → ¬ (HasAnswer m p q k o)) → FirstLetter m p q k j i
  first_letter_of {j = j} (l, e) x none = record {
    number_lt = l;
    source_is = e;
    answer = x;
    first = λ b y z below u v w.
        let n = u.1.number in
        ⊎_elim
        (λ h. none n h (has_answer_of u v w))
        (λ h. omega (
          arith,
          st.action_le j n h u.1.number_lt (e ∙ sym u.1.source_is),
          u.1.action_is,
        ))
        (lt_or_le n j);
  }
