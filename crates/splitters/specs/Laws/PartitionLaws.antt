-- A class that falls into two parts: the states of the one get the next number, and what is left is a partition.
-- Assumes nothing.
use Rattle.std.specs.Prelude.{List, ◌⊎◌, ◌≡◌, refl, ℕ, zero, suc, ◌+◌, ◌≤◌, ◌<◌, get_or}
use Rattle.std.proofs.Common.{inl, inr, sym, ◌∙◌, subst, arith}
use Rattle.std.proofs.Math.Logic.{∥∥₁_elim}
use Rattle.std.proofs.Props.{props}
use Rattle.lts.proofs.PigeonholeLaws.{injective_le}
use Rattle.lts.proofs.TestsLaws.{eq_or_not, lt_or_le, lt-suc_cases}
use Rattle.by_state.specs.Inner.Numbered.{Same}
use Rattle.sets.specs.Inner.Sets.{Member}
use Rattle.sets.specs.Inner.SetValues.{In, SetOf}
use Rattle.sets.specs.Laws.SetValuesLaws.{in_or_not}
use Rattle.sets.specs.declared.set.Set.{Set}
use Rattle.splitters.specs.Inner.Partition.{Partition, SplitBy, TwoParts, Moved}

-- ---- each class has a state

-- One of the first m states is in class c, or none.
search_class : (class : List ℕ) (c m : ℕ) → ((p : ℕ) × (p < m) × (get_or class p 0 ≡ c))
    ⊎ ((p : ℕ) → p < m → ¬ (get_or class p 0 ≡ c))
search_class class c zero = inr (λ p l. absurd (omega (arith, l)))
search_class class c (suc m) = go (search_class class c m) (eq_or_not (get_or class m 0) c)
  where
    go : ((p : ℕ) × (p < m) × (get_or class p 0 ≡ c)) ⊎ ((p : ℕ) → p < m → ¬ (get_or class p 0 ≡ c))
        → (get_or class m 0 ≡ c) ⊎ ¬ (get_or class m 0 ≡ c) → ((p : ℕ) × (p < suc m) × (get_or class p 0 ≡ c))
        ⊎ ((p : ℕ) → p < suc m → ¬ (get_or class p 0 ≡ c))
    go (inl h) _ = inl (h.0, omega (arith, h.1), h.2)
    go (inr h) (inl e) = inl (m, omega arith, e)
    go (inr h) (inr d) = inr (λ p l. below p (lt-suc_cases l))
      where
        below : (p : ℕ) → (p ≡ m) ⊎ (p < m) → ¬ (get_or class p 0 ≡ c)
        below p (inl e) f = d (subst (λ (q : ℕ). get_or class q 0 ≡ c) e f)
        below p (inr l) f = h p l f

pub state_of_class : {n classes : ℕ} {class members : List ℕ} {together : Set}
    → Partition n class members classes together → (c : ℕ) → c < classes
    → (p : ℕ) × (p < n) × (get_or class p 0 ≡ c)
state_of_class P c l = P.some c l

-- Of a partition of which only that it is one is known, all is known: a state of a class is found again by a search.
pub partition_of : {n classes : ℕ} {class members : List ℕ} {together : Set}
    → ∥ Partition n class members classes together ∥₁ → Partition n class members classes together
partition_of {n} {classes} {class} h = record {
  classes_le = ∥∥₁_elim h (Prim.hlevel props) (λ P. P.classes_le);
  class_lt = ∥∥₁_elim h (Prim.hlevel props) (λ P. P.class_lt);
  member = ∥∥₁_elim h (Prim.hlevel props) (λ P. P.member);
  member_only = ∥∥₁_elim h (Prim.hlevel props) (λ P. P.member_only);
  some = λ c l. found c l (search_class class c n);
  together_all = ∥∥₁_elim h (Prim.hlevel props) (λ P. P.together_all);
  together_lt = ∥∥₁_elim h (Prim.hlevel props) (λ P. P.together_lt);
}
  where
    found : (c : ℕ) → c < classes → ((p : ℕ) × (p < n) × (get_or class p 0 ≡ c))
        ⊎ ((p : ℕ) → p < n → ¬ (get_or class p 0 ≡ c)) → (p : ℕ) × (p < n) × (get_or class p 0 ≡ c)
    found c l (inl x) = x
    found c l (inr none) = absurd (∥∥₁_elim h (Prim.hlevel props) (λ P. let x = P.some c l in none x.0 x.1 x.2))

-- ---- no more classes than states

-- Each number below m is that of a state.
module _ (m n : ℕ) (f : ℕ → ℕ) (some : (i : ℕ) → i < m → (p : ℕ) × (p < n) × (f p ≡ i)) where
  state_of : (i : ℕ) → (i < m) ⊎ (m ≤ i) → ℕ
  state_of i (inl l) = (some i l).0
  state_of i (inr l) = 0

  -- Then there are at least m.
  pub numbers_le : m ≤ n
  unfolding state_of
  numbers_le = injective_le m n (λ i. state_of i (lt_or_le i m)) (λ i l. below i l (lt_or_le i m))
      (λ i j k l. one i j k l (lt_or_le i m) (lt_or_le j m))
    where
      below : (i : ℕ) → i < m → (d : (i < m) ⊎ (m ≤ i)) → state_of i d < n
      below i l (inl k) = (some i k).1
      below i l (inr k) = absurd (omega (arith, l, k))

      one : (i j : ℕ) → i < m → j < m → (d : (i < m) ⊎ (m ≤ i)) (e : (j < m) ⊎ (m ≤ j)) → state_of i d ≡ state_of j e
          → i ≡ j
      one i j k l (inl d) (inl e) h = sym (some i d).2 ∙ (λ x. f (h x)) ∙ (some j e).2
      one i j k l (inl d) (inr e) h = absurd (omega (arith, l, e))
      one i j k l (inr d) e h = absurd (omega (arith, k, d))

-- The one number for the states of the set, the other for the others.
number_of : {s : Set} {p : ℕ} → In s p ⊎ ¬ (In s p) → ℕ → ℕ → ℕ
number_of (inl _) a b = a
number_of (inr _) a b = b

-- ---- a set with one member

-- Nothing is left of s without x: what is taken out is x, and s has no other member.
pub alone_without : {s one left together r : Set} {x : ℕ} → In s x → SetOf (λ y. y ≡ x) one
    → SetOf (λ y. In s y × ¬ (In one y)) left → ((y : ℕ) → ¬ (In left y))
    → SetOf (λ y. In together y × ¬ (In one y)) r → (y : ℕ) → In together y → ¬ (In r y)
    → In s y × ((z : ℕ) → In s z → z ≡ y)
alone_without {s} {one} {left} {together} {r} {x} m o w none t y i d =
    let e : y ≡ x = go y (in_or_not one y) (λ f. d (t.all y (i, f))) in
    (subst (In s) (sym e) m, λ z j. go z (in_or_not one z) (λ f. none z (w.all z (j, f))) ∙ sym e)
  where
    go : (z : ℕ) → In one z ⊎ ¬ (In one z) → ¬ (¬ (In one z)) → z ≡ x
    go z (inl k) f = o.only z k
    go z (inr k) f = absurd (f k)

-- ---- a class that falls into two parts

module _ {n c classes : ℕ} {class members : List ℕ} {together moved kept : Set}
    (P : Partition n class members classes together) (l : c < classes) (T : TwoParts members c moved kept) where
  pub moved_in : (p : ℕ) → In moved p → (p < n) × (get_or class p 0 ≡ c)
  moved_in p m = P.member_only c p l (T.part_in p m)

  pub kept_in : (p : ℕ) → In kept p → (p < n) × (get_or class p 0 ≡ c)
  kept_in p m = P.member_only c p l (T.rest_in p m)

  -- What does not move of the class is kept.
  pub kept_of_class : (p : ℕ) → p < n → get_or class p 0 ≡ c → ¬ (In moved p) → In kept p
  kept_of_class p lp e d = go (T.all p (subst (λ (i : ℕ). Member members i p) e (P.member p lp)))
    where
      go : In moved p ⊎ In kept p → In kept p
      go (inl m) = absurd (d m)
      go (inr m) = m

  -- Each class has a state still.
  pub some_next : (f : ℕ → ℕ) → ((p : ℕ) → In moved p → f p ≡ classes)
      → ((p : ℕ) → ¬ (In moved p) → f p ≡ get_or class p 0) → (i : ℕ) → i < classes + 1
      → (p : ℕ) × (p < n) × (f p ≡ i)
  some_next f new same i k = go (eq_or_not i classes) (eq_or_not i c)
    where
      p : ℕ
      p = T.some_part.0

      q : ℕ
      q = T.some_rest.0

      go : (i ≡ classes) ⊎ ¬ (i ≡ classes) → (i ≡ c) ⊎ ¬ (i ≡ c) → (p : ℕ) × (p < n) × (f p ≡ i)
      go (inl e) _ = (p, (moved_in p T.some_part.1).0, new p T.some_part.1 ∙ sym e)
      go (inr d) (inl e) =
          let h = kept_in q T.some_rest.1 in
          (q, h.0, same q (λ m. T.apart q m T.some_rest.1) ∙ h.1 ∙ sym e)
      go (inr d) (inr e) =
          let h = state_of_class P i (omega (arith, k, d)) in
          (h.0, h.1, same h.0 (λ m. e (sym h.2 ∙ (moved_in h.0 m).1)) ∙ h.2)

  -- There is a number for the new class.
  pub classes_lt_states : classes < n
  unfolding number_of
  classes_lt_states = omega (arith, numbers_le (classes + 1) n f (some_next f new same))
    where
      f : ℕ → ℕ
      f p = number_of (in_or_not moved p) classes (get_or class p 0)

      new : (p : ℕ) → In moved p → f p ≡ classes
      new p m = go (in_or_not moved p)
        where
          go : (d : In moved p ⊎ ¬ (In moved p)) → number_of d classes (get_or class p 0) ≡ classes
          go (inl _) = refl
          go (inr d) = absurd (d m)

      same : (p : ℕ) → ¬ (In moved p) → f p ≡ get_or class p 0
      same p d = go (in_or_not moved p)
        where
          go : (e : In moved p ⊎ ¬ (In moved p)) → number_of e classes (get_or class p 0) ≡ get_or class p 0
          go (inl m) = absurd (d m)
          go (inr _) = refl

  -- ---- the part has moved

  module _ {next : List ℕ} (M : Moved moved classes class next) where
    -- The states of the new class are those that moved.
    pub moved_of_new : (p : ℕ) → p < n → get_or next p 0 ≡ classes → In moved p
    moved_of_new p lp e = go (in_or_not moved p)
      where
        go : In moved p ⊎ ¬ (In moved p) → In moved p
        go (inl m) = m
        go (inr d) = absurd (omega (arith, e, M.kept p d, P.class_lt p lp))

    pub split_by_moved : SplitBy n (In moved) class next
    split_by_moved = record {
      same_before = λ p q lp lq e. before p q lp lq e (in_or_not moved p) (in_or_not moved q);
      same_side = λ p q lp lq e m. moved_of_new q lq (sym e ∙ M.moved p m);
      stay = λ p q lp lq e f g. stay p q e f g (in_or_not moved p);
    }
      where
        before : (p q : ℕ) → p < n → q < n → Same next p q → In moved p ⊎ ¬ (In moved p) → In moved q ⊎ ¬ (In moved q)
            → Same class p q
        before p q lp lq e (inl i) (inl j) = (moved_in p i).1 ∙ sym (moved_in q j).1
        before p q lp lq e (inl i) (inr j) = absurd (j (moved_of_new q lq (sym e ∙ M.moved p i)))
        before p q lp lq e (inr i) (inl j) = absurd (i (moved_of_new p lp (e ∙ M.moved q j)))
        before p q lp lq e (inr i) (inr j) = sym (M.kept p i) ∙ e ∙ M.kept q j

        stay : (p q : ℕ) → Same class p q → (In moved p → In moved q) → (In moved q → In moved p)
            → In moved p ⊎ ¬ (In moved p) → Same next p q
        stay p q e f g (inl i) = M.moved p i ∙ sym (M.moved q (f i))
        stay p q e f g (inr i) = M.kept p i ∙ e ∙ sym (M.kept q (λ j. i (g j)))
