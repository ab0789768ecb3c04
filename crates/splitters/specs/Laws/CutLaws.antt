-- A split by the moves into a set, and then one by those into another: both sets are cut down to the states whose class
-- has another state, since a split separates no state that is alone in its class.
-- Assumes nothing.
use Rattle.std.specs.Prelude.{List, ◌⊎◌, ◌≡◌, ℕ, ◌≤◌, ◌<◌}
use Rattle.std.proofs.Common.{inl, inr, sym, subst, arith}
use Rattle.lts.proofs.TestsLaws.{eq_or_not}
use Rattle.text.specs.Limits.{state_limit}
use Rattle.by_state.specs.Inner.Numbered.{Same}
use Rattle.sets.specs.Inner.SetValues.{In, SetOf}
use Rattle.sets.specs.Laws.SetValuesLaws.{in_or_not}
use Rattle.sets.specs.declared.set.Set.{Set}
use Rattle.held.specs.Held.{Turned}
use Rattle.splitters.specs.Inner.Partition.{Partition, Split, SplitTwice}
use Rattle.splitters.specs.Inner.Splitters.{LeadsInto, LedFrom}
use Rattle.splitters.specs.Laws.SplitLaws.{split_empty, split-map, homes_kept_trans, Finer}

-- ---- sets cut down to states whose class has another

-- Of the states whose class has another, s has those that P holds of.
pub record CutTo (n : ℕ) (class : List ℕ) (P : ℕ → Type 0) (s : Set) : Type 0 where
  pub all : (p q : ℕ) → p < n → q < n → Same class p q → ¬ (p ≡ q) → P p → In s p
  pub only : (p : ℕ) → p < n → In s p → P p

-- A split by s is one by P: a state alone in its class is not separated from any.
pub split-cut : {n old : ℕ} {P : ℕ → Type 0} {s : Set} {c o c' o' : List ℕ} → CutTo n c P s
    → Split n old (In s) c o c' o' → Split n old P c o c' o'
split-cut {n} {old} {P} {s} {c} cut =
    split-map (λ p q lp lq e h _. to p q lp lq e h (eq_or_not p q))
    (λ p q lp lq e h _. back p q lp lq e h (eq_or_not p q))
  where
    to : (p q : ℕ) → p < n → q < n → Same c p q → (In s p → In s q) → (p ≡ q) ⊎ ¬ (p ≡ q) → P p → P q
    to p q lp lq e h (inl d) x = subst P d x
    to p q lp lq e h (inr d) x = cut.only q lq (h (cut.all p q lp lq e d x))

    back : (p q : ℕ) → p < n → q < n → Same c p q → (P p → P q) → (p ≡ q) ⊎ ¬ (p ≡ q) → In s p → In s q
    back p q lp lq e h (inl d) i = subst (In s) d i
    back p q lp lq e h (inr d) i = cut.all q p lq lp (sym e) (λ x. d (sym x)) (h (cut.only p lp i))

-- ---- moves into one set, and into another

-- Those that lead into `fresh` are led to from it.
pub cut_to_fresh : {slots pool : List ℕ} {row back n : ℕ} {c members : List ℕ} {classes : ℕ}
    {fresh together joint from : Set} → Turned slots pool row back → n ≤ state_limit
    → Partition n c members classes together → SetOf (LedFrom slots pool back fresh) joint
    → SetOf (λ x. In joint x × In together x) from → CutTo n c (LeadsInto slots pool row fresh) from
cut_to_fresh turned k part j b = record {
  all = λ p q lp lq e d m. b.all p (
    j.all p (record {
      member = m.target;
      in_set = m.in_set;
      related = turned.there p m.target (omega (arith, k, lp)) m.held;
    }),
    part.together_all p q lp lq e d,
  );
  only = λ p lp i.
      let m = j.only p (b.only p i).0 in
      record {
        target = m.member;
        held = turned.again p m.member m.in_set.member_lt m.related;
        in_set = m.in_set;
      };
}

-- Those of `from` that lead into the other set as well, in the classes that the first split leaves.
pub cut_to-rest : {n : ℕ} {P Q : ℕ → Type 0} {c c' members : List ℕ} {classes : ℕ} {together from left both : Set}
    → CutTo n c P from → Finer n c c' → Partition n c' members classes together
    → SetOf (λ x. In from x × In together x) left → SetOf (λ p. In left p × Q p) both → CutTo n c' (λ p. P p × Q p) both
cut_to-rest cut finer part l b = record {
  all = λ p q lp lq e d m. b.all p (
    l.all p (cut.all p q lp lq (finer p q lp lq e) d m.0, part.together_all p q lp lq e d),
    m.1,
  );
  only = λ p lp i.
      let m = b.only p i in
      (cut.only p lp (l.only p m.0).0, m.1);
}

-- Each state of `fresh` is one of `rest`: what leads into the one leads into the other.
pub leads_within : {slots pool : List ℕ} {row : ℕ} {fresh rest more : Set}
    → SetOf (λ x. In fresh x × ¬ (In rest x)) more → ((x : ℕ) → ¬ (In more x)) → (p : ℕ)
    → LeadsInto slots pool row fresh p → LeadsInto slots pool row rest p
leads_within {rest = rest} m none p l =
    record { target = l.target; held = l.held; in_set = go (in_or_not rest l.target) }
  where
    go : In rest l.target ⊎ ¬ (In rest l.target) → In rest l.target
    go (inl i) = i
    go (inr d) = absurd (none l.target (m.all l.target (l.in_set, d)))

module _ {n old : ℕ} {P Q : ℕ → Type 0} {c o : List ℕ} where
  pub split_twice_of_splits : {c' o' c'' o'' : List ℕ} → Split n old P c o c' o'
      → Split n old (λ p. P p × Q p) c' o' c'' o'' → SplitTwice n old P Q c o c'' o''
  split_twice_of_splits f g = record {
    same_before = λ p q lp lq e. f.by.same_before p q lp lq (g.by.same_before p q lp lq e);
    one = λ p q lp lq e. f.by.same_side p q lp lq (g.by.same_before p q lp lq e);
    other = λ p q lp lq e h k. (g.by.same_side p q lp lq e (h, k)).1;
    stay = λ p q lp lq e a b i j. g.by.stay p q lp lq (f.by.stay p q lp lq e a b) (λ h. (a h.0, i h.1))
        (λ h. (b h.0, j h.1));
    homes = homes_kept_trans f.homes g.homes;
  }

  -- Where P holds, Q does: one split is enough.
  pub split_twice_once : {c' o' : List ℕ} → ((p : ℕ) → P p → Q p) → Split n old P c o c' o'
      → SplitTwice n old P Q c o c' o'
  split_twice_once g f = record {
    same_before = f.by.same_before;
    one = f.by.same_side;
    other = λ p q lp lq e h _. g q (f.by.same_side p q lp lq e h);
    stay = λ p q lp lq e a b _ _. f.by.stay p q lp lq e a b;
    homes = f.homes;
  }

  -- No state is in the first set: nothing is split.
  pub split_twice_none : {s : Set} → CutTo n c P s → ((x : ℕ) → ¬ (In s x)) → SplitTwice n old P Q c o c o
  split_twice_none cut none = split_twice_of_splits (split-cut cut (split_empty (λ p _. none p)))
      (split-cut (record {
        all = λ p q lp lq e d h. cut.all p q lp lq e d h.0;
        only = λ p _ i. absurd (none p i);
      }) (split_empty (λ p _. none p)))
