-- A class split by a set, and one class after another. A state that is alone in its class needs no split.
-- Assumes nothing.
use Rattle.std.specs.Prelude.{List, ◌⊎◌, ◌≡◌, ℕ, ◌<◌, get_or}
use Rattle.std.proofs.Common.{inl, inr, sym, ◌∙◌, subst}
use Rattle.lts.proofs.TestsLaws.{eq_or_not}
use Rattle.by_state.specs.Inner.Numbered.{Same}
use Rattle.sets.specs.Inner.Sets.{Member}
use Rattle.sets.specs.Inner.SetValues.{In, SetOf}
use Rattle.sets.specs.Laws.SetValuesLaws.{in_or_not}
use Rattle.sets.specs.declared.set.Set.{Set}
use Rattle.splitters.specs.Inner.Partition.{Partition, Split, TwoParts}
use Rattle.splitters.specs.Inner.Splitting.{LeftOf}
use Rattle.splitters.specs.Laws.SplitLaws.{SidesKept, split_refl, split_empty, split_trans}
use Rattle.splitters.specs.Laws.SplitLaws.{split-map, split_iff}
use Rattle.sets.specs.Laws.SearchLaws.{some_of_not_none}

-- What is left without x, and then without a set that has x, is left without the set.
pub left_without : {x : ℕ} {left others gone less : Set} → In gone x → SetOf (λ y. In left y × ¬ (y ≡ x)) others
    → SetOf (λ y. In others y × ¬ (In gone y)) less → SetOf (λ y. In left y × ¬ (In gone y)) less
left_without {gone = gone} g V D = record {
  all = λ y i. D.all y (V.all y (i.0, λ e. i.1 (subst (In gone) (sym e) g)), i.1);
  only = λ y j. ((V.only y (D.only y j).0).0, (D.only y j).1);
}

-- The states of a class are in its set.
in_whole : {n c classes : ℕ} {class members : List ℕ} {together whole : Set}
    → Partition n class members classes together → SetOf (Member members c) whole → (p : ℕ) → p < n
    → get_or class p 0 ≡ c → In whole p
in_whole {members = members} P W p lp e = W.all p (subst (λ (k : ℕ). Member members k p) e (P.member p lp))

-- ---- a class of two parts

pub two_parts_sym : {members : List ℕ} {c : ℕ} {a b : Set} → TwoParts members c a b → TwoParts members c b a
two_parts_sym {a = a} {b = b} T = record {
  part_in = T.rest_in;
  rest_in = T.part_in;
  apart = λ p i j. T.apart p j i;
  all = λ p m. other p (T.all p m);
  some_part = T.some_rest;
  some_rest = T.some_part;
}
  where
    other : (p : ℕ) → In a p ⊎ In b p → In b p ⊎ In a p
    other p (inl i) = inr i
    other p (inr i) = inl i

module _ {n c classes : ℕ} {class members : List ℕ} {together : Set}
    (P : Partition n class members classes together) (l : c < classes) where
  sides : {a b : Set} → TwoParts members c a b → SidesKept n class (In a) (In b)
  sides {a} {b} T p q lp lq e f g i =
      go (T.all q (subst (λ (k : ℕ). Member members k q) (sym e ∙ (P.member_only c p l (T.rest_in p i)).1)
      (P.member q lq)))
    where
      go : In a q ⊎ In b q → In b q
      go (inl j) = absurd (T.apart p (g j) i)
      go (inr j) = j

  -- A split by the one part is a split by the other.
  pub split_sym : {old : ℕ} {a b : Set} {o c' o' : List ℕ} → TwoParts members c a b
      → Split n old (In a) class o c' o' → Split n old (In b) class o c' o'
  split_sym T = split-map (sides T) (sides (two_parts_sym T))

  -- ---- a class and a set

  module _ {set whole : Set} (W : SetOf (Member members c) whole) where
    -- None of the class is in the set,
    pub split_outside : {old : ℕ} {part : Set} {o : List ℕ} → SetOf (λ x. In whole x × In set x) part
        → ((x : ℕ) → ¬ (In part x)) → Split n old (λ p. (get_or class p 0 ≡ c) × In set p) class o class o
    split_outside A none = split_empty (λ p lp h. none p (A.all p (in_whole P W p lp h.0, h.1)))

    -- or each,
    pub split_inside : {old : ℕ} {rest : Set} {o : List ℕ} → SetOf (λ x. In whole x × ¬ (In set x)) rest
        → ((x : ℕ) → ¬ (In rest x)) → Split n old (λ p. (get_or class p 0 ≡ c) × In set p) class o class o
    split_inside B none =
        split_refl (λ p q lp lq e h. let d = sym e ∙ h.0 in (d, go q (in_whole P W q lq d) (in_or_not set q)))
      where
        go : (q : ℕ) → In whole q → In set q ⊎ ¬ (In set q) → In set q
        go q i (inl j) = j
        go q i (inr f) = absurd (none q (B.all q (i, f)))

    -- or the set divides it.
    module _ {part rest : Set} (A : SetOf (λ x. In whole x × In set x) part)
        (B : SetOf (λ x. In whole x × ¬ (In set x)) rest) where
      pub two_parts_both : ¬ ((x : ℕ) → ¬ (In part x)) → ¬ ((x : ℕ) → ¬ (In rest x)) → TwoParts members c part rest
      two_parts_both f g = record {
        part_in = λ p i. W.only p (A.only p i).0;
        rest_in = λ p i. W.only p (B.only p i).0;
        apart = λ p i j. (B.only p j).1 (A.only p i).1;
        all = λ p m. side p (W.all p m) (in_or_not set p);
        some_part = some_of_not_none part f;
        some_rest = some_of_not_none rest g;
      }
        where
          side : (p : ℕ) → In whole p → In set p ⊎ ¬ (In set p) → In part p ⊎ In rest p
          side p i (inl j) = inl (A.all p (i, j))
          side p i (inr d) = inr (B.all p (i, d))

      pub split_class : {old : ℕ} {o c' o' : List ℕ} → Split n old (In part) class o c' o'
          → Split n old (λ p. (get_or class p 0 ≡ c) × In set p) class o c' o'
      split_class = split_iff
          (λ p lp i. ((P.member_only c p l (W.only p (A.only p i).0)).1, (A.only p i).1))
          (λ p lp h. A.all p (in_whole P W p lp h.0, h.1))

-- ---- one class after another

-- States that are alone in their class stay so.
module _ {n classes : ℕ} {class members : List ℕ} {together set left : Set}
    (P : Partition n class members classes together) (L : SetOf (λ x. In set x × In together x) left) where
  in_left : (p q : ℕ) → p < n → q < n → Same class p q → ¬ (p ≡ q) → In set p → In left p
  in_left p q lp lq e d i = L.all p (i, P.together_all p q lp lq e d)

  pub left_of_together : LeftOf n class set left
  left_of_together = record {
    state_lt = λ p i. P.together_lt p (L.only p i).1;
    within = λ p i. (L.only p i).0;
    closed = λ p q lp lq e i j. go p q lp lq e i j (eq_or_not q p);
  }
    where
      go : (p q : ℕ) → p < n → q < n → Same class p q → In left p → In set q → (q ≡ p) ⊎ ¬ (q ≡ p) → In left q
      go p q lp lq e i j (inl h) = subst (In left) (sym h) i
      go p q lp lq e i j (inr d) = in_left q p lq lp (sym e) d j

  pub split_together : {old : ℕ} {o c' o' : List ℕ} → Split n old (In left) class o c' o'
      → Split n old (In set) class o c' o'
  split_together = split-map (λ p q lp lq e f _ i. there p q lp lq e f i (eq_or_not p q))
      (λ p q lp lq e f _ i. left_of_together.closed p q lp lq e i (f (L.only p i).0))
    where
      there : (p q : ℕ) → p < n → q < n → Same class p q → (In left p → In left q) → In set p → (p ≡ q) ⊎ ¬ (p ≡ q)
          → In set q
      there p q lp lq e f i (inl h) = subst (In set) h i
      there p q lp lq e f i (inr d) = (L.only q (f (in_left p q lp lq e d i))).0

pub class_of_left_lt : {n classes c x : ℕ} {class members : List ℕ} {together set left : Set}
    → Partition n class members classes together → LeftOf n class set left → In left x → c ≡ get_or class x 0
    → c < classes
class_of_left_lt {classes = classes} {x = x} P L i e =
    subst (λ (k : ℕ). k < classes) (sym e) (P.class_lt x (L.state_lt x i))

-- The class of x is split, and taken out of what is left.
module _ {n classes c x : ℕ} {class members : List ℕ} {together set left whole : Set}
    (P : Partition n class members classes together) (L : LeftOf n class set left) (i : In left x)
    (e : c ≡ get_or class x 0) (W : SetOf (Member members c) whole) where
  pub whole_has : In whole x
  whole_has = in_whole P W x (L.state_lt x i) (sym e)

  module _ {less : Set} (D : SetOf (λ y. In left y × ¬ (In whole y)) less) where
    untaken : (p : ℕ) → In left p → ¬ (get_or class p 0 ≡ c) → In less p
    untaken p j d = D.all p (j, λ w. d (P.member_only c p (class_of_left_lt P L i e) (W.only p w)).1)

    pub left_of_less : {next : List ℕ} → ((p q : ℕ) → p < n → q < n → Same next p q → Same class p q)
        → LeftOf n next set less
    left_of_less f = record {
      state_lt = λ p j. L.state_lt p (D.only p j).0;
      within = λ p j. L.within p (D.only p j).0;
      closed = λ p q lp lq h j k.
          let s = f p q lp lq h in
          untaken q (L.closed p q lp lq s (D.only p j).0 k) (λ d. (D.only p j).1 (in_whole P W p lp (s ∙ d)));
    }

    module _ {old : ℕ} {o c' o' c'' o'' : List ℕ}
        (F : Split n old (λ p. (get_or class p 0 ≡ c) × In set p) class o c' o')
        (G : Split n old (In less) c' o' c'' o'') where
      pub split_less : Split n old (In left) class o c'' o''
      split_less = split_trans F G (record {
        same_before = λ p q lp lq h. F.by.same_before p q lp lq (G.by.same_before p q lp lq h);
        same_side = λ p q lp lq h j. side p q lp lq h j (eq_or_not (get_or class p 0) c);
        stay = λ p q lp lq h f g.
            G.by.stay p q lp lq
            (F.by.stay p q lp lq h (inside p q lp lq h f) (inside q p lq lp (sym h) g))
            (less_too p q lp lq h f) (less_too q p lq lp (sym h) g);
      })
        where
          side : (p q : ℕ) → p < n → q < n → Same c'' p q → In left p → (get_or class p 0 ≡ c) ⊎ ¬
              (get_or class p 0 ≡ c)
              → In left q
          side p q lp lq h j (inl d) =
              let s = G.by.same_before p q lp lq h in
              L.closed p q lp lq (F.by.same_before p q lp lq s) j
              (F.by.same_side p q lp lq s (d, L.within p j)).1
          side p q lp lq h j (inr d) = (D.only q (G.by.same_side p q lp lq h (untaken p j d))).0

          inside : (p q : ℕ) → p < n → q < n → Same class p q → (In left p → In left q)
              → (get_or class p 0 ≡ c) × In set p → (get_or class q 0 ≡ c) × In set q
          inside p q lp lq h f (d, k) =
              (sym h ∙ d, L.within q (f (L.closed x p (L.state_lt x i) lp (sym e ∙ sym d) i k)))

          less_too : (p q : ℕ) → p < n → q < n → Same class p q → (In left p → In left q) → In less p → In less q
          less_too p q lp lq h f j =
              untaken q (f (D.only p j).0) (λ d. (D.only p j).1 (in_whole P W p lp (h ∙ d)))
