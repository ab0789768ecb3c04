-- A walk over the members of a set, from the least up: what has been visited is taken out.
-- Assumes nothing.
use Rattle.std.specs.Prelude.{Option, Some, None, ◌⊎◌, ◌≡◌, ℕ, ◌-◌, ◌≤◌, ◌<◌}
use Rattle.std.specs.Iterator.{MakesProgress, at_most}
use Rattle.std.proofs.Common.{inl, inr, sym, subst, arith}
use Rattle.text.specs.Limits.{state_limit}
use Rattle.lts.specs.Alike.{Relation}
use Rattle.lts.proofs.TestsLaws.{eq_or_not, lt_or_le}
use Rattle.sets.specs.Inner.SetValues.{In, SetOf, LeastOf, SomeMember, Popped, words}
use Rattle.sets.specs.declared.set.Members.{Members}
use Rattle.sets.specs.declared.set.Set.{Set}

-- The least member of what is left comes later,
pub least_after : {a b : Set} {x y : ℕ} → LeastOf a x → x < state_limit → ((z : ℕ) → In b z → In a z × ¬ (z ≡ x))
    → LeastOf b y → x < y
least_after {a} {b} {x} {y} h g s k = go (lt_or_le x y)
  where
    go : (x < y) ⊎ (y ≤ x) → x < y
    go (inl l) = l
    go (inr l) =
        let m = s y (k.member (omega (arith, l, g))) in
        absurd (h.none_before y (omega (arith, l, m.1)) m.0)

-- and so it does where others are taken out with it.
pub least_rises : {a gone b : Set} {x y : ℕ} → LeastOf a x → In gone x → SetOf (λ z. In a z × ¬ (In gone z)) b
    → LeastOf b y
    → x < y
least_rises {gone = gone} h g s =
    least_after h g.member_lt (λ z i. ((s.only z i).0, λ e. (s.only z i).1 (subst (In gone) (sym e) g)))

-- The walk comes nearer to its end,
pub walk_nearer : {a b : Set} {x y : ℕ} → LeastOf a x → x < state_limit → SetOf (λ z. In a z × ¬ (z ≡ x)) b → LeastOf
    b y
    → state_limit - y < state_limit - x
walk_nearer h l s k = omega (arith, least_after h l s.only k, l)

-- and is there.
pub none_of_least : {s : Set} {x : ℕ} → LeastOf s x → state_limit ≤ x → (y : ℕ) → ¬ (In s y)
none_of_least h l y m = h.none_before y (omega (arith, l, m.member_lt)) m

-- Taking members out comes to an end.
pub pop_goes : {s t : Members} (r : Option ℕ) → Popped s.left r t.left
    → MakesProgress (λ (z : Members). Unit {0}) (λ z. at_most (words z.left)) s r t
pop_goes (Some x) p = record { on = λ b. (tt, tt, p.fewer); keeps = tt; rests = λ b. tt }
pop_goes None p = record { on = λ b. tt; keeps = tt; rests = λ b. tt }

-- ---- all that members of a set have

-- The members of the set but those that are left are gone through.
pub record UnionTo (Of : Relation) (set left found : Set) : Type 0 where
  pub all : (t x : ℕ) → In set t → Of t x → In found x ⊎ In left t
  pub only : (x : ℕ) → In found x → SomeMember Of set x
  pub left_in : (t : ℕ) → In left t → In set t

module _ {Of : Relation} {set : Set} where
  pub union_to_start : {found : Set} → SetOf (λ x. ⊥) found → UnionTo Of set set found
  union_to_start none = record {
    all = λ t x i h. inr i;
    only = λ x i. absurd (none.only x i);
    left_in = λ t i. i;
  }

  pub union_to_next : {left left' found found' own : Set} {t : ℕ} → UnionTo Of set left found → In left t
      → SetOf (Of t) own → SetOf (λ x. In found x ⊎ In own x) found'
      → SetOf (λ x. In left x × ¬ (x ≡ t)) left' → UnionTo Of set left' found'
  union_to_next {left} {left'} {found} {found'} {own} {t} j i o u w = record {
    all = λ z x m h. all z x h (j.all z x m h) (eq_or_not z t);
    only = λ x m. only x (u.only x m);
    left_in = λ z m. j.left_in z (w.only z m).0;
  }
    where
      all : (z x : ℕ) → Of z x → In found x ⊎ In left z → (z ≡ t) ⊎ ¬ (z ≡ t) → In found' x ⊎ In left' z
      all z x h (inl m) b = inl (u.all x (inl m))
      all z x h (inr m) (inl e) = inl (u.all x (inr (o.all x (subst (λ (y : ℕ). Of y x) e h))))
      all z x h (inr m) (inr d) = inr (w.all z (m, d))

      only : (x : ℕ) → In found x ⊎ In own x → SomeMember Of set x
      only x (inl m) = j.only x m
      only x (inr m) = record { member = t; in_set = j.left_in t i; related = o.only x m }

  pub union_to_end : {left found : Set} → UnionTo Of set left found → ((t : ℕ) → ¬ (In left t))
      → SetOf (SomeMember Of set) found
  union_to_end {left} {found} j none = record {
    all = λ x m. all x (j.all m.member x m.in_set m.related);
    only = j.only;
  }
    where
      all : {t : ℕ} (x : ℕ) → In found x ⊎ In left t → In found x
      all x (inl i) = i
      all {t} x (inr i) = absurd (none t i)
