-- The targets of a state are tried from the lowest up; none opens that is a target of the other state too.
-- Assumes nothing.
use Rattle.std.specs.Prelude.{◌⊎◌, ◌≡◌, ℕ, ◌<◌}
use Rattle.std.proofs.Common.{inl, inr, subst, arith}
use Rattle.lts.proofs.TestsLaws.{eq_or_not}
use Rattle.lts.specs.Alike.{Relation}
use Rattle.text.specs.Limits.{state_limit}
use Rattle.sets.specs.declared.set.Set.{Set}
use Rattle.sets.specs.Inner.SetValues.{In, SetOf, LeastOf}
use Rattle.sets.specs.Laws.SetValuesLaws.{in_or_not}
use Rattle.weak_books.specs.Inner.OpensTo.{Irreflexive, LowestTo, Tried}

-- Where each target of p is one of q, the opening itself would be an answer.
pub lowest_to_within : {Target Leads : Relation} {p q : ℕ} → Irreflexive Leads → ((t : ℕ) → Target p t → Target q t)
    → LowestTo Target Leads p q state_limit
lowest_to_within apart within = record {
  lowest_le = omega arith;
  none_before = λ t l o. apart t (o.answers t (within t o.opening));
  opens = λ l. absurd (omega (arith, l));
}

pub tried-start : {Leads : Relation} {answers all : Set} → Tried Leads answers all all
tried-start = record { left_in = λ t i. i; gone = λ t i d. absurd (d i) }

-- Beside t there is an answer that Leads does not hold of.
pub tried_without : {Leads : Relation} {answers all left left' : Set} {t : ℕ} → Tried Leads answers all left
    → ¬ ((u : ℕ) → In answers u → Leads t u) → SetOf (λ x. In left x × ¬ (x ≡ t)) left' → Tried Leads answers all left'
tried_without {Leads} {answers} {all} {left} {left'} {t} T some L = record {
  left_in = λ x i. T.left_in x (L.only x i).0;
  gone = λ x i d f. go x i d f (eq_or_not x t) (in_or_not left x);
}
  where
    go : (x : ℕ) → In all x → ¬ (In left' x) → ((u : ℕ) → In answers u → Leads x u) → (x ≡ t) ⊎ ¬ (x ≡ t)
        → In left x ⊎ ¬ (In left x) → ⊥
    go x i d f (inl e) _ = some (subst (λ (y : ℕ). (u : ℕ) → In answers u → Leads y u) e f)
    go x i d f (inr n) (inl h) = d (L.all x (h, n))
    go x i d f (inr n) (inr h) = T.gone x i h f

-- What is tried next is a target.
pub target_of_tried : {P : ℕ → Type 0} {Leads : Relation} {targets answers all left : Set} {t : ℕ} → SetOf P targets
    → SetOf (λ x. In targets x × ¬ (In answers x)) all → Tried Leads answers all left → LeastOf left t → t < state_limit
    → P t
target_of_tried {t = t} P L T least l = P.only t (L.only t (T.left_in t (least.member l))).0

module _ {Target Leads : Relation} {p q : ℕ} {targets answers all : Set} (P : SetOf (Target p) targets)
    (Q : SetOf (Target q) answers) (L : SetOf (λ x. In targets x × ¬ (In answers x)) all) {left : Set} {t : ℕ}
    (T : Tried Leads answers all left) (least : LeastOf left t) (apart : Irreflexive Leads) where
  pub lowest_to_of_tried : (t < state_limit → (u : ℕ) → In answers u → Leads t u) → LowestTo Target Leads p q t
  lowest_to_of_tried leads = record {
    lowest_le = least.least_le;
    none_before = λ u l o. T.gone u (L.all u (P.all u o.opening, λ i. apart u (o.answers u (Q.only u i))))
        (least.none_before u l) (λ x i. o.answers x (Q.only x i));
    opens = λ l. record {
      opening = target_of_tried P L T least l;
      answers = λ u h. leads l u (Q.all u h);
    };
  }

  -- No target is left.
  pub lowest_to_none : ¬ (t < state_limit) → LowestTo Target Leads p q t
  lowest_to_none d = lowest_to_of_tried (λ l. absurd (d l))

  pub lowest_to_end : t ≡ state_limit → LowestTo Target Leads p q state_limit
  lowest_to_end e = subst (λ (x : ℕ). LowestTo Target Leads p q x) e (lowest_to_none (λ l. omega (arith, e, l)))
