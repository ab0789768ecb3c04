-- A search along the links of its class finds the lead with the key of a state, or shows that there is none: then the
-- state becomes the last lead. Assumes nothing.
use Rattle.std.specs.Prelude.{◌≡◌, refl, ◌⊎◌, List, ℕ, ◌+◌, ◌≤◌, ◌<◌, length, get_or, set}
use Rattle.std.proofs.Common.{sym, ◌∙◌, subst, inl, inr, arith, get_or-set_same, get_or-set_other}
use Rattle.lts.proofs.TestsLaws.{eq_or_not, lt_or_le}
use Rattle.sets.specs.Inner.Sets.{SameSet}
use Rattle.weak_ranks.specs.Inner.Dividing.{LeadClasses, Lead, NextLead, DividedUpTo, AtState, LeadSought}
use Rattle.weak_ranks.specs.Inner.Dividing.{Dividing, Sought, LeadFound}
use Rattle.weak_ranks.specs.Laws.DividingLaws.{lead_stays, lead_before, new_lead, divided_follows, divided_leads}

-- ---- along the links

module _ {keys class next link : List ℕ} {p from : ℕ} (A : AtState keys class next link p from) where
  lead_sought_first : LeadSought keys class next p from from
  lead_sought_first = record { lead = A.first; none_before = λ x l L. absurd (omega (arith, A.lowest x L)) }

  module _ {r : ℕ} (S : LeadSought keys class next p from r) where
    N : NextLead class next p from r (get_or link r 0)
    N = A.divided.links from r S.lead

    lead_sought_next : ¬ (SameSet keys r p) → 0 < get_or link r 0 → LeadSought keys class next p from (get_or link r 0)
    lead_sought_next d g = record {
      lead = N.is_lead g;
      none_before = λ x l L. go x l L (eq_or_not x r) (lt_or_le x r);
    }
      where
        go : (x : ℕ) → x < get_or link r 0 → Lead class next p from x → (x ≡ r) ⊎ ¬ (x ≡ r) → (x < r) ⊎ (r ≤ x)
            → ¬ (SameSet keys x p)
        go x l L (inl e) c = subst (λ (y : ℕ). ¬ (SameSet keys y p)) (sym e) d
        go x l L (inr i) (inl b) = S.none_before x b L
        go x l L (inr i) (inr b) = absurd (omega (arith, (N.none_between x (omega arith) L).1))

    -- r has the key of p.
    lead_follows : SameSet keys r p → p < length next → DividedUpTo keys class (set next p r) link (p + 1)
    lead_follows K l = divided_follows A.divided (λ x d. get_or-set_other next p x r 0 d) (get_or-set_same next p r 0 l)
        (subst (λ (c : ℕ). Lead class next p c r) (sym A.class_is) S.lead) K

    -- r is the last lead of the class and has another key: p comes after it.
    lead_after : ¬ (SameSet keys r p) → get_or link r 0 ≡ 0 → r < length link → p < length next
        → DividedUpTo keys class (set next p p) (set link r p) (p + 1)
    lead_after d z lr lp = divided_leads D same here fresh linked
        (λ x l. get_or-set_other link r x p 0 (λ e. absurd (omega (arith, S.lead.state_lt))) ∙ D.no_links x l)
      where
        D : DividedUpTo keys class next link p
        D = A.divided

        same : (x : ℕ) → ¬ (x ≡ p) → get_or (set next p p) x 0 ≡ get_or next x 0
        same x e = get_or-set_other next p x p 0 e

        here : get_or (set next p p) p 0 ≡ p
        here = get_or-set_same next p p 0 lp

        -- r is the last
        last : (x : ℕ) → Lead class next p from x → x ≤ r
        last x L = go (lt_or_le r x)
          where
            go : (r < x) ⊎ (x ≤ r) → x ≤ r
            go (inl l) = absurd (omega (arith, (N.none_between x l L).0))
            go (inr l) = l

        fresh : (x : ℕ) → Lead class next p (get_or class p 0) x → ¬ (SameSet keys x p)
        fresh x M = go (eq_or_not x r)
          where
            L : Lead class next p from x
            L = subst (λ (c : ℕ). Lead class next p c x) A.class_is M

            go : (x ≡ r) ⊎ ¬ (x ≡ r) → ¬ (SameSet keys x p)
            go (inl e) = subst (λ (y : ℕ). ¬ (SameSet keys y p)) (sym e) d
            go (inr i) = S.none_before x (omega (arith, last x L)) L

        class_of : {c x : ℕ} → x ≡ p → Lead class (set next p p) (p + 1) c x → c ≡ from
        class_of {c} e M = subst (λ (y : ℕ). c ≡ get_or class y 0) e (sym M.class_is) ∙ A.class_is

        linked : (c y : ℕ) → Lead class next p c y
            → NextLead class (set next p p) (p + 1) c y (get_or (set link r p) y 0)
        linked c y L = go (eq_or_not y r)
          where
            -- from r on
            at_last : y ≡ r → get_or (set link r p) y 0 ≡ p
            at_last e = subst (λ (x : ℕ). get_or (set link r p) x 0 ≡ p) (sym e) (get_or-set_same link r p 0 lr)

            class_last : y ≡ r → get_or class p 0 ≡ c
            class_last e = A.class_is ∙ sym S.lead.class_is
                ∙ subst (λ (x : ℕ). get_or class x 0 ≡ c) e L.class_is

            after_last : y ≡ r → (x : ℕ) → y < x → Lead class (set next p p) (p + 1) c x → (x ≡ p) ⊎ ¬ (x ≡ p)
                → (0 < p) × (p ≤ x)
            after_last e x l M (inl i) = (omega arith, omega arith)
            after_last e x l M (inr i) =
                let B = subst (λ (k : ℕ). Lead class next p k x) (sym (class_last e) ∙ A.class_is)
                (lead_before D same i M) in
                absurd (omega (arith, last x B))

            -- before r
            before_last : ¬ (y ≡ r) → (x : ℕ) → y < x → Lead class (set next p p) (p + 1) c x → (x ≡ p) ⊎ ¬ (x ≡ p)
                → (0 < get_or link y 0) × (get_or link y 0 ≤ x)
            before_last i x l M (inl e) =
                let B : Lead class next p from y = subst (λ (k : ℕ). Lead class next p k y) (class_of e M) L in
                let h = (D.links from y B).none_between r (omega (arith, last y B)) S.lead in
                (h.0, omega (arith, h.1, S.lead.state_lt))
            before_last i x l M (inr e) = (D.links c y L).none_between x l (lead_before D same e M)

            go : (y ≡ r) ⊎ ¬ (y ≡ r) → NextLead class (set next p p) (p + 1) c y (get_or (set link r p) y 0)
            go (inl e) = subst (NextLead class (set next p p) (p + 1) c y) (sym (at_last e)) (record {
              next_gt = λ g. L.state_lt;
              is_lead = λ g. subst (λ (k : ℕ). Lead class (set next p p) (p + 1) k p) (class_last e)
                  (new_lead D same here fresh);
              none_between = λ x l M. after_last e x l M (eq_or_not x p);
            })
            go (inr i) = subst (NextLead class (set next p p) (p + 1) c y) (sym (get_or-set_other link r y p 0 i))
                (record {
                  next_gt = (D.links c y L).next_gt;
                  is_lead = λ g. lead_stays D same ((D.links c y L).is_lead g);
                  none_between = λ x l M. before_last i x l M (eq_or_not x p);
                })

-- ---- whatever the classes are: each lead that was passed has another key

pub sought_first : {keys link : List ℕ} {p from : ℕ} → Sought keys link p from from
sought_first = record { sought = λ class next A. lead_sought_first A }

module _ {keys link : List ℕ} {p from r : ℕ} (S : Sought keys link p from r) where
  pub sought_next : ¬ (SameSet keys r p) → 0 < get_or link r 0 → Sought keys link p from (get_or link r 0)
  sought_next d g = record { sought = λ class next A. lead_sought_next A (S.sought class next A) d g }

  module _ (P : Dividing keys link p from) where
    at : LeadSought keys P.class P.next p from r
    at = S.sought P.class P.next P.state

    pub sought_lt : r < p
    sought_lt = at.lead.state_lt

    pub sought_gt : 0 < get_or link r 0 → r < get_or link r 0
    sought_gt = (P.state.divided.links from r at.lead).next_gt

  pub lead_found_follows : SameSet keys r p → LeadFound keys link link p from r
  lead_found_follows K = record { found = λ class next A l. lead_follows A (S.sought class next A) K l }

  pub lead_found_after : ¬ (SameSet keys r p) → get_or link r 0 ≡ 0 → r < length link
      → LeadFound keys link (set link r p) p from p
  lead_found_after d z lr = record { found = λ class next A l. lead_after A (S.sought class next A) d z lr l }

-- ---- a state that leads its class is divided, and for another the search can begin

module _ {n : ℕ} {keys class next link : List ℕ} {p : ℕ} (C : LeadClasses n class) (lp : p < n)
    (D : DividedUpTo keys class next link p) {from : ℕ} (told : from ≡ get_or next p 0) where
  class_is : get_or class p 0 ≡ from
  class_is = sym (told ∙ D.rest p (omega arith))

  pub divided_own : from ≡ p → DividedUpTo keys class next link (p + 1)
  divided_own e = divided_leads D (λ x d. refl) (sym told ∙ e) (λ x L. absurd (no_lead x L)) linked D.no_links
    where
      -- the leads below p are of other classes
      no_lead : (x : ℕ) → Lead class next p (get_or class p 0) x → ⊥
      no_lead x L = omega (arith, class_is, L.state_lt, L.class_is, C.lead_le x (omega (arith, L.state_lt)))

      linked : (c r : ℕ) → Lead class next p c r → NextLead class next (p + 1) c r (get_or link r 0)
      linked c r L = record {
        next_gt = (D.links c r L).next_gt;
        is_lead = λ g. lead_stays D (λ x d. refl) ((D.links c r L).is_lead g);
        none_between = λ x l M. go x l M (eq_or_not x p);
      }
        where
          go : (x : ℕ) → r < x → Lead class next (p + 1) c x → (x ≡ p) ⊎ ¬ (x ≡ p)
              → (0 < get_or link r 0) × (get_or link r 0 ≤ x)
          go x l M (inl i) = absurd (no_lead r (subst (λ (k : ℕ). Lead class next p k r)
              (subst (λ (y : ℕ). c ≡ get_or class y 0) i (sym M.class_is)) L))
          go x l M (inr i) = (D.links c r L).none_between x l (lead_before D (λ x d. refl) i M)

  pub at_state : ¬ (from ≡ p) → AtState keys class next link p from
  at_state d = record {
    divided = D;
    class_is = class_is;
    first = record { state_lt = below; own = omega (arith, D.lead_le from below, above); class_is = own };
    lowest = λ x L. omega (arith, L.class_is, C.lead_le x (omega (arith, L.state_lt)));
  }
    where
      below : from < p
      below = omega (arith, class_is, C.lead_le p lp, d)

      own : get_or class from 0 ≡ from
      own = subst (λ (c : ℕ). get_or class c 0 ≡ c) class_is (C.lead_own p lp)

      -- the lead of `from` is of its class, so it is not below it
      above : from ≤ get_or next from 0
      above =
          let L = D.lead from below in
          omega (arith, L.class_is, own, C.lead_le (get_or next from 0) (omega (arith, L.state_lt)))
