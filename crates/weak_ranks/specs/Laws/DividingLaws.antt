-- One state more is divided: it follows a lead with its key, or becomes the last lead of its class. Assumes nothing.
use Rattle.std.specs.Prelude.{◌≡◌, refl, ◌⊎◌, List, ℕ, ◌+◌, ◌≤◌, ◌<◌, get_or}
use Rattle.std.proofs.Common.{sym, ◌∙◌, subst, inl, inr, arith}
use Rattle.lts.proofs.TestsLaws.{eq_or_not}
use Rattle.sets.specs.Inner.Sets.{SameSet}
use Rattle.sets.specs.Laws.SetsLaws.{same_set_refl, same_set_sym, same_set_trans}
use Rattle.weak_ranks.specs.Inner.Dividing.{LeadClasses, DividedBy, Lead, NextLead, DividedUpTo}

-- ---- one state more

module _ {keys class next link : List ℕ} {p : ℕ} (D : DividedUpTo keys class next link p) {next' : List ℕ}
    (same : (x : ℕ) → ¬ (x ≡ p) → get_or next' x 0 ≡ get_or next x 0) where
  pub lead_stays : {c r : ℕ} → Lead class next p c r → Lead class next' (p + 1) c r
  lead_stays {c} {r} L = record {
    state_lt = omega (arith, L.state_lt);
    own = same r (λ e. absurd (omega (arith, L.state_lt))) ∙ L.own;
    class_is = L.class_is;
  }

  pub lead_before : {c r : ℕ} → ¬ (r ≡ p) → Lead class next' (p + 1) c r → Lead class next p c r
  lead_before {c} {r} d L = record {
    state_lt = omega (arith, L.state_lt, d);
    own = sym (same r d) ∙ L.own;
    class_is = L.class_is;
  }

  -- The lead of p is r.
  module _ {r : ℕ} (here : get_or next' p 0 ≡ r) (le : r ≤ p) (L : Lead class next' (p + 1) (get_or class p 0) r)
      (K : SameSet keys r p) where
    lead_le_more : (x : ℕ) → x < p + 1 → (x ≡ p) ⊎ ¬ (x ≡ p) → get_or next' x 0 ≤ x
    lead_le_more x l (inl e) = subst (λ (y : ℕ). get_or next' y 0 ≤ y) (sym e) (omega (arith, here, le))
    lead_le_more x l (inr d) = omega (arith, same x d, D.lead_le x (omega arith))

    lead_more : (x : ℕ) → x < p + 1 → (x ≡ p) ⊎ ¬ (x ≡ p)
        → Lead class next' (p + 1) (get_or class x 0) (get_or next' x 0)
    lead_more x l (inl e) = subst (λ (y : ℕ). Lead class next' (p + 1) (get_or class y 0) (get_or next' y 0)) (sym e)
        (subst (Lead class next' (p + 1) (get_or class p 0)) (sym here) L)
    lead_more x l (inr d) = subst (Lead class next' (p + 1) (get_or class x 0)) (sym (same x d))
        (lead_stays (D.lead x (omega arith)))

    lead_keys_more : (x : ℕ) → x < p + 1 → (x ≡ p) ⊎ ¬ (x ≡ p) → SameSet keys (get_or next' x 0) x
    lead_keys_more x l (inl e) = subst (λ (y : ℕ). SameSet keys (get_or next' y 0) y) (sym e)
        (subst (λ (y : ℕ). SameSet keys y p) (sym here) K)
    lead_keys_more x l (inr d) = subst (λ (y : ℕ). SameSet keys y x) (sym (same x d)) (D.lead_keys x (omega arith))

  -- p follows a lead with its key.
  module _ {r : ℕ} (here : get_or next' p 0 ≡ r) (L : Lead class next p (get_or class p 0) r)
      (K : SameSet keys r p) where
    not_lead : {c x : ℕ} → Lead class next' (p + 1) c x → ¬ (x ≡ p)
    not_lead {c} {x} M e =
        let o : get_or next' p 0 ≡ p = subst (λ (y : ℕ). get_or next' y 0 ≡ y) e M.own in
        absurd (omega (arith, o, here, L.state_lt))

    next_lead_stays : {c x s : ℕ} → NextLead class next p c x s → NextLead class next' (p + 1) c x s
    next_lead_stays N = record {
      next_gt = N.next_gt;
      is_lead = λ z. lead_stays (N.is_lead z);
      none_between = λ y l M. N.none_between y l (lead_before (not_lead M) M);
    }

    pub divided_follows : DividedUpTo keys class next' link (p + 1)
    divided_follows =
        let le : r ≤ p = omega (arith, L.state_lt) in
        record {
          lead_le = λ x l. lead_le_more here le (lead_stays L) K x l (eq_or_not x p);
          lead = λ x l. lead_more here le (lead_stays L) K x l (eq_or_not x p);
          lead_keys = λ x l. lead_keys_more here le (lead_stays L) K x l (eq_or_not x p);
          apart = λ c x y M N. D.apart c x y (lead_before (not_lead M) M) (lead_before (not_lead N) N);
          links = λ c x M. next_lead_stays (D.links c x (lead_before (not_lead M) M));
          rest = λ x l. same x (λ e. absurd (omega arith)) ∙ D.rest x (omega arith);
          no_links = λ x l. D.no_links x (omega arith);
        }

  -- p becomes a lead, since no lead of its class has its key.
  module _ (here : get_or next' p 0 ≡ p) (fresh : (x : ℕ) → Lead class next p (get_or class p 0) x → ¬
      (SameSet keys x p))
    where
      pub new_lead : Lead class next' (p + 1) (get_or class p 0) p
      new_lead = record { state_lt = omega arith; own = here; class_is = refl }

      pub divided_leads : {link' : List ℕ}
          → ((c r : ℕ) → Lead class next p c r → NextLead class next' (p + 1) c r (get_or link' r 0))
          → ((x : ℕ) → p ≤ x → get_or link' x 0 ≡ 0) → DividedUpTo keys class next' link' (p + 1)
      divided_leads {link'} linked none =
          let le : p ≤ p = omega arith in
          record {
            lead_le = λ x l. lead_le_more here le new_lead same_set_refl x l (eq_or_not x p);
            lead = λ x l. lead_more here le new_lead same_set_refl x l (eq_or_not x p);
            lead_keys = λ x l. lead_keys_more here le new_lead same_set_refl x l (eq_or_not x p);
            apart = λ c x y M N. apart c x y M N (eq_or_not x p) (eq_or_not y p);
            links = λ c x M. links c x M (eq_or_not x p);
            rest = λ x l. same x (λ e. absurd (omega arith)) ∙ D.rest x (omega arith);
            no_links = λ x l. none x (omega arith);
          }
        where
          -- another lead of the class of p
          other : {c x y : ℕ} → Lead class next' (p + 1) c x → x ≡ p → Lead class next' (p + 1) c y → ¬ (y ≡ p)
              → ¬ (SameSet keys y p)
          other {c} {x} {y} M e N d =
              let i : c ≡ get_or class p 0 = subst (λ (z : ℕ). c ≡ get_or class z 0) e (sym M.class_is) in
              fresh y (subst (λ (z : ℕ). Lead class next p z y) i (lead_before d N))

          apart : (c x y : ℕ) → Lead class next' (p + 1) c x → Lead class next' (p + 1) c y → (x ≡ p) ⊎ ¬ (x ≡ p)
              → (y ≡ p) ⊎ ¬ (y ≡ p) → SameSet keys x y → x ≡ y
          apart c x y M N (inl d) (inl e) s = d ∙ sym e
          apart c x y M N (inl d) (inr e) s =
              absurd (other M d N e (same_set_sym (subst (λ (z : ℕ). SameSet keys z y) d s)))
          apart c x y M N (inr d) (inl e) s = absurd (other N e M d (subst (λ (z : ℕ). SameSet keys x z) e s))
          apart c x y M N (inr d) (inr e) s = D.apart c x y (lead_before d M) (lead_before e N) s

          links : (c x : ℕ) → Lead class next' (p + 1) c x → (x ≡ p) ⊎ ¬ (x ≡ p)
              → NextLead class next' (p + 1) c x (get_or link' x 0)
          links c x M (inl e) =
              let z : get_or link' x 0 ≡ 0 = none x (omega arith) in
              record {
                next_gt = λ g. absurd (omega arith);
                is_lead = λ g. absurd (omega arith);
                none_between = λ y l N. absurd (omega (arith, N.state_lt));
              }
          links c x M (inr d) = linked c x (lead_before d M)

-- ---- no state, and all of them

pub divided-zero : {keys class link : List ℕ} → ((x : ℕ) → get_or link x 0 ≡ 0) → DividedUpTo keys class class link 0
divided-zero z = record {
  lead_le = λ x l. absurd (omega arith);
  lead = λ x l. absurd (omega arith);
  lead_keys = λ x l. absurd (omega arith);
  apart = λ c r s L. absurd (omega (arith, L.state_lt));
  links = λ c r L. absurd (omega (arith, L.state_lt));
  rest = λ x l. refl;
  no_links = λ x l. z x;
}

module _ {keys class next link : List ℕ} {n : ℕ} (D : DividedUpTo keys class next link n) where
  pub divided_lead_classes : LeadClasses n next
  divided_lead_classes = record { lead_le = D.lead_le; lead_own = λ p l. (D.lead p l).own }

  pub divided_by : DividedBy n keys class next
  divided_by = record {
    same_before = λ p q lp lq e.
        sym (D.lead p lp).class_is ∙ (λ x. get_or class (e x) 0) ∙ (D.lead q lq).class_is;
    same_keys = λ p q lp lq e. same_set_trans (same_set_sym (D.lead_keys p lp))
        (subst (λ (x : ℕ). SameSet keys x q) (sym e) (D.lead_keys q lq));
    stay = λ p q lp lq s k. D.apart (get_or class q 0) (get_or next p 0) (get_or next q 0)
        (subst (λ (c : ℕ). Lead class next n c (get_or next p 0)) s (D.lead p lp)) (D.lead q lq)
        (same_set_trans (D.lead_keys p lp) (same_set_trans k (same_set_sym (D.lead_keys q lq))));
  }
