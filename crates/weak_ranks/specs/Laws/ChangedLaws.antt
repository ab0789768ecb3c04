-- The states whose class changes, listed one after another: those of the first m states. Assumes nothing.
use Rattle.std.specs.Prelude.{◌≡◌, refl, ◌⊎◌, List, ℕ, ◌+◌, ◌<◌, length, get_or, set}
use Rattle.std.proofs.Common.{sym, ◌∙◌, subst, inl, inr, arith, get_or-set_same, get_or-set_other}
use Rattle.lts.proofs.TestsLaws.{eq_or_not}
use Rattle.ranking.specs.Inner.ClassList.{Changed}

-- ---- a list with one state more

module _ (list : List ℕ) {count : ℕ} (p : ℕ) (ll : count < length list) where
  at_count : {i : ℕ} → i ≡ count → get_or (set list count p) i 0 ≡ p
  at_count e = subst (λ (x : ℕ). get_or (set list count p) x 0 ≡ p) (sym e) (get_or-set_same list count p 0 ll)

  before_count : {i : ℕ} → ¬ (i ≡ count) → get_or (set list count p) i 0 ≡ get_or list i 0
  before_count {i} d = get_or-set_other list count i p 0 d

  -- What holds of all listed states, and of p.
  listed_add : (Q : ℕ → Type 0) → Q p → ((i : ℕ) → i < count → Q (get_or list i 0)) → (i : ℕ) → i < count + 1
      → Q (get_or (set list count p) i 0)
  listed_add Q h each i l = go (eq_or_not i count)
    where
      go : (i ≡ count) ⊎ ¬ (i ≡ count) → Q (get_or (set list count p) i 0)
      go (inl e) = subst Q (sym (at_count e)) h
      go (inr d) = subst Q (sym (before_count d)) (each i (omega arith))

  listed_last : (i : ℕ) × (i < count + 1) × (get_or (set list count p) i 0 ≡ p)
  listed_last = (count, omega arith, at_count refl)

  listed_still : {q : ℕ} → (i : ℕ) × (i < count) × (get_or list i 0 ≡ q)
      → (i : ℕ) × (i < count + 1) × (get_or (set list count p) i 0 ≡ q)
  listed_still r = (r.0, omega (arith, r.1), before_count (λ e. absurd (omega (arith, r.1))) ∙ r.2)

  distinct_add : ((i : ℕ) → i < count → ¬ (get_or list i 0 ≡ p))
      → ((i j : ℕ) → i < count → j < count → get_or list i 0 ≡ get_or list j 0 → i ≡ j) → (i j : ℕ) → i < count + 1
      → j < count + 1 → get_or (set list count p) i 0 ≡ get_or (set list count p) j 0 → i ≡ j
  distinct_add other distinct i j li lj = go (eq_or_not i count) (eq_or_not j count)
    where
      go : (i ≡ count) ⊎ ¬ (i ≡ count) → (j ≡ count) ⊎ ¬ (j ≡ count)
          → get_or (set list count p) i 0 ≡ get_or (set list count p) j 0 → i ≡ j
      go (inl d) (inl e) h = d ∙ sym e
      go (inl d) (inr e) h = absurd (other j (omega arith) (sym (before_count e) ∙ sym h ∙ at_count d))
      go (inr d) (inl e) h = absurd (other i (omega arith) (sym (before_count d) ∙ h ∙ at_count e))
      go (inr d) (inr e) h = distinct i j (omega arith) (omega arith) (sym (before_count d) ∙ h ∙ before_count e)

-- ---- the states below m

module _ {class next : List ℕ} where
  pub changed_zero : {list : List ℕ} → Changed 0 class next list 0
  changed_zero = record {
    listed_lt = λ i l. absurd (omega arith);
    differs = λ i l. absurd (omega arith);
    complete = λ p l. absurd (omega arith);
    distinct = λ i j l. absurd (omega arith);
  }

  module _ {list : List ℕ} {count m : ℕ} (C : Changed m class next list count) where
    -- The class of m stays.
    pub changed_skip : get_or class m 0 ≡ get_or next m 0 → Changed (m + 1) class next list count
    changed_skip e = record {
      listed_lt = λ i l. omega (arith, C.listed_lt i l);
      differs = C.differs;
      complete = λ p l d. go p l d (eq_or_not p m);
      distinct = C.distinct;
    }
      where
        go : (p : ℕ) → p < m + 1 → ¬ (get_or class p 0 ≡ get_or next p 0) → (p ≡ m) ⊎ ¬ (p ≡ m)
            → (i : ℕ) × (i < count) × (get_or list i 0 ≡ p)
        go p l d (inl i) = absurd (d (subst (λ (x : ℕ). get_or class x 0 ≡ get_or next x 0) (sym i) e))
        go p l d (inr o) = C.complete p (omega arith) d

    -- The class of m changes, and m is listed.
    pub changed_more : ¬ (get_or class m 0 ≡ get_or next m 0) → count < length list
        → Changed (m + 1) class next (set list count m) (count + 1)
    changed_more d room = record {
      listed_lt = listed_add list m room (λ q. q < m + 1) (omega arith) (λ i l. omega (arith, C.listed_lt i l));
      differs = listed_add list m room (λ q. ¬ (get_or class q 0 ≡ get_or next q 0)) d C.differs;
      complete = λ p l e. go p l e (eq_or_not p m);
      distinct = distinct_add list m room (λ i l e. absurd (omega (arith, C.listed_lt i l, e))) C.distinct;
    }
      where
        go : (p : ℕ) → p < m + 1 → ¬ (get_or class p 0 ≡ get_or next p 0) → (p ≡ m) ⊎ ¬ (p ≡ m)
            → (i : ℕ) × (i < count + 1) × (get_or (set list count m) i 0 ≡ p)
        go p l e (inl i) =
            subst (λ (x : ℕ). (i : ℕ) × (i < count + 1) × (get_or (set list count m) i 0 ≡ x)) (sym i)
            (listed_last list m room)
        go p l e (inr o) = listed_still list m room (C.complete p (omega arith) e)
