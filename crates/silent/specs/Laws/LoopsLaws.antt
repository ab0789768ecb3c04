-- The loops that make sets along steps: one turn more, and what they have made at their end. Those of a pass stand in
-- PassLaws. Assumes nothing.
use Rattle.std.specs.Prelude.{◌≡◌, refl, ◌⊎◌, List, ℕ, ◌+◌, ◌≤◌, ◌<◌, get_or}
use Rattle.std.proofs.Common.{sym, subst, inl, inr, arith}
use Rattle.lts.proofs.TestsLaws.{eq_or_not}
use Rattle.lts.specs.Alike.{Relation}
use Rattle.lts.specs.Weak.{stay}
use Rattle.lts.proofs.WeakLaws.{silent_source_lt, silent_lt, silent_trans}
use Rattle.text.specs.Limits.{state_limit}
use Rattle.sets.specs.Inner.Sets.{Member, Empty, Joined}
use Rattle.silent.specs.Labelled.{LabelStep}
use Rattle.silent.specs.Inner.Keys.{OfStates, OwnClasses, Gathered}
use Rattle.silent.specs.Inner.Loops.{AlongSilent, GatheredTo}

-- ---- the own classes

pub own_classes_none : {class sets : List ℕ} → Empty sets → OwnClasses 0 class sets
own_classes_none e = record { own = λ p l. absurd (omega arith); only = λ p x m. absurd (e.none p x m) }

pub own_classes-suc : {k : ℕ} {class entry exit : List ℕ} → OwnClasses k class entry
    → Joined k (λ y. y ≡ get_or class k 0) entry exit → OwnClasses (k + 1) class exit
own_classes-suc {k} {class} {entry} {exit} h j = record {
  own = λ p l. own p l (eq_or_not p k);
  only = λ p x m. only p x (j.only p x m);
}
  where
    own : (p : ℕ) → p < k + 1 → (p ≡ k) ⊎ ¬ (p ≡ k) → Member exit p (get_or class p 0)
    own p l (inl e) = subst (λ (x : ℕ). Member exit x (get_or class x 0)) (sym e) (j.joined (get_or class k 0) refl)
    own p l (inr d) = j.kept p (get_or class p 0) (h.own p (omega arith))

    only : (p x : ℕ) → Member entry p x ⊎ ((p ≡ k) × (x ≡ get_or class k 0)) → (p < k + 1) × (get_or class p 0 ≡ x)
    only p x (inl m) = let r = h.only p x m in (omega (arith, r.0), r.1)
    only p x (inr (e, f)) = (omega arith, subst (λ (y : ℕ). get_or class y 0 ≡ x) (sym e) (sym f))

-- ---- gathering

pub gathered_to_none : {from sources targets sets gathered : List ℕ} (a : ℕ) → Empty gathered
    → GatheredTo from sources targets a (get_or from a 0) sets gathered
gathered_to_none a e = record { reached = λ j x l k m. absurd (omega arith); only = λ p x m. absurd (e.none p x m) }

pub gathered_to-suc : {from sources targets sets entry exit : List ℕ} {a i : ℕ} → get_or from a 0 ≤ i
    → i < get_or from (a + 1) 0 → GatheredTo from sources targets a i sets entry
    → Joined (get_or sources i 0) (Member sets (get_or targets i 0)) entry exit
    → GatheredTo from sources targets a (i + 1) sets exit
gathered_to-suc {from} {sources} {targets} {sets} {entry} {exit} {a} {i} lo hi g j = record {
  reached = λ k x l u m. reached k x l u m (eq_or_not k i);
  only = λ p x m. only p x (j.only p x m);
}
  where
    reached : (k x : ℕ) → get_or from a 0 ≤ k → k < i + 1 → Member sets (get_or targets k 0) x → (k ≡ i) ⊎ ¬ (k ≡ i)
        → Member exit (get_or sources k 0) x
    reached k x l u m (inl e) = subst (λ (y : ℕ). Member exit (get_or sources y 0) x) (sym e)
        (j.joined x (subst (λ (y : ℕ). Member sets (get_or targets y 0) x) e m))
    reached k x l u m (inr d) = j.kept (get_or sources k 0) x (g.reached k x l (omega arith) m)

    only : (p x : ℕ) → Member entry p x ⊎ ((p ≡ get_or sources i 0) × Member sets (get_or targets i 0) x)
        → (q : ℕ) × LabelStep from sources targets a p q × Member sets q x
    only p x (inl m) = g.only p x m
    only p x (inr (e, m)) = (
      get_or targets i 0,
      record { place = i; from_le = lo; place_lt = hi; source_is = sym e; target_is = refl },
      m,
    )

pub gathered_to→Gathered : {from sources targets sets gathered : List ℕ} {a : ℕ}
    → GatheredTo from sources targets a (get_or from (a + 1) 0) sets gathered
    → Gathered (LabelStep from sources targets a) sets gathered
gathered_to→Gathered {from} {sources} {targets} {sets} {gathered} {a} g = record {
  reached = λ p q x s m. subst (λ (y : ℕ). Member gathered y x) s.source_is
      (g.reached s.place x s.from_le s.place_lt
      (subst (λ (y : ℕ). Member sets y x) (sym s.target_is) m));
  only = λ p x l m. g.only p x m;
}

-- ---- along silent moves

module _ {Tick : Relation} {n : ℕ} where
  pub along_silent_refl : {sets : List ℕ} → OfStates n sets → AlongSilent Tick n sets sets
  along_silent_refl o = record { only = λ p x l m. (p, stay (o.state_lt p x l m), m) }

  pub along_silent_trans : {entry middle exit : List ℕ} → n ≤ state_limit → AlongSilent Tick n entry middle
      → AlongSilent Tick n middle exit → AlongSilent Tick n entry exit
  along_silent_trans c f g = record {
    only = λ p x l m.
        let r = g.only p x l m in
        let r' = f.only r.0 x (omega (arith, silent_lt r.1, c)) r.2 in
        (r'.0, silent_trans r.1 r'.1, r'.2);
  }

  pub along_silent→OfStates : {entry exit : List ℕ} → ((p q : ℕ) → Tick p q → p < n) → AlongSilent Tick n entry exit
      → OfStates n exit
  along_silent→OfStates f s = record { state_lt = λ p x l m. silent_source_lt f (s.only p x l m).1 }
