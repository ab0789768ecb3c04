-- The states under each class: those of a new class are its own, since nothing was divided off it yet; and where a
-- class is divided, its states stay under all that it was under. Assumes nothing.
use Rattle.std.specs.Prelude.{List, ◌≡◌, ℕ, ◌≤◌, ◌<◌, get_or}
use Rattle.std.proofs.Common.{⊎_elim, sym, ◌∙◌, subst, arith}
use Rattle.lts.proofs.TestsLaws.{lt_or_le}
use Rattle.sets.specs.Inner.Sets.{Member}
use Rattle.sets.specs.declared.set.Set.{Set}
use Rattle.tree.specs.Inner.Tree.{Under, same, off, UnderSets}
use Rattle.tree.specs.Laws.TreeLaws.{under_le}
use Rattle.splitters.specs.Inner.Partition.{Partition, home}
use Rattle.splitters.specs.Inner.Splitters.{Fresh, SetsKept, Grown}
use Rattle.splitters.specs.Laws.HomeLaws.{home_lt, home_le}

-- ---- the sets of the new classes are noted

pub under_sets_noted : {n k first classes : ℕ} {class members origin when under under' rest : List ℕ} {together : Set}
    → Grown n k first classes class origin under when → first ≤ classes → Partition n class members classes together
    → Fresh first classes members origin under' rest → SetsKept first under under'
    → UnderSets n classes class origin under'
under_sets_noted {first = first} {classes} {members = members} {origin} G le P F K = record {
  all = λ c p pos l lp u.
      ⊎_elim
      (λ m. K.kept c p m (G.under.all c p pos m lp u))
      (λ m.
      F.new_sets.all c p m l (subst (λ (d : ℕ). Member members d p) (own c m (P.class_lt p lp) u) (P.member p lp)))
      (lt_or_le c first);
  only = λ c p pos l m.
      ⊎_elim
      (λ b. G.under.only c p pos b (K.only c p b m))
      (λ b. let h = P.member_only c p l (F.new_sets.only c p b l m) in (h.0, same h.1))
      (lt_or_le c first);
}
  where
    own : (c : ℕ) {x : ℕ} → first ≤ c → x < classes → Under origin c x → x ≡ c
    own c m l (same e) = e
    own c {x} m l (off pos u) =
        let o = G.origin_old x pos l in
        absurd (omega (arith, m, o, under_le G.tree (omega (arith, o, le)) u))

-- ---- classes are divided

module _ {old classes : ℕ} {origin origin' : List ℕ} (le : old ≤ classes)
    (origin_kept : (c : ℕ) → c < old → get_or origin' c 0 ≡ get_or origin c 0)
    (origin_old : (c : ℕ) → 0 < c → c < classes → get_or origin' c 0 < old) where
  -- A class is under an old one only if its home was,
  under_before : {c x : ℕ} → c < old → x < classes → Under origin' c x → Under origin c (home old origin' x)
  under_before l k (same e) = same (home_lt {old = old} origin' (omega (arith, e, l)) ∙ e)
  under_before {c} {x} l k (off pos u) =
      let o = origin_old x pos k in
      let v = subst (Under origin c) (home_lt origin' o) (under_before l (omega (arith, o, le)) u) in
      ⊎_elim
      (λ m.
      subst (Under origin c) (sym (home_lt origin' m)) (off pos (subst (Under origin c) (origin_kept x m) v)))
      (λ m. subst (Under origin c) (sym (home_le origin' m)) v)
      (lt_or_le x old)

  under_old : {c x : ℕ} → x < old → Under origin c x → Under origin' c x
  under_old l (same e) = same e
  under_old {c} {x} l (off pos u) =
      let e = origin_kept x l in
      let o = origin_old x pos (omega (arith, l, le)) in
      off pos (subst (Under origin' c) (sym e) (under_old (omega (arith, e, o)) u))

  -- and then it is.
  under_after : {c x : ℕ} → c < old → x < classes → Under origin c (home old origin' x) → Under origin' c x
  under_after {c} {x} l k u =
      ⊎_elim
      (λ m. under_old m (subst (Under origin c) (home_lt origin' m) u))
      (λ m.
      let pos : 0 < x = omega (arith, l, m) in
      off pos (under_old (origin_old x pos k) (subst (Under origin c) (home_le origin' m) u)))
      (lt_or_le x old)

  pub under_sets_divided : {n : ℕ} {class next under : List ℕ} → ((p : ℕ) → p < n → get_or next p 0 < classes)
      → ((p : ℕ) → p < n → home old origin' (get_or next p 0) ≡ get_or class p 0) → UnderSets n old class origin under
      → UnderSets n old next origin' under
  under_sets_divided next_lt before U = record {
    all = λ c p pos l lp u.
        U.all c p pos l lp (subst (Under origin c) (before p lp) (under_before l (next_lt p lp) u));
    only = λ c p pos l m.
        let h = U.only c p pos l m in
        (h.0, under_after l (next_lt p h.0) (subst (Under origin c) (sym (before p h.0)) h.1));
  }
