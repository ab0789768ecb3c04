-- The splitting tree after one more round: its new classes were divided off old ones, their homes. Classes of one home
-- were separated by this round, and others when their homes were. Assumes nothing.
use Rattle.std.specs.Prelude.{List, ◌⊎◌, ◌≡◌, refl, ℕ, ◌+◌, ◌≤◌, ◌<◌, eqb, get_or}
use Rattle.std.proofs.Common.{inl, inr, ⊎_elim, sym, ap, ◌∙◌, arith, eq-eqb, ne_eqb}
use Rattle.lts.proofs.TestsLaws.{eq_or_not, lt_or_le}
use Rattle.by_state.specs.Inner.Numbered.{Same}
use Rattle.held.specs.Held.{chosen}
use Rattle.ranking.specs.Inner.TableWrites.{SeparatedBy, RoundWritten}
use Rattle.tree.specs.Inner.Rows.{RoundNoted}
use Rattle.tree.specs.Inner.Tree.{Tree, Apart}
use Rattle.splitters.specs.Inner.Partition.{home}
use Rattle.splitters.specs.Inner.Splitters.{apart_of, Grown}
use Rattle.splitters.specs.Laws.HomeLaws.{home_lt, home_le}

-- apart' gives the round that separated two classes, after one that began with `old` classes.
pub record ApartAfter (old : ℕ) (origin' : List ℕ) (round : ℕ) (apart apart' : ℕ → ℕ → ℕ) : Type 0 where
  pub same : {c d : ℕ} → c ≡ d → apart' c d ≡ 0
  pub now : {c d : ℕ} → home old origin' c ≡ home old origin' d → ¬ (c ≡ d) → apart' c d ≡ round
  pub before : {c d : ℕ} → ¬ (home old origin' c ≡ home old origin' d)
      → apart' c d ≡ apart (home old origin' c) (home old origin' d)

pub apart_after : ℕ → List ℕ → ℕ → (ℕ → ℕ → ℕ) → ℕ → ℕ → ℕ
apart_after old origin' round apart c d =
    chosen (eqb (home old origin' c) (home old origin' d)) (chosen (eqb c d) 0 round)
    (apart (home old origin' c) (home old origin' d))

pub apart_after_is : (old : ℕ) (origin' : List ℕ) (round : ℕ) (apart : ℕ → ℕ → ℕ)
    → ApartAfter old origin' round apart (apart_after old origin' round apart)
unfolding apart_after
apart_after_is old origin' round apart = record {
  same = λ {c} {d} e. together c d (ap at e) ∙ ap (λ b. chosen b 0 round) (eq-eqb c d e);
  now = λ {c} {d} e f. together c d e ∙ ap (λ b. chosen b 0 round) (ne_eqb c d f);
  before = λ {c} {d} f.
      ap (λ b. chosen b (chosen (eqb c d) 0 round) (apart (at c) (at d))) (ne_eqb (at c) (at d) f);
}
  where
    at : ℕ → ℕ
    at = home old origin'

    together : (c d : ℕ) → home old origin' c ≡ home old origin' d
        → apart_after old origin' round apart c d ≡ chosen (eqb c d) 0 round
    together c d e =
        ap (λ b. chosen b (chosen (eqb c d) 0 round) (apart (at c) (at d))) (eq-eqb (at c) (at d) e)

-- ---- the tree, one round later

pub tree_after : {n k first old classes : ℕ} {class origin under when origin' when' : List ℕ}
    → Grown n k first old class origin under when
    → ((c : ℕ) → c < old → get_or origin' c 0 ≡ get_or origin c 0)
    → ((c : ℕ) → old ≤ c → c < classes → get_or origin' c 0 < old) → RoundNoted old classes (k + 1) when when'
    → Tree classes origin' when'
tree_after {old = old} {classes} {when' = when'} G origin_kept origin_lt N = record {
  origin_lt = λ c p l.
      ⊎_elim
      (λ m. omega (arith, origin_kept c m, G.tree.origin_lt c p m))
      (λ m. omega (arith, origin_lt c m l, m))
      (lt_or_le c old);
  when_pos = λ c p l.
      ⊎_elim
      (λ m. omega (arith, N.kept c (inl m), G.tree.when_pos c p m))
      (λ m. omega (arith, N.noted c m l))
      (lt_or_le c old);
  when_le = λ c d p b l. later c d p b l (lt_or_le c old) (lt_or_le d old);
}
  where
    later : (c d : ℕ) → 0 < c → c ≤ d → d < classes → (c < old) ⊎ (old ≤ c) → (d < old) ⊎ (old ≤ d)
        → get_or when' c 0 ≤ get_or when' d 0
    later c d p b l (inl m) (inl e) =
        omega (arith, N.kept c (inl m), N.kept d (inl e), G.tree.when_le c d p b e)
    later c d p b l (inl m) (inr e) = omega (arith, N.kept c (inl m), N.noted d e l, G.when_le c p m)
    later c d p b l (inr m) _ =
        omega (arith, N.noted c m (omega (arith, b, l)), N.noted d (omega (arith, m, b)) l)

module _ {old round : ℕ} {origin' : List ℕ} {apart apart' : ℕ → ℕ → ℕ}
    (B : ApartAfter old origin' round apart apart') where
  abbrev home' : ℕ → ℕ
  home' = home old origin'

  -- Classes of one home were separated from another class together.
  after_home : {c d e : ℕ} → home' d ≡ home' e → ¬ (c ≡ d) → ¬ (c ≡ e) → apart' c d ≡ apart' c e
  after_home {c} {d} {e} h f g =
      ⊎_elim
      (λ x. B.now x f ∙ sym (B.now (x ∙ h) g))
      (λ x. B.before x ∙ ap (apart (home' c)) h ∙ sym (B.before (λ y. x (y ∙ sym h))))
      (eq_or_not (home' c) (home' d))

  after_old : {c d : ℕ} → c < old → d < old → ¬ (c ≡ d) → apart' c d ≡ apart c d
  after_old {c} {d} l k f =
      let e = home_lt origin' l in
      let g = home_lt origin' k in
      B.before (λ x. f (sym e ∙ x ∙ g)) ∙ (λ i. apart (e i) (g i))

  module _ {classes : ℕ} {origin when when' : List ℕ} (T : Tree old origin when) (A : Apart old origin when apart)
      (origin_kept : (c : ℕ) → c < old → get_or origin' c 0 ≡ get_or origin c 0)
      (origin_lt : (c : ℕ) → old ≤ c → c < classes → get_or origin' c 0 < old)
      (N : RoundNoted old classes round when when') where
    home_old : (c : ℕ) → c < classes → home' c < old
    home_old c l =
        ⊎_elim
        (λ m. omega (arith, home_lt origin' m, m))
        (λ m. omega (arith, home_le origin' m, origin_lt c m l))
        (lt_or_le c old)

    pub apart_after_holds : Apart classes origin' when' apart'
    apart_after_holds = record {
      same = λ c l. B.same refl;
      both_ways = λ c d l k. both_ways c d l k (eq_or_not (home' c) (home' d)) (eq_or_not c d);
      off = λ c p l. off c p l (lt_or_le c old);
      with_origin = λ c d b l f. with_origin c d b l f (lt_or_le d old);
    }
      where
        both_ways : (c d : ℕ) → c < classes → d < classes → (home' c ≡ home' d) ⊎ ¬ (home' c ≡ home' d)
            → (c ≡ d) ⊎ ¬ (c ≡ d) → apart' c d ≡ apart' d c
        both_ways c d l k _ (inl e) = B.same e ∙ sym (B.same (sym e))
        both_ways c d l k (inl e) (inr f) = B.now e f ∙ sym (B.now (sym e) (λ g. f (sym g)))
        both_ways c d l k (inr e) (inr f) =
            B.before e ∙ A.both_ways (home' c) (home' d) (home_old c l) (home_old d k)
            ∙ sym (B.before (λ g. e (sym g)))

        off : (c : ℕ) → 0 < c → c < classes → (c < old) ⊎ (old ≤ c) → apart' c (get_or origin' c 0) ≡ get_or when' c 0
        off c p l (inl m) =
            let e = origin_kept c m in
            let o = T.origin_lt c p m in
            after_old m (omega (arith, e, o, m)) (λ g. omega (arith, g, e, o)) ∙ ap (apart c) e ∙ A.off c p m
            ∙ sym (N.kept c (inl m))
        off c p l (inr m) =
            let o = origin_lt c m l in
            B.now (home_le origin' m ∙ sym (home_lt origin' o)) (λ g. omega (arith, g, o, m)) ∙ sym (N.noted c m l)

        with_origin : (c d : ℕ) → c < d → d < classes → ¬ (c ≡ get_or origin' d 0) → (d < old) ⊎ (old ≤ d)
            → apart' c d ≡ apart' c (get_or origin' d 0)
        with_origin c d b l f (inl m) =
            let e = origin_kept d m in
            let o = T.origin_lt d (omega arith) m in
            after_old (omega arith) m (λ g. omega (arith, g, b)) ∙ A.with_origin c d b m (λ g. f (g ∙ sym e))
            ∙ ap (apart c) (sym e) ∙ sym (after_old (omega arith) (omega (arith, e, o, m)) f)
        with_origin c d b l f (inr m) =
            after_home (home_le origin' m ∙ sym (home_lt origin' (origin_lt d m l))) (λ g. omega (arith, g, b)) f

  -- States that it separates have its number, and others what they had.
  pub round_written_after : {n : ℕ} {origin when class next : List ℕ} → Apart old origin when apart
      → ((p : ℕ) → p < n → get_or class p 0 < old)
      → ((p : ℕ) → p < n → home' (get_or next p 0) ≡ get_or class p 0)
      → RoundWritten n class next round (apart_of apart class) (apart_of apart' next)
  round_written_after {n} {class = class} {next} A class_lt before = record {
    written = λ p q lp lq s. B.now (before p lp ∙ s.same_before ∙ sym (before q lq)) s.not_same_after;
    kept = λ p q lp lq d.
        kept p q lp lq d (eq_or_not (get_or class p 0) (get_or class q 0))
        (eq_or_not (get_or next p 0) (get_or next q 0));
  }
    where
      kept : (p q : ℕ) → p < n → q < n → ¬ (SeparatedBy class next p q) → Same class p q ⊎ ¬ (Same class p q)
          → Same next p q ⊎ ¬ (Same next p q)
          → apart_of apart' next p q ≡ apart_of apart class p q
      kept p q lp lq d (inl e) (inl f) =
          B.same f ∙ sym (ap (apart (get_or class p 0)) (sym e) ∙ A.same (get_or class p 0) (class_lt p lp))
      kept p q lp lq d (inl e) (inr f) = absurd (d (record { same_before = e; not_same_after = f }))
      kept p q lp lq d (inr e) _ =
          B.before (λ x. e (sym (before p lp) ∙ x ∙ before q lq))
          ∙ (λ i. apart (before p lp i) (before q lq i))
