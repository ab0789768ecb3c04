-- Splits by the moves to the new classes, and to those that they were divided off, make the classes one round later:
-- moves to all other classes are answered already. So it is again, with the classes that the round made.
-- Document 01, operation 3. Assumes nothing.
use Rattle.std.specs.Prelude.{◌≡◌, refl, ◌⊎◌, List, ℕ, ◌≤◌, ◌<◌, get_or}
use Rattle.std.proofs.Common.{sym, ◌∙◌, subst, inl, inr, arith}
use Rattle.lts.specs.Alike.{Moves, Answered}
use Rattle.lts.proofs.TestsLaws.{lt_or_le}
use Rattle.by_state.specs.Inner.Numbered.{Same}
use Rattle.sets.specs.Inner.Sets.{Member}
use Rattle.sets.specs.declared.set.Set.{Set}
use Rattle.held.specs.Held.{target_row, HeldAt, HeldList, HeldMove}
use Rattle.held.specs.Laws.HeldLaws.{held_move_target_lt}
use Rattle.ranking.specs.Inner.ClassList.{Refined}
use Rattle.splitters.specs.Inner.Partition.{Partition, home, HomesKept}
use Rattle.splitters.specs.Inner.Splitters.{Stable, Fresh}
use Rattle.splitters.specs.Inner.MoveSplits.{IntoSet, SameMoves, SplitUnder, UsedLabels}
use Rattle.splitters.specs.Laws.HomeLaws.{home_lt, home_le, home_before}

-- ---- one round

module _ {n : ℕ} {labels : List ℕ} {count : ℕ} {slots pool : List ℕ} (L : HeldList n labels count slots pool)
    {first classes : ℕ} {class members origin fresh rest next : List ℕ} {together : Set}
    (P : Partition n class members classes together)
    (S : Stable (HeldMove labels count slots pool) n first class origin)
    (origin_lt : (j : ℕ) → first ≤ j → j < classes → get_or origin j 0 < classes)
    (F : Fresh first classes members origin fresh rest)
    (U : SplitUnder n slots pool (UsedLabels first classes labels count) fresh rest class next) where
  abbrev Move : Moves
  Move = HeldMove labels count slots pool

  abbrev Into : List ℕ → ℕ → ℕ → ℕ → Type 0
  Into sets a j p = IntoSet slots pool (target_row a) sets j p

  -- A target that is held is that of a move, if there is any move with the label.
  move_of_held : {p q a t u : ℕ} → q < n → Move p a t → HeldAt slots pool (target_row a) q u → Move q a u
  move_of_held {q = q} lq m h = record {
    source_lt = omega (arith, lq, L.states_le);
    number = m.number;
    number_lt = m.number_lt;
    label_is = m.label_is;
    held = h;
  }

  class_of_fresh : {j t : ℕ} → first ≤ j → j < classes → Member fresh j t → get_or class t 0 ≡ j
  class_of_fresh {j} {t} l k m = (P.member_only j t k (F.new_sets.only j t l k m)).1

  class_of_rest : {j t : ℕ} → first ≤ j → j < classes → Member rest j t → get_or class t 0 ≡ get_or origin j 0
  class_of_rest {j} {t} l k m = (P.member_only (get_or origin j 0) t (origin_lt j l k) (F.rest_sets.only j t l k m)).1

  fresh_of_class : {j t : ℕ} → first ≤ j → j < classes → t < n → get_or class t 0 ≡ j → Member fresh j t
  fresh_of_class {j} {t} l k lt e =
      F.new_sets.all j t l k (subst (λ (c : ℕ). Member members c t) e (P.member t lt))

  rest_of_class : {j t : ℕ} → first ≤ j → j < classes → t < n → get_or class t 0 ≡ get_or origin j 0 → Member rest j t
  rest_of_class {j} {t} l k lt e =
      F.rest_sets.all j t l k (subst (λ (c : ℕ). Member members c t) e (P.member t lt))

  answered : (p q : ℕ) → p < n → q < n → Same next p q → Answered Move (Same class) p q
  answered p q lp lq e a t m = go (lt_or_le (get_or class t 0) first)
    where
      lt : t < n
      lt = held_move_target_lt L m

      -- The label is one of the list.
      used : (j : ℕ) → first ≤ j → j < classes → UsedLabels first classes labels count j a
      used j l k = (l, k, (m.number, m.number_lt, m.label_is))

      to_fresh : (j : ℕ) → first ≤ j → j < classes → get_or class t 0 ≡ j → (u : ℕ) × Move q a u × Same class t u
      to_fresh j l k f =
          let x = U.one j a p q (used j l k) lp lq e (t, m.held, fresh_of_class l k lt f) in
          (x.0, move_of_held lq m x.1, f ∙ sym (class_of_fresh l k x.2))

      -- The states of its class have moves to the part that kept the number or to a new one.
      to_rest : (j : ℕ) → first ≤ j → j < classes → Into fresh a j q → get_or origin j 0 ≡ get_or class t 0
          → (u : ℕ) × Move q a u × Same class t u
      to_rest j l k y f =
          let x = U.other j a p q (used j l k) lp lq e (U.one j a q p (used j l k) lq lp (sym e) y)
          (t, m.held, rest_of_class l k lt (sym f)) in
          (x.0, move_of_held lq m x.1, sym f ∙ sym (class_of_rest l k x.2))

      old : (u : ℕ) → Move q a u → home first origin (get_or class u 0) ≡ get_or class t 0
          → (get_or class u 0 < first) ⊎ (first ≤ get_or class u 0) → (v : ℕ) × Move q a v × Same class t v
      old u mu f (inl l) = (u, mu, sym f ∙ home_lt origin l)
      old u mu f (inr l) =
          let lu = held_move_target_lt L mu in
          let k = P.class_lt u lu in
          to_rest (get_or class u 0) l k (u, mu.held, fresh_of_class l k lu refl)
          (sym (home_le origin l) ∙ f)

      go : (get_or class t 0 < first) ⊎ (first ≤ get_or class t 0) → (u : ℕ) × Move q a u × Same class t u
      go (inl l) =
          let x = S.together p q a t lp lq (U.same_before p q lp lq e) m l in
          old x.0 x.1 x.2 (lt_or_le (get_or class x.0 0) first)
      go (inr l) = to_fresh (get_or class t 0) l (P.class_lt t lt) refl

  same_moves : {p q : ℕ} → p < n → q < n → Answered Move (Same class) p q
      → SameMoves slots pool (UsedLabels first classes labels count) fresh rest p q
  same_moves {p} {q} lp lq h = record {
    to_fresh = λ j a w x.
        let y = answer j a w x.0 x.1 in (
          y.0,
          y.1.held,
          fresh_of_class w.0 w.1 (held_move_target_lt L y.1)
              (sym y.2 ∙ class_of_fresh w.0 w.1 x.2),
        );
    to_rest = λ j a w x.
        let y = answer j a w x.0 x.1 in (
          y.0,
          y.1.held,
          rest_of_class w.0 w.1 (held_move_target_lt L y.1)
              (sym y.2 ∙ class_of_rest w.0 w.1 x.2),
        );
  }
    where
      answer : (j a : ℕ) → UsedLabels first classes labels count j a → (t : ℕ)
          → HeldAt slots pool (target_row a) p t → (u : ℕ) × Move q a u × Same class t u
      answer j a w t i = h a t (record {
        source_lt = omega (arith, lp, L.states_le);
        number = w.2.0;
        number_lt = w.2.1;
        label_is = w.2.2;
        held = i;
      })

  pub refined_of_split_under : Refined (HeldMove labels count slots pool) n class next
  refined_of_split_under = record {
    same_before = U.same_before;
    answers_of_same = λ p q lp lq e. record {
      there = answered p q lp lq e;
      back = λ a t m. let x = answered q p lq lp (sym e) a t m in (x.0, x.1, sym x.2);
    };
    same_of_answers = λ p q lp lq s h.
        U.stay p q lp lq s (same_moves lp lq h.there)
        (same_moves lq lp (λ a t m. let x = h.back a t m in (x.0, x.1, sym x.2)));
  }

-- ---- the next round

pub stable_of_refined : {Move : Moves} {n old : ℕ} {class origin next origin' : List ℕ}
    → ((p a q : ℕ) → p < n → Move p a q → q < n) → ((p : ℕ) → p < n → get_or class p 0 < old)
    → HomesKept n old origin class origin' next → Refined Move n class next → Stable Move n old next origin'
stable_of_refined {origin' = origin'} target_lt class_lt H R = record {
  together = λ p q a t lp lq e m l.
      let x = (R.answers_of_same p q lp lq e).there a t m in
      let before = home_before class_lt H x.0 (target_lt q a x.0 lq x.1) in
      (x.0, x.1, before ∙ sym x.2 ∙ sym (home_before class_lt H t (target_lt p a t lp m)) ∙ home_lt origin' l);
}
