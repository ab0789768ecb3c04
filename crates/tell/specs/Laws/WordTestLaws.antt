-- A word that passes the test is the word; where no state has two steps of one action the model is deterministic;
-- and so for silent steps. Document 01, operation 6, "Deterministic" and "Possible"; document 02, (vii). Assumes
-- nothing.
use Rattle.std.specs.Prelude.{Bool, not, ◌&&◌, ◌⊎◌, ◌≡◌, refl, T, eqb, ltb, length}
use mathlib.Core.List.{List, [], ◌∷◌}
use Rattle.std.proofs.Common.{inl, inr, arith, T_not, eqb→eq, ltb→lt}
use Prim.Native.Nat.{ℕ, zero, suc, ◌≤◌, ◌<◌}
use Rattle.std.proofs.Math.Dec.{not_T}
use Rattle.lts.specs.Tests.{all}
use Rattle.lts.proofs.TestsLaws.{T-eqb, and_intro, and_left, and_right, or_left, or_right, or_cases, implies_elim}
use Rattle.lts.proofs.TestsLaws.{lt_or_le, all→Each, any→Some, Some→any}
use Rattle.lts.specs.Decided.{Decided}
use Rattle.lts.specs.Noninterference.{Low}
use Rattle.lts.specs.Run.{Run, Allows}
use Rattle.lts.proofs.RunLaws.{allows_cons}
use Rattle.lts.specs.Word.{OnlyFrom, JustOne, NotAfter}
use Rattle.text.specs.Model.{silent, Model}
use Rattle.model.specs.System.{source, action, target, level, SilentStep, NoSilentStep, DeterministicModel, view}
use Rattle.model.specs.Inner.Stored.{Stored}
use Rattle.model.specs.Inner.StepTest.{step?}
use Rattle.model.specs.Laws.System.StepTestLaws.{decided_view}
use Rattle.letters.specs.declared.word.End.{End}
use Rattle.letters.specs.declared.word.End.TheVariants.{Source, Target}
use Rattle.letters.specs.Words.{end_state, other_state, FirstSilent, WordOf}
use Rattle.verdicts.specs.Inner.VerdictTest.{reachable?}
use Rattle.verdicts.proofs.Laws.VerdictTestLaws.{reachable?→Reachable}
use Rattle.tell.specs.Inner.WordTest.{only_step?, unbranched?, still?, first_silent?, low?, allows?, only_from?}
use Rattle.tell.specs.Inner.WordTest.{just_one?, not_after?, each_word?, later?, word_of?}

pub unbranched?→DeterministicModel : (m : Model) → T (unbranched? m) → DeterministicModel m
unfolding unbranched?
unbranched?→DeterministicModel m t = record {
  one_step = λ i j li lj r s a.
      let n = length m.steps in
      let u = all→Each n (only_step? m i) (all→Each n (λ i. all n (only_step? m i)) t i li) j lj in
      eqb→eq i j (implies_elim (eqb (source m i) (source m j) && eqb (action m i) (action m j)) (eqb i j) u
      (and_intro (eqb (source m i) (source m j)) (eqb (action m i) (action m j)) (T-eqb s) (T-eqb a)));
}

-- ---- silent steps

still?→not-silent : (m : Model) (n : ℕ) → T (still? m n) → (j : ℕ) → j < n → ¬ (SilentStep m j)
unfolding still?
still?→not-silent m n t j l x =
    T_not (eqb (level m (action m j)) silent) (all→Each n (λ j. not (eqb (level m (action m j)) silent)) t j l)
    (T-eqb x.is_silent)

pub still?→NoSilentStep : (m : Model) → T (still? m (length m.steps)) → NoSilentStep m
still?→NoSilentStep m t j x = still?→not-silent m (length m.steps) t j x.number_lt x

pub first_silent?→FirstSilent : {s : List ℕ} {m : Model} → Stored s m → (j : ℕ) → j < length m.steps
    → T (first_silent? m j) → FirstSilent m j
unfolding first_silent?
first_silent?→FirstSilent {m = m} st j l t =
    let is = eqb (level m (action m j)) silent in
    let r = reachable? m (source m j) in
    let u = and_right is (r && still? m j) t in
    record {
      holds = record {
        number_lt = l;
        is_silent = eqb→eq (level m (action m j)) silent (and_left is (r && still? m j) t);
        reachable = reachable?→Reachable st (source m j) (and_left r (still? m j) u);
      };
      first = λ i x. go i x (and_right r (still? m j) u) (lt_or_le i j);
    }
  where
    go : (i : ℕ) → SilentStep m i → T (still? m j) → (i < j) ⊎ (j ≤ i) → j ≤ i
    go i x u (inl k) = absurd (still?→not-silent m j u i k x)
    go i x u (inr k) = k

-- ---- low sequences and their order

module _ (m : Model) where
  low?→Low : (w : List ℕ) → T (low? m w) → Low (view m).levels w
  unfolding low? Low
  low?→Low [] t = tt
  low?→Low (a ∷ w) t =
      (and_left ((view m).levels.low? a) (low? m w) t, low?→Low w (and_right ((view m).levels.low? a) (low? m w) t))

  Low→low? : (w : List ℕ) → Low (view m).levels w → T (low? m w)
  unfolding low? Low
  Low→low? [] l = tt
  Low→low? (a ∷ w) l = and_intro ((view m).levels.low? a) (low? m w) l.0 (Low→low? w l.1)

not_after?→NotAfter : (u v : List ℕ) → T (not_after? u v) → NotAfter u v
unfolding not_after? NotAfter
not_after?→NotAfter [] v t = tt
not_after?→NotAfter (a ∷ u) [] t = t
not_after?→NotAfter (a ∷ u) (b ∷ v) t = go (not_after?→NotAfter u v) (or_cases (ltb a b) (eqb a b && not_after? u v) t)
  where
    go : (T (not_after? u v) → NotAfter u v) → T (ltb a b) ⊎ T (eqb a b && not_after? u v)
        → (a < b) ⊎ ((a ≡ b) × NotAfter u v)
    go f (inl x) = inl (ltb→lt a b x)
    go f (inr x) = inr
        (eqb→eq a b (and_left (eqb a b) (not_after? u v) x), f (and_right (eqb a b) (not_after? u v) x))

module _ {s : List ℕ} {m : Model} (st : Stored s m) where
  decided : Decided (view m).Step m.head.states m.head.actions (step? m)
  decided = (decided_view st).steps

  -- ---- possible sequences

  allows?→Allows : (w : List ℕ) (p : ℕ) → T (allows? m p w) → Allows (view m).Step p w
  unfolding allows? Run
  allows?→Allows [] p t = (p, refl)
  allows?→Allows (a ∷ w) p t =
      let x = any→Some m.head.states (λ q. step? m p a q && allows? m q w) t in
      let q = x.0 in
      allows_cons (view m).Step p a q w
      (decided.move?→Move p a q (and_left (step? m p a q) (allows? m q w) x.2))
      (allows?→Allows w q (and_right (step? m p a q) (allows? m q w) x.2))

  Allows→allows? : (w : List ℕ) (p : ℕ) → Allows (view m).Step p w → T (allows? m p w)
  unfolding allows? Run
  Allows→allows? [] p h = tt
  Allows→allows? (a ∷ w) p (e, h) =
      let q = h.0 in
      Some→any m.head.states (λ q. step? m p a q && allows? m q w) q (decided.target_lt p a q h.1)
      (and_intro (step? m p a q) (allows? m q w) (decided.Move→move? p a q h.1) (Allows→allows? w q (e, h.2)))

  only_from?→OnlyFrom : (p q : ℕ) (w : List ℕ) → T (only_from? m p q w) → OnlyFrom (view m).Step p q w
  only_from?→OnlyFrom p q w t = (
    allows?→Allows w p (and_left (allows? m p w) (not (allows? m q w)) t),
    λ h. T_not (allows? m q w) (and_right (allows? m p w) (not (allows? m q w)) t) (Allows→allows? w q h),
  )

  OnlyFrom→only_from? : (p q : ℕ) (w : List ℕ) → OnlyFrom (view m).Step p q w → T (only_from? m p q w)
  OnlyFrom→only_from? p q w (x, y) = and_intro (allows? m p w) (not (allows? m q w)) (Allows→allows? w p x)
      (not_T (allows? m q w) (λ t. y (allows?→Allows w q t)))

  JustOne→just_one? : (p q : ℕ) (w : List ℕ) → JustOne (view m).Step p q w → T (just_one? m p q w)
  JustOne→just_one? p q w (inl x) = or_left (only_from? m p q w) (only_from? m q p w) (OnlyFrom→only_from? p q w x)
  JustOne→just_one? p q w (inr x) = or_right (only_from? m p q w) (only_from? m q p w) (OnlyFrom→only_from? q p w x)

  -- What each sequence passes, each possible one does: it has actions of the model only.
  possible_passes : (k : ℕ) (f : List ℕ → Bool) → T (each_word? m.head.actions k f) → (v : List ℕ) (p : ℕ)
      → length v ≡ k → Allows (view m).Step p v → T (f v)
  unfolding each_word? Run
  possible_passes zero f t [] p e h = t
  possible_passes zero f t (a ∷ v) p e h = absurd (omega arith)
  possible_passes (suc k) f t [] p e h = absurd (omega arith)
  possible_passes (suc k) f t (a ∷ v) p e (z, h) =
      let l = m.head.actions in
      let u = all→Each l (λ a. each_word? l k (λ w. f (a ∷ w))) t a (decided.label_lt p a h.0 h.1) in
      possible_passes k (λ w. f (a ∷ w)) u v h.0 (omega arith) (z, h.2)

  -- ---- the word

  module _ (j : ℕ) (w : List ℕ) where
    abbrev p : ℕ
    p = source m j

    abbrev q : ℕ
    q = target m j

    just_one : (end : End) → OnlyFrom (view m).Step (end_state m j end) (other_state m j end) w
        → JustOne (view m).Step p q w
    just_one Source x = inl x
    just_one Target x = inr x

    abbrev first? : ℕ → Bool
    first? k = each_word? m.head.actions k (later? m p q w)

    passes : T (all (suc (length w)) first?) → (v : List ℕ) → length v ≤ length w → JustOne (view m).Step p q v
        → T (later? m p q w v)
    passes t v l (inl x) = possible_passes (length v) (later? m p q w)
        (all→Each (suc (length w)) first? t (length v) (omega arith)) v p refl x.0
    passes t v l (inr x) = possible_passes (length v) (later? m p q w)
        (all→Each (suc (length w)) first? t (length v) (omega arith)) v q refl x.0

    later : T (all (suc (length w)) first?) → (v : List ℕ) → length v ≤ length w → Low (view m).levels v
        → JustOne (view m).Step p q v → (length v ≡ length w) × NotAfter w v
    later t v l lv x =
        let u = implies_elim (low? m v && just_one? m p q v) (eqb (length v) (length w) && not_after? w v)
        (passes t v l x)
        (and_intro (low? m v) (just_one? m p q v) (Low→low? m v lv) (JustOne→just_one? p q v x)) in (
          eqb→eq (length v) (length w) (and_left (eqb (length v) (length w)) (not_after? w v) u),
          not_after?→NotAfter w v (and_right (eqb (length v) (length w)) (not_after? w v) u),
        )

    shortest : T (all (suc (length w)) first?) → (v : List ℕ) → Low (view m).levels v → JustOne (view m).Step p q v
        → length w ≤ length v
    shortest t v lv x = go (lt_or_le (length v) (length w))
      where
        go : (length v < length w) ⊎ (length w ≤ length v) → length w ≤ length v
        go (inl l) = omega (arith, (later t v (omega arith) lv x).0)
        go (inr l) = l

    pub word_of?→WordOf : (end : End) → T (word_of? m j w end) → WordOf m j w end
    unfolding word_of?
    word_of?→WordOf end t =
        let only? = only_from? m (end_state m j end) (other_state m j end) w in
        let u = and_right (low? m w) (only? && all (suc (length w)) first?) t in
        let only = only_from?→OnlyFrom (end_state m j end) (other_state m j end) w
        (and_left only? (all (suc (length w)) first?) u) in
        let firsts = and_right only? (all (suc (length w)) first?) u in
        record {
          first_word = record {
            is_low = low?→Low m w (and_left (low? m w) (only? && all (suc (length w)) first?) t);
            just_one = just_one end only;
            shortest = shortest firsts;
            first = λ v lv x e. (later firsts v (omega arith) lv x).1;
          };
          only_from_end = only;
        }
