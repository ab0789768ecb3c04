-- Letter by letter, the first by action numbers of the shortest low sequences that just one of two states allows: the
-- lowest action whose targets have a rank one less, then the first of the targets; at rank 1 the lowest action that
-- just one of the two has. Document 01, operation 6. Assumes nothing.
use Rattle.std.specs.Prelude.{◌≡◌, refl, ◌⊎◌, List, [], ◌∷◌, Bool, not}
use Rattle.std.proofs.Common.{sym, arith}
use Rattle.std.proofs.Math.Path.{subst}
use Rattle.std.proofs.Math.Logic.{inl, inr}
use Prim.Native.Nat.{ℕ, suc, ◌≤◌, ◌<◌}
use Rattle.std.proofs.Math.Dec.{T}
use Rattle.std.proofs.Math.ListN.{length}
use Rattle.lts.proofs.TestsLaws.{lt_or_le, le_of_not_lt}
use Rattle.lts.specs.Alike.{Alike, Separated}
use Rattle.lts.proofs.AlikeLaws.{alike_le, alike_sym}
use Rattle.lts.specs.Game.{Game, Opening, by_first, by_second, alike?}
use Rattle.lts.proofs.GameLaws.{alike_cases, ¬Alike→not_alike?, not_alike?→¬Alike}
use Rattle.lts.specs.View.{View}
use Rattle.lts.specs.Run.{Run, Reachable, onward, Deterministic}
use Rattle.lts.proofs.RunLaws.{allows_cons}
use Rattle.lts.specs.Noninterference.{Low}
use Rattle.lts.specs.Weak.{LowStep}
use Rattle.lts.proofs.LowLaws.{alike_allows}
use Rattle.lts.specs.Word.{OnlyFrom, JustOne, NotAfter, FirstWord}
use Rattle.lts.proofs.WordLaws.{just_one_cons, just_one_uncons, just_one_not_both, separated-length_le}
use Rattle.lts.proofs.WordLaws.{separated→Shortest}

-- ---- the order by action numbers

pub not_after_antisym : (u v : List ℕ) → NotAfter u v → NotAfter v u → u ≡ v
unfolding NotAfter
not_after_antisym [] [] x y = refl
not_after_antisym [] (b ∷ v) x y = absurd y
not_after_antisym (a ∷ u) [] x y = absurd x
not_after_antisym (a ∷ u) (b ∷ v) (inl x) (inl y) = absurd (omega arith)
not_after_antisym (a ∷ u) (b ∷ v) (inl x) (inr y) = absurd (omega (arith, y.0))
not_after_antisym (a ∷ u) (b ∷ v) (inr x) (inl y) = absurd (omega (arith, x.0))
not_after_antisym (a ∷ u) (b ∷ v) (inr x) (inr y) = let e = not_after_antisym u v x.1 y.1 in cc (e, x.0)

pub first_word_unique : (v : View) (p q : ℕ) (u w : List ℕ) → FirstWord v p q u → FirstWord v p q w → u ≡ w
first_word_unique v p q u w x y = not_after_antisym u w
    (x.first w y.is_low y.just_one (sym e)) (y.first u x.is_low x.just_one e)
  where
    e : length u ≡ length w
    e = omega (arith, x.shortest w y.is_low y.just_one, y.shortest u x.is_low x.just_one)

-- ---- the last letter

-- The lowest low action that just one of the two has.
pub first_word_one : (v : View) (p q a : ℕ) → T (v.levels.low? a) → JustOne v.Step p q (a ∷ [])
    → ((b : ℕ) → b < a → T (v.levels.low? b) → ¬ (JustOne v.Step p q (b ∷ []))) → FirstWord v p q (a ∷ [])
unfolding Low NotAfter Run
first_word_one v p q a lo o f = record { is_low = (lo, tt); just_one = o; shortest = shortest; first = least }
  where
    shortest : (u : List ℕ) → Low v.levels u → JustOne v.Step p q u → 1 ≤ length u
    shortest [] lu y = absurd (just_one_not_both v.Step p q [] y (λ _. (q, refl), λ _. (p, refl)))
    shortest (b ∷ u) lu y = omega arith

    at : (b : ℕ) → T (v.levels.low? b) → JustOne v.Step p q (b ∷ []) → (a < b) ⊎ (b ≤ a)
        → (a < b) ⊎ ((a ≡ b) × Unit {0})
    at b lb y (inl c) = inl c
    at b lb y (inr c) =
        let d : a ≤ b = le_of_not_lt a b (λ h. f b h lb y) in
        inr (omega arith, tt)

    least : (u : List ℕ) → Low v.levels u → JustOne v.Step p q u → length u ≡ 1 → NotAfter (a ∷ []) u
    least [] lu y e = absurd (omega arith)
    least (b ∷ []) lu y e = at b lu.0 y (lt_or_le a b)
    least (b ∷ (c ∷ u)) lu y e = absurd (omega arith)

-- ---- a letter before the last

module _ (v : View) where
  -- Where q answers each letter b of p by a k-alike target, no word of p that begins with b and has at most k letters
  -- more is p's alone.
  no_word_from : (k p q b : ℕ) (u : List ℕ) → T (v.levels.low? b) → Low v.levels u → length u ≤ k
      → ((x : ℕ) → LowStep v p b x → (y : ℕ) × LowStep v q b y × Alike (LowStep v) k x y)
      → ¬ (OnlyFrom v.Step p q (b ∷ u))
  unfolding Run
  no_word_from k p q b u lo lu c f ((e, x), y) =
      let m = f x.0 (lo, x.1) in
      y (allows_cons v.Step q b m.0 u m.1.1 ((alike_allows v k u x.0 m.0 lu c m.2).0 (e, x.2)))

module _ (v : View) (round : (ℕ → ℕ → Bool) → ℕ → ℕ → Bool)
    (G : Game (LowStep v) v.states round) (det : Deterministic v) where
  -- Of two states that the round k+2 separates, the targets of an action are k-alike; so they are (k+1)-alike, or the
  -- round k+1 separates them.
  pub targets_separated : (k p q b x y : ℕ) → Reachable v q → Separated (LowStep v) p q (suc (suc k)) → LowStep v p b x
      → LowStep v q b y → ¬ (Alike (LowStep v) (suc k) x y) → Separated (LowStep v) x y (suc k)
  unfolding Alike
  targets_separated k p q b x y rq s m o d =
      let h = (s.alike_before (suc k) (omega arith)).there b x m in
      let e : h.0 ≡ y = det q b h.0 y rq h.1.1 o.1 in
      let near : Alike (LowStep v) k x y = subst (λ (z : ℕ). Alike (LowStep v) k x z) e h.2 in
      record { not_alike = d; alike_before = λ j l. alike_le (LowStep v) x y j k (omega arith) near }

  targets_alike : (k p q b x y : ℕ) → Reachable v q → Separated (LowStep v) p q (suc (suc k)) → LowStep v p b x
      → LowStep v q b y → ¬ (Separated (LowStep v) x y (suc k)) → Alike (LowStep v) (suc k) x y
  targets_alike k p q b x y rq s m o d = go (alike_cases (LowStep v) v.states round G (suc k) x y)
    where
      go : Alike (LowStep v) (suc k) x y ⊎ ¬ (Alike (LowStep v) (suc k) x y) → Alike (LowStep v) (suc k) x y
      go (inl h) = h
      go (inr h) = absurd (d (targets_separated k p q b x y rq s m o h))

  -- Of two states that the round 1 separates, just one has some low action.
  pub letter_of_separated_one : (p q : ℕ) → Separated (LowStep v) p q 1
      → (a : ℕ) × T (v.levels.low? a) × JustOne v.Step p q (a ∷ [])
  unfolding alike? Run
  letter_of_separated_one p q s = go (G.fails (alike? round 0) p q
      (¬Alike→not_alike? (LowStep v) v.states round G 1 p q s.not_alike))
    where
      go : Opening (LowStep v) (alike? round 0) p q → (a : ℕ) × T (v.levels.low? a) × JustOne v.Step p q (a ∷ [])
      go (by_first a x m f) = (a, m.0, inl ((x, (x, m.1, refl)), λ z. f z.1.0 (m.0, z.1.1)))
      go (by_second a y m f) = (a, m.0, inr ((y, (y, m.1, refl)), λ z. f z.1.0 (m.0, z.1.1)))

  -- Of two states that the round k+2 separates, some action leads to states that the round k+1 separates: an opening
  -- and its answer.
  pub letter_of_separated : (k p q : ℕ) → Reachable v q → Separated (LowStep v) p q (suc (suc k))
      → (a x y : ℕ) × LowStep v p a x × LowStep v q a y × Separated (LowStep v) x y (suc k)
  unfolding Alike alike?
  letter_of_separated k p q rq s = go (G.fails (alike? round (suc k)) p q
      (¬Alike→not_alike? (LowStep v) v.states round G (suc (suc k)) p q s.not_alike))
    where
      apart : (x y : ℕ) → T (not (alike? round (suc k) x y)) → ¬ (Alike (LowStep v) (suc k) x y)
      apart x y t = not_alike?→¬Alike (LowStep v) v.states round G (suc k) x y t

      go : Opening (LowStep v) (alike? round (suc k)) p q
          → (a x y : ℕ) × LowStep v p a x × LowStep v q a y × Separated (LowStep v) x y (suc k)
      go (by_first a x m f) =
          let (y, o, _) = (s.alike_before 1 (omega arith)).there a x m in
          (a, x, y, m, o, targets_separated k p q a x y rq s m o (apart x y (f y o)))
      go (by_second a y o f) =
          let (x, m, _) = (s.alike_before 1 (omega arith)).back a y o in
          (a, x, y, m, o, targets_separated k p q a x y rq s m o (apart x y (f x m)))

  -- Where the lower action b has no targets that the round k+1 separates, no word of length k+2 that begins with b is
  -- possible from just one.
  no_lower : (k p q b : ℕ) (u : List ℕ) → Reachable v p → Reachable v q → Separated (LowStep v) p q (suc (suc k))
      → ((x y : ℕ) → LowStep v p b x → LowStep v q b y → ¬ (Separated (LowStep v) x y (suc k))) → T (v.levels.low? b)
      → Low v.levels u → length u ≤ suc k → ¬ (JustOne v.Step p q (b ∷ u))
  unfolding Alike
  no_lower k p q b u rp rq s f lo lu c (inl o) = no_word_from v (suc k) p q b u lo lu c (λ x m.
      let h = (s.alike_before 1 (omega arith)).there b x m in
      (h.0, h.1, targets_alike k p q b x h.0 rq s m h.1 (f x h.0 m h.1))) o
  no_lower k p q b u rp rq s f lo lu c (inr o) = no_word_from v (suc k) q p b u lo lu c (λ y m.
      let h = (s.alike_before 1 (omega arith)).back b y m in (
        h.0,
        h.1,
        alike_sym (LowStep v) (suc k) h.0 y
            (targets_alike k p q b h.0 y rq s h.1 m (f h.0 y h.1 m)),
      )) o

  -- The first word is as long as the rank.
  pub first_word_length : (p q k : ℕ) (w : List ℕ) → Reachable v p → Reachable v q → Separated (LowStep v) p q k
      → FirstWord v p q w → length w ≡ k
  first_word_length p q k w rp rq s i =
      let x = separated→Shortest v round G det p q k rp rq s in
      let u : length w ≤ length x.word = i.shortest x.word x.is_low x.just_one in
      omega (arith, x.length_is, separated-length_le v p q k s w i.is_low i.just_one)

  -- The lowest action whose targets the round k+1 separates, then the first word of the targets.
  pub first_word_cons : (k p q a p' q' : ℕ) (w : List ℕ) → Reachable v p → Reachable v q
      → Separated (LowStep v) p q (suc (suc k)) → LowStep v p a p' → LowStep v q a q'
      → Separated (LowStep v) p' q' (suc k)
      → ((b x y : ℕ) → b < a → LowStep v p b x → LowStep v q b y → ¬ (Separated (LowStep v) x y (suc k)))
      → FirstWord v p' q' w → FirstWord v p q (a ∷ w)
  unfolding Low NotAfter
  first_word_cons k p q a p' q' w rp rq s m o t f i = record {
    is_low = (m.0, i.is_low);
    just_one = just_one_cons v det p q a p' q' w rp rq m.1 o.1 i.just_one;
    shortest = shortest;
    first = least;
  }
    where
      size : length w ≡ suc k
      size = first_word_length p' q' (suc k) w (onward rp m.1) (onward rq o.1) t i

      shortest : (u : List ℕ) → Low v.levels u → JustOne v.Step p q u → suc (length w) ≤ length u
      shortest u lu y = omega (arith, size, separated-length_le v p q (suc (suc k)) s u lu y)

      at : (b : ℕ) (u : List ℕ) → T (v.levels.low? b) → Low v.levels u → length u ≡ length w
          → JustOne v.Step p q (b ∷ u) → (a < b) ⊎ (b ≤ a) → (a < b) ⊎ ((a ≡ b) × NotAfter w u)
      at b u lo lu e y (inl c) = inl c
      at b u lo lu e y (inr c) = inr (
        g,
        i.first u lu
            (just_one_uncons v det p q a p' q' u rp rq m.1 o.1
            (subst (λ (c : ℕ). JustOne v.Step p q (c ∷ u)) (sym g) y)) e,
      )
        where
          d : a ≤ b
          d = le_of_not_lt a b (λ h. no_lower k p q b u rp rq s (λ x z. f b x z h) lo lu (omega (arith, size)) y)

          g : a ≡ b
          g = omega (arith, d)

      least : (u : List ℕ) → Low v.levels u → JustOne v.Step p q u → length u ≡ suc (length w)
          → NotAfter (a ∷ w) u
      least [] lu y e = absurd (omega arith)
      least (b ∷ u) lu y e = at b u lu.0 lu.1 (omega arith) y (lt_or_le a b)
