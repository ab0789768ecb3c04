-- Of two reachable states of a deterministic model, the rank above 0 is the length of the shortest low sequences that
-- just one of them allows. Document 01, "Rank" and operation 6. Assumes nothing.
use Rattle.std.specs.Prelude.{◌≡◌, refl, ◌⊎◌, ◌↔◌, List, [], ◌∷◌, Bool, not, length}
use Rattle.std.proofs.Math.Logic.{inl, inr}
use Prim.Native.Nat.{ℕ, zero, suc, ◌≤◌, ◌<◌}
use Rattle.std.proofs.Common.{arith}
use Rattle.std.proofs.Math.Dec.{T}
use Rattle.lts.proofs.TestsLaws.{T_cases, eq_of_not_lt, le_of_not_lt}
use Rattle.lts.specs.Alike.{Moves, Answers, Separated, Rank, bisimilar, separated}
use Rattle.lts.proofs.AlikeLaws.{separated_of_rank}
use Rattle.lts.specs.Game.{Game, Opening, by_first, by_second, alike?}
use Rattle.lts.proofs.GameLaws.{¬Alike→not_alike?}
use Rattle.lts.proofs.RankLaws.{rank_exists}
use Rattle.lts.specs.View.{View}
use Rattle.lts.specs.Run.{Run, Allows, Reachable, onward, Deterministic, Bounded}
use Rattle.lts.proofs.RunLaws.{allows_cons, allows_uncons, reachable_lt}
use Rattle.lts.specs.Noninterference.{Low}
use Rattle.lts.specs.Weak.{LowStep}
use Rattle.lts.proofs.LowLaws.{alike_allows, bisimilar→SameLow}
use Rattle.lts.specs.Word.{OnlyFrom, JustOne, Shortest}

-- A low sequence of length at most k that just one of p and q allows.
record WordWithin (v : View) (k p q : ℕ) : Type 0 where
  word : List ℕ
  is_low : Low v.levels word
  length_le : length word ≤ k
  just_one : JustOne v.Step p q word

-- ---- just one

module _ (Step : Moves) where
  pub just_one_sym : (p q : ℕ) (w : List ℕ) → JustOne Step p q w → JustOne Step q p w
  just_one_sym p q w (inl x) = inr x
  just_one_sym p q w (inr x) = inl x

  pub just_one_not_both : (p q : ℕ) (w : List ℕ) → JustOne Step p q w → ¬ (Allows Step p w ↔ Allows Step q w)
  just_one_not_both p q w (inl (x, y)) e = y (e.0 x)
  just_one_not_both p q w (inr (x, y)) e = y (e.1 x)

  -- The end that allows the word is the one or the other, not both.
  pub only_from_unique : (p q : ℕ) (w : List ℕ) → OnlyFrom Step p q w → ¬ (OnlyFrom Step q p w)
  only_from_unique p q w x y = x.1 y.0

-- After a letter that both allow, the rest is possible from just one target, and from the same side, exactly where the
-- whole is possible from just one.
module _ (v : View) (det : Deterministic v) where
  pub only_from_cons : (p q a p' q' : ℕ) (w : List ℕ) → Reachable v q → v.Step p a p' → v.Step q a q'
      → OnlyFrom v.Step p' q' w → OnlyFrom v.Step p q (a ∷ w)
  only_from_cons p q a p' q' w rq s t (x, y) =
      (allows_cons v.Step p a p' w s x, λ z. y (allows_uncons v det q a q' w rq t z))

  pub only_from_uncons : (p q a p' q' : ℕ) (w : List ℕ) → Reachable v p → v.Step p a p' → v.Step q a q'
      → OnlyFrom v.Step p q (a ∷ w) → OnlyFrom v.Step p' q' w
  only_from_uncons p q a p' q' w rp s t (x, y) =
      (allows_uncons v det p a p' w rp s x, λ z. y (allows_cons v.Step q a q' w t z))

  pub just_one_cons : (p q a p' q' : ℕ) (w : List ℕ) → Reachable v p → Reachable v q → v.Step p a p' → v.Step q a q'
      → JustOne v.Step p' q' w → JustOne v.Step p q (a ∷ w)
  just_one_cons p q a p' q' w rp rq s t (inl x) = inl (only_from_cons p q a p' q' w rq s t x)
  just_one_cons p q a p' q' w rp rq s t (inr x) = inr (only_from_cons q p a q' p' w rp t s x)

  pub just_one_uncons : (p q a p' q' : ℕ) (w : List ℕ) → Reachable v p → Reachable v q → v.Step p a p' → v.Step q a q'
      → JustOne v.Step p q (a ∷ w) → JustOne v.Step p' q' w
  just_one_uncons p q a p' q' w rp rq s t (inl x) = inl (only_from_uncons p q a p' q' w rp s t x)
  just_one_uncons p q a p' q' w rp rq s t (inr x) = inr (only_from_uncons q p a q' p' w rq t s x)

-- ---- the shortest

pub shortest_unique : (v : View) (p q j k : ℕ) → Shortest v p q j → Shortest v p q k → j ≡ k
shortest_unique v p q j k x y = eq_of_not_lt j k (not_shorter j k x y) (not_shorter k j y x)
  where
    not_shorter : (j k : ℕ) → Shortest v p q j → Shortest v p q k → j < k → ⊥
    not_shorter j k x y l = just_one_not_both v.Step p q x.word x.just_one
        (y.none_shorter x.word x.is_low (omega (arith, x.length_is)))

-- States that the round k separates allow the same low sequences shorter than k.
pub separated_allows : (v : View) (p q k : ℕ) → Separated (LowStep v) p q k → (w : List ℕ) → Low v.levels w
    → length w < k → Allows v.Step p w ↔ Allows v.Step q w
separated_allows v p q k x w l h =
    alike_allows v (length w) w p q l (omega arith) (x.alike_before (length w) h)

-- So a low sequence that just one of them allows is no shorter than k.
pub separated-length_le : (v : View) (p q k : ℕ) → Separated (LowStep v) p q k → (w : List ℕ) → Low v.levels w
    → JustOne v.Step p q w → k ≤ length w
separated-length_le v p q k x w l j =
    le_of_not_lt k (length w) (λ h. just_one_not_both v.Step p q w j (separated_allows v p q k x w l h))

module _ (v : View) (round : (ℕ → ℕ → Bool) → ℕ → ℕ → Bool)
    (G : Game (LowStep v) v.states round) (det : Deterministic v) where
  -- Any two reachable states that are not k-alike have a low sequence of length at most k that just one allows.
  abbrev HasWord : ℕ → Type 0
  HasWord k = (p q : ℕ) → Reachable v p → Reachable v q → T (not (alike? round k p q))
      → WordWithin v k p q

  -- A letter that both allow, and a word of the targets.
  word_cons : (k p q a p' q' : ℕ) → Reachable v p → Reachable v q → LowStep v p a p' → LowStep v q a q'
      → WordWithin v k p' q' → WordWithin v (suc k) p q
  unfolding Low
  word_cons k p q a p' q' rp rq m o t = record {
    word = a ∷ t.word;
    is_low = (m.0, t.is_low);
    length_le = omega (arith, t.length_le);
    just_one = just_one_cons v det p q a p' q' t.word rp rq m.1 o.1 t.just_one;
  }

  -- A letter that just one allows.
  word_one : (k p q : ℕ) → Opening (LowStep v) (alike? round 0) p q → WordWithin v (suc k) p q
  unfolding alike? Run Low
  word_one k p q (by_first a p' m f) = record {
    word = a ∷ [];
    is_low = (m.0, tt);
    length_le = omega arith;
    just_one = inl ((p', (p', m.1, refl)), λ z. f z.1.0 (m.0, z.1.1));
  }
  word_one k p q (by_second a q' m f) = record {
    word = a ∷ [];
    is_low = (m.0, tt);
    length_le = omega arith;
    just_one = inr ((q', (q', m.1, refl)), λ z. f z.1.0 (m.0, z.1.1));
  }

  -- States that are not k-alike have a low sequence of length at most k that just one allows: take an opening of the
  -- first round if there is one, else an opening of the last, whose answer is the one step that there is.
  word_within : (k : ℕ) → HasWord k
  unfolding alike?
  word_within zero p q rp rq t = absurd t
  word_within (suc k) p q rp rq t = go (T_cases (alike? round 1 p q)) (word_within k)
    where
      next : Answers (LowStep v) (λ x y. T (alike? round 0 x y)) p q → Opening (LowStep v) (alike? round k) p q
          → HasWord k → WordWithin v (suc k) p q
      next h (by_first a p' m f) ih =
          let o = h.there a p' m in
          word_cons k p q a p' o.0 rp rq m o.1
          (ih p' o.0 (onward rp m.1) (onward rq o.1.1) (f o.0 o.1))
      next h (by_second a q' m f) ih =
          let o = h.back a q' m in
          word_cons k p q a o.0 q' rp rq o.1 m
          (ih o.0 q' (onward rp o.1.1) (onward rq m.1) (f o.0 o.1))

      go : T (alike? round 1 p q) ⊎ T (not (alike? round 1 p q)) → HasWord k → WordWithin v (suc k) p q
      go (inl u) ih = next (G.passes (alike? round 0) p q u) (G.fails (alike? round k) p q t) ih
      go (inr u) ih = word_one k p q (G.fails (alike? round 0) p q u)

  pub separated→Shortest : (p q k : ℕ) → Reachable v p → Reachable v q → Separated (LowStep v) p q k → Shortest v p q k
  separated→Shortest p q k rp rq x =
      go (word_within k p q rp rq (¬Alike→not_alike? (LowStep v) v.states round G k p q x.not_alike))
    where
      go : WordWithin v k p q → Shortest v p q k
      go t = record {
        word = t.word;
        is_low = t.is_low;
        length_is =
            omega (arith, t.length_le, separated-length_le v p q k x t.word t.is_low t.just_one);
        just_one = t.just_one;
        none_shorter = separated_allows v p q k x;
      }

  -- The rank above 0 is the length of the shortest low sequences possible from just one of the two.
  pub rank↔Shortest : Bounded v → (p q k : ℕ) → Reachable v p → Reachable v q → 0 < k
      → Rank (LowStep v) p q k ↔ Shortest v p q k
  rank↔Shortest B p q k rp rq pos =
      (λ x. separated→Shortest p q k rp rq (separated_of_rank (LowStep v) p q k pos x), λ x. back x ranked)
    where
      ranked : (r : ℕ) × (r < v.states) × Rank (LowStep v) p q r
      ranked = rank_exists (LowStep v) v.states round G p q (reachable_lt v B p rp)
          (reachable_lt v B q rq)

      same : Shortest v p q k → (r : ℕ) → Rank (LowStep v) p q r → r ≡ k
      same x r (bisimilar b) = absurd
          (just_one_not_both v.Step p q x.word x.just_one (bisimilar→SameLow v p q b x.word x.is_low))
      same x r (separated d y) = shortest_unique v p q r k (separated→Shortest p q r rp rq y) x

      back : Shortest v p q k → (r : ℕ) × (r < v.states) × Rank (LowStep v) p q r → Rank (LowStep v) p q k
      back x (r, l, y) = rw (same x r y) at y
