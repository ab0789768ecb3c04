-- Two reachable states of a deterministic model that some round separates have a first word by action numbers among the
-- shortest: the lowest letter that will do is found by a test, and the targets have theirs. Document 01, operation 6.
-- Assumes nothing.
use Rattle.std.specs.Prelude.{refl, ◌⊎◌, List, [], ◌∷◌, Bool, not, ◌&&◌, ◌||◌, ℕ, zero, suc, ◌≤◌, ◌<◌, T}
use Rattle.std.proofs.Common.{inl, inr, arith, T_not}
use Rattle.std.proofs.Math.Dec.{not_T}
use Rattle.lts.specs.Tests.{any, Least}
use Rattle.lts.proofs.TestsLaws.{and_intro, and_left, and_right, or_left, or_right, or_cases, any→Some, Some→any}
use Rattle.lts.proofs.TestsLaws.{least_of_passes}
use Rattle.lts.specs.Alike.{Alike, Separated}
use Rattle.lts.proofs.AlikeLaws.{separated_pos}
use Rattle.lts.specs.Game.{Game, alike?}
use Rattle.lts.proofs.GameLaws.{¬Alike→not_alike?, not_alike?→¬Alike}
use Rattle.lts.specs.View.{View}
use Rattle.lts.specs.Run.{Run, Allows, Reachable, onward, Deterministic}
use Rattle.lts.specs.Weak.{LowStep}
use Rattle.lts.specs.Decided.{ViewTest, DecidedView}
use Rattle.lts.specs.Checked.{low_step?, low_round}
use Rattle.lts.proofs.CheckedLaws.{decided_low, low_game}
use Rattle.lts.specs.Word.{OnlyFrom, JustOne, FirstWord}
use Rattle.lts.proofs.FirstWordLaws.{first_word_one, first_word_cons, targets_separated}
use Rattle.lts.proofs.FirstWordLaws.{letter_of_separated_one, letter_of_separated}

module _ (v : View) (tests : ViewTest) (D : DecidedView v tests) (det : Deterministic v) where
  abbrev n : ℕ
  n = v.states

  abbrev step? : ℕ → ℕ → ℕ → Bool
  step? = tests.step?

  abbrev move? : ℕ → ℕ → ℕ → Bool
  move? = low_step? v tests

  abbrev round : (ℕ → ℕ → Bool) → ℕ → ℕ → Bool
  round = low_round v tests

  G : Game (LowStep v) n round
  G = low_game v tests D

  -- ---- the last letter

  -- p has a step with the action a.
  abbrev has? : ℕ → ℕ → Bool
  has? p a = any n (step? p a)

  has?→Allows : (p a : ℕ) → T (has? p a) → Allows v.Step p (a ∷ [])
  unfolding Run
  has?→Allows p a t = let x = any→Some n (step? p a) t in (x.0, (x.0, D.steps.move?→Move p a x.0 x.2, refl))

  Allows→has? : (p a : ℕ) → Allows v.Step p (a ∷ []) → T (has? p a)
  unfolding Run
  Allows→has? p a (e, (x, s, h)) = Some→any n (step? p a) x (D.steps.target_lt p a x s) (D.steps.Move→move? p a x s)

  abbrev only? : ℕ → ℕ → ℕ → Bool
  only? p q a = has? p a && not (has? q a)

  only?→OnlyFrom : (p q a : ℕ) → T (only? p q a) → OnlyFrom v.Step p q (a ∷ [])
  only?→OnlyFrom p q a t = (
    has?→Allows p a (and_left (has? p a) (not (has? q a)) t),
    λ x. T_not (has? q a) (and_right (has? p a) (not (has? q a)) t) (Allows→has? q a x),
  )

  OnlyFrom→only? : (p q a : ℕ) → OnlyFrom v.Step p q (a ∷ []) → T (only? p q a)
  OnlyFrom→only? p q a (x, y) =
      and_intro (has? p a) (not (has? q a)) (Allows→has? p a x) (not_T (has? q a) (λ t. y (has?→Allows q a t)))

  -- Just one of p and q has the low action a.
  abbrev just? : ℕ → ℕ → ℕ → Bool
  just? p q a = v.levels.low? a && (only? p q a || only? q p a)

  just?→JustOne : (p q a : ℕ) → T (just? p q a) → JustOne v.Step p q (a ∷ [])
  just?→JustOne p q a t =
      go (or_cases (only? p q a) (only? q p a) (and_right (v.levels.low? a) (only? p q a || only? q p a) t))
    where
      go : T (only? p q a) ⊎ T (only? q p a) → JustOne v.Step p q (a ∷ [])
      go (inl u) = inl (only?→OnlyFrom p q a u)
      go (inr u) = inr (only?→OnlyFrom q p a u)

  JustOne→just? : (p q a : ℕ) → T (v.levels.low? a) → JustOne v.Step p q (a ∷ []) → T (just? p q a)
  JustOne→just? p q a t (inl x) = and_intro (v.levels.low? a) (only? p q a || only? q p a) t
      (or_left (only? p q a) (only? q p a) (OnlyFrom→only? p q a x))
  JustOne→just? p q a t (inr x) = and_intro (v.levels.low? a) (only? p q a || only? q p a) t
      (or_right (only? p q a) (only? q p a) (OnlyFrom→only? q p a x))

  first_word_last : (p q : ℕ) → Separated (LowStep v) p q 1 → (w : List ℕ) × FirstWord v p q w
  first_word_last p q s =
      let x = letter_of_separated_one v round G det p q s in
      let m = least_of_passes (just? p q) x.0 (JustOne→just? p q x.0 x.1 x.2) in
      let b = m.0 in (
        b ∷ [],
        first_word_one v p q b (and_left (v.levels.low? b) (only? p q b || only? q p b) m.2.passes)
            (just?→JustOne p q b m.2.passes)
            (λ c h lc j. T_not (just? p q c) (m.2.none_below c h) (JustOne→just? p q c lc j)),
      )

  -- ---- a letter before the last

  -- The action a leads from p to x and from q to y, which are not k-alike.
  abbrev targets? : ℕ → ℕ → ℕ → ℕ → ℕ → ℕ → Bool
  targets? k p q a x y = (move? p a x && move? q a y) && not (alike? round k x y)

  -- The action a has such targets.
  abbrev letter? : ℕ → ℕ → ℕ → ℕ → Bool
  letter? k p q a = any n (λ x. any n (targets? k p q a x))

  -- Targets of p and of q under the action a that are not k-alike: a can be the next letter of a word.
  record Letter (k p q a : ℕ) : Type 0 where
    first : ℕ
    second : ℕ
    move_first : LowStep v p a first
    move_second : LowStep v q a second
    not_alike : ¬ (Alike (LowStep v) k first second)

  letter?→Letter : (k p q a : ℕ) → T (letter? k p q a) → Letter k p q a
  letter?→Letter k p q a t =
      let i = any→Some n (λ x. any n (targets? k p q a x)) t in
      let x = i.0 in
      let j = any→Some n (targets? k p q a x) i.2 in
      let y = j.0 in
      let u = and_left (move? p a x && move? q a y) (not (alike? round k x y)) j.2 in
      let M = decided_low v tests D in
      record {
        first = x;
        second = y;
        move_first = M.move?→Move p a x (and_left (move? p a x) (move? q a y) u);
        move_second = M.move?→Move q a y (and_right (move? p a x) (move? q a y) u);
        not_alike = not_alike?→¬Alike (LowStep v) n round G k x y
            (and_right (move? p a x && move? q a y) (not (alike? round k x y)) j.2);
      }

  Letter→letter? : (k p q a : ℕ) → Letter k p q a → T (letter? k p q a)
  Letter→letter? k p q a z =
      let x = z.first in
      let y = z.second in
      let M = decided_low v tests D in
      let u = and_intro (move? p a x) (move? q a y) (M.Move→move? p a x z.move_first)
      (M.Move→move? q a y z.move_second) in
      let w = ¬Alike→not_alike? (LowStep v) n round G k x y z.not_alike in
      Some→any n (λ x. any n (targets? k p q a x)) x (M.target_lt p a x z.move_first)
      (Some→any n (targets? k p q a x) y (M.target_lt q a y z.move_second)
      (and_intro (move? p a x && move? q a y) (not (alike? round k x y)) u w))

  pub first_word_exists : (k p q : ℕ) → Reachable v p → Reachable v q → Separated (LowStep v) p q k
      → (w : List ℕ) × FirstWord v p q w
  first_word_exists zero p q rp rq s = absurd (omega (arith, separated_pos (LowStep v) p q 0 s))
  first_word_exists (suc zero) p q rp rq s = first_word_last p q s
  first_word_exists (suc (suc k)) p q rp rq s = go (first_word_exists (suc k))
    where
      found : (b x y : ℕ) → LowStep v p b x → LowStep v q b y → Separated (LowStep v) x y (suc k)
          → T (letter? (suc k) p q b)
      found b x y m o d = Letter→letter? (suc k) p q b
          (record { first = x; second = y; move_first = m; move_second = o; not_alike = d.not_alike })

      some : (a : ℕ) × T (letter? (suc k) p q a)
      some =
          let (b, x, y, m, o, d) = letter_of_separated v round G det k p q rq s in
          (b, found b x y m o d)

      least : (a : ℕ) × (a ≤ some.0) × Least (letter? (suc k) p q) a
      least = least_of_passes (letter? (suc k) p q) some.0 some.1

      a : ℕ
      a = least.0

      z : Letter (suc k) p q a
      z = letter?→Letter (suc k) p q a least.2.passes

      none_lower : (b x y : ℕ) → b < a → LowStep v p b x → LowStep v q b y → ¬ (Separated (LowStep v) x y (suc k))
      none_lower b x y h m o d = T_not (letter? (suc k) p q b) (least.2.none_below b h) (found b x y m o d)

      go : ((p q : ℕ) → Reachable v p → Reachable v q → Separated (LowStep v) p q (suc k)
          → (w : List ℕ) × FirstWord v p q w) → (w : List ℕ) × FirstWord v p q w
      go ih =
          let d = targets_separated v round G det k p q a z.first z.second rq s z.move_first
          z.move_second z.not_alike in
          let w = ih z.first z.second (onward rp z.move_first.1) (onward rq z.move_second.1) d in (
            a ∷ w.0,
            first_word_cons v round G det k p q a z.first z.second w.0 rp rq s
                z.move_first z.move_second d none_lower w.1,
          )
