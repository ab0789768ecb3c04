-- The test of a word of few actions, over all words up to its length, and of silent steps. Only the laws on the bench
-- models cite it.
-- Document 01, operation 6, "Deterministic" and "Possible"; document 02, (vii).
use Rattle.std.specs.Prelude.{Bool, true, false, not, ◌&&◌, ◌||◌, List, [], ◌∷◌, ℕ, zero, suc, eqb, ltb, length}
use Rattle.lts.specs.Tests.{all, any}
use Rattle.text.specs.Model.{silent, Model}
use Rattle.model.specs.System.{source, action, target, level, view}
use Rattle.model.specs.Inner.StepTest.{step?}
use Rattle.verdicts.specs.Inner.VerdictTest.{reachable?}
use Rattle.letters.specs.declared.word.End.{End}
use Rattle.letters.specs.Words.{end_state, other_state}

-- Steps i and j are one, or differ in source or action.
abbrev pub only_step? : Model → ℕ → ℕ → Bool
only_step? m i j = not (eqb (source m i) (source m j) && eqb (action m i) (action m j)) || eqb i j

-- No state has two steps of one action, whether it is reachable or not.
unfoldable pub unbranched? : Model → Bool
unbranched? m = all (length m.steps) (λ i. all (length m.steps) (only_step? m i))

-- No step below n is silent, whether it is reachable or not.
unfoldable pub still? : Model → ℕ → Bool
still? m n = all n (λ j. not (eqb (level m (action m j)) silent))

-- Step j is silent and can be reached, and no lower one is silent.
unfoldable pub first_silent? : Model → ℕ → Bool
first_silent? m j = let r = reachable? m (source m j) in eqb (level m (action m j)) silent && (r && still? m j)

-- The test of `Low`.
unfoldable pub low? : Model → List ℕ → Bool
low? m [] = true
low? m (a ∷ w) = (view m).levels.low? a && low? m w

-- The test of `Allows`.
unfoldable pub allows? : Model → ℕ → List ℕ → Bool
allows? m p [] = true
allows? m p (a ∷ w) = any m.head.states (λ q. let r = allows? m q w in step? m p a q && r)

-- The tests of `OnlyFrom` and of `JustOne`.
abbrev pub only_from? : Model → ℕ → ℕ → List ℕ → Bool
only_from? m p q w = allows? m p w && not (allows? m q w)

abbrev pub just_one? : Model → ℕ → ℕ → List ℕ → Bool
just_one? m p q w = only_from? m p q w || only_from? m q p w

-- The test of `NotAfter`.
unfoldable pub not_after? : List ℕ → List ℕ → Bool
not_after? [] v = true
not_after? (a ∷ u) [] = false
not_after? (a ∷ u) (b ∷ v) = ltb a b || (eqb a b && not_after? u v)

-- Each sequence of k of the l actions passes f.
unfoldable pub each_word? : ℕ → ℕ → (List ℕ → Bool) → Bool
each_word? l zero f = f []
each_word? l (suc k) f = all l (λ a. each_word? l k (λ w. f (a ∷ w)))

-- If the low sequence v is possible from just one of p and q, it is as long as w and not before it.
abbrev pub later? : Model → ℕ → ℕ → List ℕ → List ℕ → Bool
later? m p q w v = not (low? m v && just_one? m p q v) || (eqb (length v) (length w) && not_after? w v)

-- The test of `WordOf`.
unfoldable pub word_of? : Model → ℕ → List ℕ → End → Bool
word_of? m j w end =
    low? m w
    && (only_from? m (end_state m j end) (other_state m j end) w
    && all (suc (length w)) (λ k. each_word? m.head.actions k (later? m (source m j) (target m j) w)))
