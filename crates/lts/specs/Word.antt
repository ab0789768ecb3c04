-- Words that tell two states apart: low sequences that just one of them allows, the shortest of them, and of these the
-- first by action numbers. Document 01, operation 6. Assumes nothing.
use Rattle.std.specs.Prelude.{◌≡◌, ◌⊎◌, ◌↔◌, List, [], ◌∷◌, ℕ, ◌≤◌, ◌<◌, length}
use Rattle.lts.specs.Alike.{Moves}
use Rattle.lts.specs.View.{View}
use Rattle.lts.specs.Run.{Allows}
use Rattle.lts.specs.Noninterference.{Low}

-- w is possible from p and not from q.
abbrev pub OnlyFrom : Moves → ℕ → ℕ → List ℕ → Type 0
OnlyFrom Step p q w = Allows Step p w × ¬ (Allows Step q w)

-- w is "possible from just one" of p and q (document 01, operation 6).
abbrev pub JustOne : Moves → ℕ → ℕ → List ℕ → Type 0
JustOne Step p q w = OnlyFrom Step p q w ⊎ OnlyFrom Step q p w

-- k is the length of the shortest low sequences possible from just one of p and q.
pub record Shortest (v : View) (p q k : ℕ) : Type 0 where
  pub word : List ℕ
  pub is_low : Low v.levels word
  pub length_is : length word ≡ k
  pub just_one : JustOne v.Step p q word
  pub none_shorter : (w : List ℕ) → Low v.levels w → length w < k → Allows v.Step p w ↔ Allows v.Step q w

-- w does not come after u by action numbers.
unfoldable pub NotAfter : List ℕ → List ℕ → Type 0
NotAfter [] u = Unit {0}
NotAfter (a ∷ w) [] = ⊥
NotAfter (a ∷ w) (b ∷ u) = (a < b) ⊎ ((a ≡ b) × NotAfter w u)

-- w is "among the shortest low sequences possible from just one" of p and q "the first by action numbers" (document 01,
-- operation 6).
pub record FirstWord (v : View) (p q : ℕ) (w : List ℕ) : Type 0 where
  pub is_low : Low v.levels w
  pub just_one : JustOne v.Step p q w
  pub shortest : (u : List ℕ) → Low v.levels u → JustOne v.Step p q u → length w ≤ length u
  pub first : (u : List ℕ) → Low v.levels u → JustOne v.Step p q u → length u ≡ length w → NotAfter w u
