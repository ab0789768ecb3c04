-- Thinned sequences, and the three properties of a view: BNID, NID and INI.
-- Document 01, "The meaning"; definitions 19 to 22 of source 000; document 02, (vii). Assumes nothing.
use Rattle.std.specs.Prelude.{◌↔◌, List, [], ◌∷◌, Bool, false, not, ◌&&◌, ◌||◌, cond, ℕ, T}
use Rattle.lts.specs.Alike.{Moves, Relation, Bisimilar}
use Rattle.lts.specs.View.{Levels, View}
use Rattle.lts.specs.Run.{Run, Allows, Reachable}
use Rattle.lts.specs.Weak.{WeakMove}

-- The action a is just one of low, release and high.
pub data Levelled (L : Levels) (a : ℕ) : Type 0 where
  low : T (L.low? a) → T (not (L.release? a)) → T (not (L.high? a)) → Levelled L a
  release : T (not (L.low? a)) → T (L.release? a) → T (not (L.high? a)) → Levelled L a
  high : T (not (L.low? a)) → T (not (L.release? a)) → T (L.high? a) → Levelled L a

-- The action of each reachable step is low, release or high.
abbrev pub LevelledSteps : View → Type 0
LevelledSteps v = (p a q : ℕ) → Reachable v p → v.Step p a q → Levelled v.levels a

-- w has a release.
unfoldable pub released? : Levels → List ℕ → Bool
released? L [] = false
released? L (a ∷ w) = L.release? a || released? L w

-- The thinned sequence of w: "each high action with no release later in the sequence is taken out; all else stays, in
-- order" (document 01). It is `ihide` of definition 19 of source 000, whose three equations `thin_snoc_low`,
-- `thin_snoc_high` and `thin_snoc_release` show.
unfoldable pub thin : Levels → List ℕ → List ℕ
thin L [] = []
thin L (a ∷ w) = cond (L.high? a && not (released? L w)) (thin L w) (a ∷ thin L w)

-- "A low sequence has low actions only" (document 01, "Possible").
unfoldable pub Low : Levels → List ℕ → Type 0
Low L [] = Unit {0}
Low L (a ∷ w) = T (L.low? a) × Low L w

-- p and q allow the same low sequences: low-view equivalent (section 4.2 of source 000).
abbrev pub SameLow : View → Relation
SameLow v p q = (w : List ℕ) → Low v.levels w → Allows v.Step p w ↔ Allows v.Step q w

-- Definition 22 of source 000, over any moves: the two ends of each reachable high step are bisimilar.
abbrev pub BNIDOver : Moves → View → Type 0
BNIDOver Move v = (p a q : ℕ) → Reachable v p → T (v.levels.high? a) → v.Step p a q → Bisimilar Move p q

-- It is over the moves that are played: "Ranks, bisimulations, classes and books use these moves" (document 02, (vii)).
abbrev pub BNID : View → Type 0
BNID v = BNIDOver (WeakMove v) v

-- Definition 21 of source 000: the two ends of each reachable high step allow the same low sequences.
abbrev pub NID : View → Type 0
NID v = (p a q : ℕ) → Reachable v p → T (v.levels.high? a) → v.Step p a q → SameLow v p q

-- A run of the thinned sequence of w leads from s to a state that E pairs with e.
abbrev pub ThinnedRun : View → Relation → ℕ → List ℕ → ℕ → Type 0
ThinnedRun v E s w e = (e' : ℕ) × Run v.Step s (thin v.levels w) e' × E e e'

-- Definition 20 of source 000: where a sequence can be run from a start, so can its thinned sequence, and the two ends
-- allow the same low sequences.
abbrev pub INI : View → Type 0
INI v = (s : ℕ) → v.Start s → (w : List ℕ) (e : ℕ) → Run v.Step s w e → ThinnedRun v (SameLow v) s w e

-- A run of the thinned sequence of w leads from s to a state bisimilar to e (document 02, (xii)).
abbrev pub ThinnedBisimilar : View → ℕ → List ℕ → ℕ → Type 0
ThinnedBisimilar v s w e = ThinnedRun v (Bisimilar (WeakMove v)) s w e
