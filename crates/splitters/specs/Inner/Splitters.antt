-- A round: classes are divided by the moves to the classes that the round before made. A class that it left as it was
-- divides nothing more: states of one class have moves to it together. Of what it divided, one part kept the number,
-- and a state has a move to that part or to a new one if the states of its class have one to the whole; so the part
-- that kept the number matters only to states that have a move to a new one. Only the contracts of inner functions cite
-- it.
use Rattle.std.specs.Prelude.{Bool, true, false, List, ◌≡◌, ℕ, ◌+◌, ◌-◌, ◌≤◌, ◌<◌, get_or}
use Rattle.lts.specs.Alike.{Moves, Relation}
use Rattle.lts.specs.Game.{Separates}
use Rattle.text.specs.Limits.{state_limit}
use Rattle.by_state.specs.Inner.Numbered.{Same}
use Rattle.sets.specs.Inner.Sets.{Member}
use Rattle.sets.specs.Inner.SetValues.{In, SomeMember}
use Rattle.sets.specs.declared.set.Set.{Set}
use Rattle.held.specs.Held.{row_set, slot_place, source_row, HeldAt}
use Rattle.ranking.specs.Inner.ClassList.{Classes, Refined, RoundSeparates}
use Rattle.ranking.specs.Inner.TableWrites.{RanksUpTo}
use Rattle.tree.specs.Inner.Tree.{Tree, Apart, UnderSets}
use Rattle.splitters.specs.Inner.Partition.{Partition, home}

-- Classes from `first` on are new, and have noted what they were a part of. States of one class have moves together to
-- each class that is not new, taken with the new ones divided off it.
pub record Stable (Move : Moves) (n first : ℕ) (class origin : List ℕ) : Type 0 where
  pub together : (p q a t : ℕ) → p < n → q < n → Same class p q → Move p a t → get_or class t 0 < first
      → (u : ℕ) × Move q a u × (home first origin (get_or class u 0) ≡ get_or class t 0)

-- Set k of the list, from `first` up to `to`, has just the members that Is k holds of.
pub record SetsOf (Is : Relation) (first to : ℕ) (sets : List ℕ) : Type 0 where
  pub all : (k p : ℕ) → first ≤ k → k < to → Is k p → Member sets k p
  pub only : (k p : ℕ) → first ≤ k → k < to → Member sets k p → Is k p

-- The new classes, and the classes that they were divided off, as sets.
pub record Fresh (first classes : ℕ) (members origin fresh rest : List ℕ) : Type 0 where
  pub new_sets : SetsOf (Member members) first classes fresh
  pub rest_sets : SetsOf (λ j. Member members (get_or origin j 0)) first classes rest

-- The sets of a list below `to` are as they were.
pub record SetsKept (to : ℕ) (entry exit : List ℕ) : Type 0 where
  pub kept : (j p : ℕ) → j < to → Member entry j p → Member exit j p
  pub only : (j p : ℕ) → j < to → Member exit j p → Member entry j p

-- ---- sets of states

-- In this row the set of p and s have a common member.
pub record LeadsInto (slots pool : List ℕ) (row : ℕ) (s : Set) (p : ℕ) : Type 0 where
  pub target : ℕ
  pub held : HeldAt slots pool row p target
  pub in_set : In s target

-- In this row p is in the set of some member of s.
abbrev pub LedFrom : List ℕ → List ℕ → ℕ → Set → ℕ → Type 0
LedFrom slots pool row = SomeMember (HeldAt slots pool row)

-- Set q has at least the numbers, in the list, of the labels of moves into q.
pub record Into (labels : List ℕ) (count : ℕ) (slots into : List ℕ) : Type 0 where
  pub noted : (i q : ℕ) → i < count → q < state_limit
      → ¬ (get_or slots (slot_place (source_row (get_or labels i 0)) q) 0 ≡ 0) → Member into q i

-- The sets have got this number for each state of the set of the row, and have kept theirs.
pub record RowNoted (pool : List ℕ) (row i : ℕ) (entry exit : List ℕ) : Type 0 where
  pub noted : (q : ℕ) → Member pool (row_set row) q → Member exit q i
  pub kept : (q x : ℕ) → Member entry q x → Member exit q x

-- ---- rounds

-- The round that separated the classes of two states.
abbrev pub apart_of : (ℕ → ℕ → ℕ) → List ℕ → ℕ → ℕ → ℕ
apart_of apart class p q = apart (get_or class p 0) (get_or class q 0)

-- The splitting tree after k rounds, and the rounds that separated its classes. Those from `first` on are new, and
-- nothing was divided off them; the sets have the states under each of the others.
pub record Grown (n k first classes : ℕ) (class origin sets when : List ℕ) : Type 0 where
  pub tree : Tree classes origin when
  pub origin_old : (c : ℕ) → 0 < c → c < classes → get_or origin c 0 < first
  pub when_le : (c : ℕ) → 0 < c → c < classes → get_or when c 0 ≤ k
  pub under : UnderSets n first class origin sets
  pub apart : ℕ → ℕ → ℕ
  pub apart_is : Apart classes origin when apart

-- What a round finds after k of them: the classes of k-alike states, and the ranks up to k.
pub record Ready (Move : Moves) (n k first : ℕ) (class members origin under when : List ℕ) (classes : ℕ)
    (together : Set) : Type 0 where
  pub are_classes : Classes Move n k class
  pub partition : Partition n class members classes together
  pub stable : Stable Move n first class origin
  pub origin_lt : (j : ℕ) → first ≤ j → j < classes → get_or origin j 0 < classes
  pub first_le : first ≤ classes
  pub grown : Grown n k first classes class origin under when
  pub ranks : RanksUpTo Move n k (apart_of grown.apart class)

-- What it leaves: the same one round later, where the further classes are new. There are any exactly if it separates a
-- pair.
pub record Rounded (Move : Moves) (n k : ℕ) (class next members origin under when : List ℕ) (classes classes' : ℕ)
    (together : Set) : Type 0 where
  pub refined : Refined Move n class next
  pub separates : RoundSeparates Move n k (classes' - classes)
  pub ready : Ready Move n (k + 1) classes next members origin under when classes' together

-- After k rounds, each of which separated a pair, so that there are more than k classes: what a further one finds.
pub record Rounds (Move : Moves) (n k first : ℕ) (class members origin under when : List ℕ) (classes : ℕ)
    (together : Set) : Type 0 where
  pub ready : Ready Move n k first class members origin under when classes together
  pub rounds_lt : k < classes
  pub separates : (j : ℕ) → j < k → Separates Move n j

-- What the last round leaves, which makes no further class; each one before it separated a pair.
pub record LastRounded (Move : Moves) (n last : ℕ) (class members origin under when : List ℕ) (classes : ℕ) : Type 0
  where
    pub before : List ℕ
    pub together : Set
    pub rounded : Rounded Move n last before class members origin under when classes classes together
    pub separates : (j : ℕ) → j < last → Separates Move n j

-- What a round tells of itself: it made further classes, which are the new ones, and is counted, or it made none.
pub record Counted (told : Bool) (k classes k' first' classes' : ℕ) : Type 0 where
  pub more : told ≡ true → (classes < classes') × (k' ≡ k + 1) × (first' ≡ classes)
  pub none : told ≡ false → (classes' ≡ classes) × (k' ≡ k)
