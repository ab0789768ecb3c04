-- Splits by the moves to the new classes, and to those that they were divided off. Only the contracts of inner
-- functions cite it.
use Rattle.std.specs.Prelude.{List, ◌≡◌, ℕ, ◌≤◌, ◌<◌}
use Rattle.by_state.specs.Inner.Numbered.{Same}
use Rattle.sets.specs.Inner.Sets.{Member}
use Rattle.held.specs.Held.{LabelIn, target_row, HeldAt}
use Rattle.splitters.specs.Inner.Partition.{HomesKept}

-- p has a move of this row into set j of the list.
abbrev pub IntoSet : List ℕ → List ℕ → ℕ → List ℕ → ℕ → ℕ → Type 0
IntoSet slots pool row sets j p = (t : ℕ) × HeldAt slots pool row p t × Member sets j t

-- Each such move of p is one of q, with labels and new classes that Used holds of.
pub record SameMoves (slots pool : List ℕ) (Used : ℕ → ℕ → Type 0) (fresh rest : List ℕ) (p q : ℕ) : Type 0 where
  pub to_fresh : (j a : ℕ) → Used j a → IntoSet slots pool (target_row a) fresh j p
      → IntoSet slots pool (target_row a) fresh j q
  pub to_rest : (j a : ℕ) → Used j a → IntoSet slots pool (target_row a) rest j p
      → IntoSet slots pool (target_row a) rest j q

-- `next` divides the classes by the moves with the labels and to the new classes that Used holds of, and keeps together
-- what has the same such moves.
pub record SplitUnder (n : ℕ) (slots pool : List ℕ) (Used : ℕ → ℕ → Type 0) (fresh rest class next : List ℕ) : Type 0
  where
    pub same_before : (p q : ℕ) → p < n → q < n → Same next p q → Same class p q
    pub one : (j a p q : ℕ) → Used j a → p < n → q < n → Same next p q → IntoSet slots pool (target_row a) fresh j p
        → IntoSet slots pool (target_row a) fresh j q
    pub other : (j a p q : ℕ) → Used j a → p < n → q < n → Same next p q → IntoSet slots pool (target_row a) fresh j p
        → IntoSet slots pool (target_row a) rest j p → IntoSet slots pool (target_row a) rest j q
    pub stay : (p q : ℕ) → p < n → q < n → Same class p q → SameMoves slots pool Used fresh rest p q
        → SameMoves slots pool Used fresh rest q p → Same next p q

-- New class j has been used with each label of the list.
abbrev pub UsedClass : ℕ → List ℕ → ℕ → ℕ → ℕ → Type 0
UsedClass j labels count k b = (k ≡ j) × LabelIn labels count b

-- So have those from `first` up to j.
abbrev pub UsedLabels : ℕ → ℕ → List ℕ → ℕ → ℕ → ℕ → Type 0
UsedLabels first j labels count k b = (first ≤ k) × (k < j) × LabelIn labels count b

-- All that a round's splits do, with the labels and to the new classes that Used holds of.
pub record UsedSplit (n old : ℕ) (slots pool : List ℕ) (Used : ℕ → ℕ → Type 0)
    (fresh rest class origin class' origin' : List ℕ) : Type 0 where
  pub under : SplitUnder n slots pool Used fresh rest class class'
  pub homes : HomesKept n old origin class origin' class'
