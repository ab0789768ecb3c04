-- The loops that make sets along steps, as far as they have come. Only the invariants of inner functions cite it.
use Rattle.std.specs.Prelude.{Bool, false, List, ◌≡◌, ℕ, ◌≤◌, ◌<◌, length, get_or}
use Rattle.lts.specs.Alike.{Relation}
use Rattle.lts.specs.View.{View}
use Rattle.lts.specs.Run.{Within}
use Rattle.lts.specs.Weak.{Silent}
use Rattle.text.specs.Limits.{state_limit}
use Rattle.sets.specs.Inner.Sets.{Member}
use Rattle.silent.specs.Labelled.{LabelStep, TickLabel}
use Rattle.silent.specs.Inner.Keys.{turn_place}

-- Members come along silent moves alone: each member of set p of the one list is a member of the other's set of a
-- state that a silent move leads to from p.
pub record AlongSilent (Tick : Relation) (n : ℕ) (entry exit : List ℕ) : Type 0 where
  pub only : (p x : ℕ) → p < state_limit → Member exit p x → (q : ℕ) × Silent Tick n p q × Member entry q x

-- A pass over the places from `begin` up to `end` has made its turns before i.
pub record SpreadTo (from sources targets : List ℕ) (n : ℕ) (backward : Bool) (begin end i : ℕ) (entry sets : List ℕ)
    : Type 0 where
  pub kept : (p x : ℕ) → Member entry p x → Member sets p x
  pub along : (j x : ℕ) → begin ≤ j → j < i → Member entry (get_or targets (turn_place backward begin end j) 0) x
      → Member sets (get_or sources (turn_place backward begin end j) 0) x
  pub silent : AlongSilent (TickLabel from sources targets) n entry sets

-- In its turns before i the set of each target lies within that of its source, unless a set has grown after it was
-- read: those that were read are marked.
pub record ClosedTo (sources targets : List ℕ) (backward : Bool) (begin end i : ℕ) (again : Bool) (marks sets : List ℕ)
    : Type 0 where
  pub marks_length : length marks ≡ state_limit
  pub marked : (j : ℕ) → begin ≤ j → j < i → get_or marks (get_or targets (turn_place backward begin end j) 0) 0 ≡ 1
  pub along : again ≡ false → (j x : ℕ) → begin ≤ j → j < i
      → Member sets (get_or targets (turn_place backward begin end j) 0) x
      → Member sets (get_or sources (turn_place backward begin end j) 0) x

-- The silent steps backward from q, as the steps of a view.
abbrev pub toward : Relation → ℕ → ℕ → View
toward Tick n q = record {
  levels = record {
    low? = λ _. false;
    release? = λ _. false;
    high? = λ _. false;
    silent? = λ _. false;
  };
  Step = λ x a y. (a ≡ 0) × Tick y x;
  Start = λ x. (x ≡ q) × (x < n);
  states = n;
}

-- Set p has got the members of the sets of all states that at most k silent steps lead to from p, and maybe some of
-- those that further ones lead to.
pub record ClosedWithin (Tick : Relation) (n k : ℕ) (entry sets : List ℕ) : Type 0 where
  pub near : (p q x : ℕ) → Within (toward Tick n q) k p → Member entry q x → Member sets p x
  pub silent : AlongSilent Tick n entry sets

-- The steps with the label a up to place i have been gathered from.
pub record GatheredTo (from sources targets : List ℕ) (a i : ℕ) (sets gathered : List ℕ) : Type 0 where
  pub reached : (j x : ℕ) → get_or from a 0 ≤ j → j < i → Member sets (get_or targets j 0) x
      → Member gathered (get_or sources j 0) x
  pub only : (p x : ℕ) → Member gathered p x → (q : ℕ) × LabelStep from sources targets a p q × Member sets q x

-- Sets below k have been gathered from the rows, and the others are as they were.
pub record RowsTo (rows entry : List ℕ) (k : ℕ) (sets : List ℕ) : Type 0 where
  pub reached : (p q x : ℕ) → p < k → Member rows p q → Member entry q x → Member sets p x
  pub only : (p x : ℕ) → p < k → Member sets p x → (q : ℕ) × Member rows p q × Member entry q x
  pub rest : (p x : ℕ) → k ≤ p → Member sets p x → Member entry p x
