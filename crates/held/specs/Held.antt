-- Moves as sets: for each label and state, the targets of its moves and the sources of the moves to it. The sets stand
-- in a pool, and the slots have the number of each: there are too many labels and states for a place each, but not too
-- many sets that have members. Document 02, (vii).
use Rattle.std.specs.Prelude.{Bool, true, false, List, ◌⊎◌, ◌≡◌, ℕ, ◌+◌, ◌*◌, ◌≤◌, ◌<◌, ltb, get_or}
use Rattle.lts.specs.Alike.{Moves}
use Rattle.lts.specs.Weak.{silent_label}
use Rattle.text.specs.Limits.{state_limit, action_limit}
use Rattle.sets.specs.Inner.Sets.{Member}

-- The labels: the actions, and that of the silent moves.
abbrev pub label_count : ℕ
label_count = action_limit + 1

-- Two rows for each label.
abbrev pub slot_rows : ℕ
slot_rows = 2 * label_count

-- The sets of the pool that slots have. Set 0 has no member.
abbrev pub pool_sets : ℕ
pool_sets = 2432

-- Behind them the pool has a set for each row.
abbrev pub row_set : ℕ → ℕ
row_set row = pool_sets + row

-- A row has a slot for each state.
abbrev pub slot_place : ℕ → ℕ → ℕ
slot_place row p = state_limit * row + p

-- How many slots there are, and how many words of sets.
abbrev pub slots_length : ℕ
slots_length = slot_rows * state_limit

abbrev pub pool_length : ℕ
pool_length = 2 * row_set slot_rows

-- The label a is one of the first `count` of the list.
abbrev pub LabelIn : List ℕ → ℕ → ℕ → Type 0
LabelIn labels count a = (i : ℕ) × (i < count) × (get_or labels i 0 ≡ a)

-- x is a member of the set of p in this row.
abbrev pub HeldAt : List ℕ → List ℕ → ℕ → ℕ → ℕ → Type 0
HeldAt slots pool row p x = Member pool (get_or slots (slot_place row p) 0) x

-- The set of a row is that of the states with a set of their own in it, and each of these sets has a member.
pub record Occupied (slots pool : List ℕ) : Type 0 where
  pub marked : (row p : ℕ) → p < state_limit → ¬ (get_or slots (slot_place row p) 0 ≡ 0) → Member pool (row_set row) p
  pub some : (row p : ℕ) → Member pool (row_set row) p → (x : ℕ) × HeldAt slots pool row p x

-- The first if the test holds, and else the second.
abbrev pub chosen : Bool → ℕ → ℕ → ℕ
chosen true x y = x
chosen false x y = y

-- The row of the targets of the moves with the label a. The silent label comes behind the actions.
abbrev pub target_row : ℕ → ℕ
target_row a = 2 * chosen (ltb a action_limit) a action_limit

-- The row of their sources.
abbrev pub source_row : ℕ → ℕ
source_row a = target_row a + 1

-- The moves with the label a are held: from p in its targets' row, and to q in its sources' row.
pub record HeldLabel (Move : Moves) (slots pool : List ℕ) (a : ℕ) : Type 0 where
  pub target : (p q : ℕ) → Move p a q → HeldAt slots pool (target_row a) p q
  pub target_only : (p q : ℕ) → p < state_limit → HeldAt slots pool (target_row a) p q → Move p a q
  pub source : (p q : ℕ) → Move p a q → HeldAt slots pool (source_row a) q p
  pub source_only : (p q : ℕ) → q < state_limit → HeldAt slots pool (source_row a) q p → Move p a q

-- The one row has the sets of the other turned round.
pub record Turned (slots pool : List ℕ) (row back : ℕ) : Type 0 where
  pub there : (p q : ℕ) → p < state_limit → HeldAt slots pool row p q → HeldAt slots pool back q p
  pub again : (p q : ℕ) → q < state_limit → HeldAt slots pool back q p → HeldAt slots pool row p q

-- Sets of moves among n states, for the labels of the list, which rise.
pub record HeldList (n : ℕ) (labels : List ℕ) (count : ℕ) (slots pool : List ℕ) : Type 0 where
  pub some_state : 0 < n
  pub states_le : n ≤ state_limit
  pub count_le : count ≤ label_count
  pub label : (i : ℕ) → i < count → (get_or labels i 0 < action_limit) ⊎ (get_or labels i 0 ≡ silent_label)
  pub rising : (i j : ℕ) → i < j → j < count → get_or labels i 0 < get_or labels j 0
  pub slot_lt : (i : ℕ) → get_or slots i 0 < pool_sets
  pub none : (x : ℕ) → ¬ (Member pool 0 x)
  pub occupied : Occupied slots pool
  pub state_lt : (i p q : ℕ) → i < count → p < state_limit → HeldAt slots pool (target_row (get_or labels i 0)) p q
      → (p < n) × (q < n)
  pub turned : (i : ℕ) → i < count → Turned slots pool (target_row (get_or labels i 0)) (source_row (get_or labels i 0))

-- The moves that are held.
pub record HeldMove (labels : List ℕ) (count : ℕ) (slots pool : List ℕ) (p a q : ℕ) : Type 0 where
  pub source_lt : p < state_limit
  pub number : ℕ
  pub number_lt : number < count
  pub label_is : get_or labels number 0 ≡ a
  pub held : HeldAt slots pool (target_row a) p q

-- They are just these moves.
pub record HeldAs (Move : Moves) (labels : List ℕ) (count : ℕ) (slots pool : List ℕ) : Type 0 where
  pub sound : (p a q : ℕ) → HeldMove labels count slots pool p a q → Move p a q
  pub complete : (p a q : ℕ) → Move p a q → HeldMove labels count slots pool p a q
