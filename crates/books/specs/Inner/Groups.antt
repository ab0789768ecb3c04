-- Moves by state and action. Only the contracts of inner functions cite it.
use Rattle.std.specs.Prelude.{List, ◌≡◌, ℕ, ◌+◌, ◌≤◌, ◌<◌, length, get_or}
use Rattle.text.specs.Limits.{state_limit, action_limit, step_limit, group_place, groups_length}
use Rattle.by_state.specs.MoveList.{Listed}

-- The moves of p with the action a are a group: they stand from place groups[64p + a] up to place groups[64p + a + 1].
pub record InGroup (groups : List ℕ) (p a i : ℕ) : Type 0 where
  pub state_lt : p < state_limit
  pub action_lt : a < action_limit
  pub from_le : get_or groups (group_place p a) 0 ≤ i
  pub to_lt : i < get_or groups (group_place p a + 1) 0

-- Some place of that group has the target q.
pub record Indexed (groups targets : List ℕ) (p a q : ℕ) : Type 0 where
  pub place : ℕ
  pub in_group : InGroup groups p a place
  pub target_is : get_or targets place 0 ≡ q

-- The list has just the targets of the moves of p with the action a.
pub record GroupTargets (groups targets : List ℕ) (p a : ℕ) (xs : List ℕ) : Type 0 where
  pub sound : (i : ℕ) → i < length xs → Indexed groups targets p a (get_or xs i 0)
  pub complete : (q : ℕ) → Indexed groups targets p a q → (i : ℕ) × (i < length xs) × (get_or xs i 0 ≡ q)
  pub target_lt : (i : ℕ) → i < length xs → get_or xs i 0 < state_limit

-- Each place of a group has a state as its target.
pub record Groups (groups targets : List ℕ) : Type 0 where
  pub place_le : (k : ℕ) → k < groups_length → get_or groups k 0 ≤ step_limit
  pub target_lt : (k i : ℕ) → k < groups_length → i < get_or groups k 0 → get_or targets i 0 < state_limit

-- The groups are those of the listed moves.
pub record IndexOf (n : ℕ) (first actions targets groups : List ℕ) : Type 0 where
  pub groups_are : Groups groups targets
  pub forth : (p a q : ℕ) → Listed n first actions targets p a q → Indexed groups targets p a q
  pub back : (p a q : ℕ) → Indexed groups targets p a q → Listed n first actions targets p a q

-- ---- the index on its way

-- Place i has a move of p.
pub record PlaceOf (n : ℕ) (first : List ℕ) (p i : ℕ) : Type 0 where
  pub source_lt : p < n
  pub first_le : get_or first p 0 ≤ i
  pub place_lt : i < get_or first (p + 1) 0

-- Place `at` parts the moves whose state and action come before group k from the others.
pub record GroupAt (n : ℕ) (first actions : List ℕ) (k at : ℕ) : Type 0 where
  pub first_le : get_or first 0 0 ≤ at
  pub at_le : at ≤ get_or first n 0
  pub below : (p i : ℕ) → PlaceOf n first p i → i < at → group_place p (get_or actions i 0) < k
  pub above : (p i : ℕ) → PlaceOf n first p i → at ≤ i → k ≤ group_place p (get_or actions i 0)

-- Each group is there.
pub record GroupsAt (n : ℕ) (first actions groups : List ℕ) : Type 0 where
  pub group_at : (j : ℕ) → j < groups_length → GroupAt n first actions j (get_or groups j 0)

-- The groups before group k are there, and the moves before place i come before group k.
pub record IndexedTo (n : ℕ) (first actions groups : List ℕ) (k i : ℕ) : Type 0 where
  pub group_at : (j : ℕ) → j < k → GroupAt n first actions j (get_or groups j 0)
  pub before : (p j : ℕ) → PlaceOf n first p j → j < i → group_place p (get_or actions j 0) < k

-- From place `from` on up to place `next` the list has the value; the places before are as they were. It goes at least
-- to place `to`, and no further than that unless it began further on.
pub record Given (from to value next : ℕ) (entry exit : List ℕ) : Type 0 where
  pub from_le : from ≤ next
  pub to_le : to ≤ next
  pub no_further : (i : ℕ) → from ≤ i → i < next → i < to
  pub value_is : (i : ℕ) → from ≤ i → i < next → get_or exit i 0 ≡ value
  pub kept : (i : ℕ) → i < from → get_or exit i 0 ≡ get_or entry i 0
