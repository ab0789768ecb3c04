-- The pool while it is filled. Only the contracts of inner functions cite it.
use Rattle.std.specs.Prelude.{List, ◌⊎◌, ◌≡◌, ℕ, ◌≤◌, ◌<◌, get_or}
use Rattle.lts.specs.Alike.{Moves}
use Rattle.text.specs.Limits.{state_limit}
use Rattle.sets.specs.Inner.Sets.{Member}
use Rattle.sets.specs.Inner.SetValues.{In, SetOf}
use Rattle.sets.specs.declared.set.Set.{Set}
use Rattle.held.specs.Held.{slot_rows, pool_sets, slot_place, target_row, source_row}
use Rattle.held.specs.Held.{LabelIn, HeldAt, HeldLabel, Occupied}

-- The sets from `used` on are free, set 0 has no member, and the set of each row has its states.
pub record Pooled (used : ℕ) (slots pool : List ℕ) : Type 0 where
  pub some : 0 < used
  pub used_le : used ≤ pool_sets
  pub slot_lt : (i : ℕ) → get_or slots i 0 < used
  pub none : (x : ℕ) → ¬ (Member pool 0 x)
  pub occupied : Occupied slots pool

-- The same, and no two slots have one set, and free sets have no member: so a set can grow by itself.
pub record Separate (used : ℕ) (slots pool : List ℕ) : Type 0 where
  pub pooled : Pooled used slots pool
  pub own : (i j : ℕ) → 0 < get_or slots i 0 → get_or slots i 0 ≡ get_or slots j 0 → i ≡ j
  pub free : (k x : ℕ) → used ≤ k → k < pool_sets → ¬ (Member pool k x)

-- The slots from this place on have no set: rows are filled in their order, each once.
pub record FreeFrom (place : ℕ) (slots : List ℕ) : Type 0 where
  pub free : (i : ℕ) → place ≤ i → get_or slots i 0 ≡ 0

-- The places at which a shared set is looked for. Any numbers may stand there.
abbrev pub seen_length : ℕ
seen_length = 1024

-- All sets but k are as they were.
pub record OthersKept (k : ℕ) (pool pool' : List ℕ) : Type 0 where
  pub there : (j x : ℕ) → ¬ (j ≡ k) → Member pool j x → Member pool' j x
  pub back : (j x : ℕ) → ¬ (j ≡ k) → Member pool' j x → Member pool j x

-- Set `number` is s, one in use or the first free one, and only the free one may have changed.
pub record Shared (used number : ℕ) (s : Set) (pool pool' : List ℕ) : Type 0 where
  pub number_le : number ≤ used
  pub members : SetOf (Member pool' number) s
  pub kept : OthersKept used pool pool'

-- The sets of all rows but this one are as they were.
pub record RowsKept (row : ℕ) (slots pool slots' pool' : List ℕ) : Type 0 where
  pub there : (r p x : ℕ) → r < slot_rows → ¬ (r ≡ row) → p < state_limit → HeldAt slots pool r p x
      → HeldAt slots' pool' r p x
  pub back : (r p x : ℕ) → r < slot_rows → ¬ (r ≡ row) → p < state_limit → HeldAt slots' pool' r p x
      → HeldAt slots pool r p x

-- The sets of all labels but a are as they were.
pub record LabelsKept (a : ℕ) (slots pool slots' pool' : List ℕ) : Type 0 where
  pub there : (r p x : ℕ) → r < slot_rows → ¬ (r ≡ target_row a) → ¬ (r ≡ source_row a) → p < state_limit
      → HeldAt slots pool r p x → HeldAt slots' pool' r p x
  pub back : (r p x : ℕ) → r < slot_rows → ¬ (r ≡ target_row a) → ¬ (r ≡ source_row a) → p < state_limit
      → HeldAt slots' pool' r p x → HeldAt slots pool r p x

-- The set of each state below `to` in this row is that of the list.
pub record RowHeld (sets : List ℕ) (row to : ℕ) (slots pool : List ℕ) : Type 0 where
  pub all : (p x : ℕ) → p < to → Member sets p x → HeldAt slots pool row p x
  pub only : (p x : ℕ) → p < to → HeldAt slots pool row p x → Member sets p x

-- The set of p in this row has become s, and all other sets are as they were.
pub record SetHeld (row p : ℕ) (s : Set) (slots pool slots' pool' : List ℕ) : Type 0 where
  pub all : (x : ℕ) → In s x → HeldAt slots' pool' row p x
  pub only : (x : ℕ) → HeldAt slots' pool' row p x → In s x
  pub there : (i x : ℕ) → ¬ (i ≡ slot_place row p) → Member pool (get_or slots i 0) x → Member pool'
      (get_or slots' i 0) x
  pub back : (i x : ℕ) → ¬ (i ≡ slot_place row p) → Member pool' (get_or slots' i 0) x → Member pool
      (get_or slots i 0) x

-- The set of p in this row has got the member x, and nothing else has changed.
pub record MemberAdded (row p x : ℕ) (slots pool slots' pool' : List ℕ) : Type 0 where
  pub added : HeldAt slots' pool' row p x
  pub there : (i y : ℕ) → Member pool (get_or slots i 0) y → Member pool' (get_or slots' i 0) y
  pub back : (i y : ℕ) → Member pool' (get_or slots' i 0) y
      → Member pool (get_or slots i 0) y ⊎ ((i ≡ slot_place row p) × (y ≡ x))

-- The labels of the list, rising and below `to`, are held, and every action below `to` that has moves is among them.
pub record HeldTo (Move : Moves) (to : ℕ) (labels : List ℕ) (count : ℕ) (slots pool : List ℕ) : Type 0 where
  pub count_le : count ≤ to
  pub label_lt : (i : ℕ) → i < count → get_or labels i 0 < to
  pub rising : (i j : ℕ) → i < j → j < count → get_or labels i 0 < get_or labels j 0
  pub listed : (p a q : ℕ) → a < to → Move p a q → LabelIn labels count a
  pub held : (i : ℕ) → i < count → HeldLabel Move slots pool (get_or labels i 0)
