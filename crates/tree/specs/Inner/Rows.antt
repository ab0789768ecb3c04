-- The table by classes: entry 128c + x is of class c and state x. How its rows are made from the splitting tree, and
-- copied for the states. Only the contracts of inner functions cite it.
use Rattle.std.specs.Prelude.{List, ◌⊎◌, ◌≡◌, ℕ, zero, suc, ◌≤◌, ◌<◌, get_or}
use Rattle.text.specs.Limits.{state_limit}
use Rattle.sets.specs.Inner.Sets.{Member}
use Rattle.ranking.specs.Inner.TableWrites.{entry_of, Outside}
use Rattle.tree.specs.Inner.Tree.{meet}

-- The classes from `from` up to `to` have the round, and no other has changed.
pub record RoundNoted (from to round : ℕ) (entry exit : List ℕ) : Type 0 where
  pub noted : (c : ℕ) → from ≤ c → c < to → get_or exit c 0 ≡ round
  pub kept : (c : ℕ) → (c < from) ⊎ (to ≤ c) → get_or exit c 0 ≡ get_or entry c 0

-- The entries of row c at the states that P holds of have these values, and no other has changed.
pub record EntriesWritten (c : ℕ) (P : ℕ → Type 0) (value : ℕ → ℕ) (entry exit : List ℕ) : Type 0 where
  pub written : (x : ℕ) → x < state_limit → P x → entry_of exit c x ≡ value x
  pub kept : (d x : ℕ) → x < state_limit → ¬ ((d ≡ c) × P x) → entry_of exit d x ≡ entry_of entry d x

-- Class e, below `to`, was divided off class c, and x is one of the states of e then.
pub record InPart (to : ℕ) (origin under : List ℕ) (c x e : ℕ) : Type 0 where
  pub part_pos : 0 < e
  pub part_lt : e < to
  pub origin_is : get_or origin e 0 ≡ c
  pub member : Member under e x

-- The entry of c and x is the round when a part of c with x was divided off, and has not changed if there is none.
abbrev pub PartEntry : ℕ → List ℕ → List ℕ → List ℕ → List ℕ → List ℕ → ℕ → ℕ → Type 0
PartEntry to origin under when entry exit c x =
    ((e : ℕ) × InPart to origin under c x e × (entry_of exit c x ≡ get_or when e 0))
    ⊎ (((e : ℕ) → ¬ (InPart to origin under c x e)) × (entry_of exit c x ≡ entry_of entry c x))

-- This holds of all entries.
pub record PartsWritten (to : ℕ) (origin under when entry exit : List ℕ) : Type 0 where
  pub found : (c x : ℕ) → x < state_limit → PartEntry to origin under when entry exit c x

-- The first m numbers are those of row c.
pub record RowTaken (c m : ℕ) (rows row : List ℕ) : Type 0 where
  pub taken : (x : ℕ) → x < m → get_or row x 0 ≡ entry_of rows c x

-- An entry that has a round keeps it; another one gets the meet of two rounds.
abbrev pub filled : ℕ → ℕ → ℕ → ℕ
filled zero o w = meet o w
filled (suc v) o w = suc v

-- The rows below `to`, but row 0, are filled from those of the origins, and 0 for the class's own states. No other row
-- has changed.
pub record RowsFilled (to : ℕ) (members origin when entry exit : List ℕ) : Type 0 where
  pub own : (c x : ℕ) → 0 < c → c < to → Member members c x → entry_of exit c x ≡ 0
  pub filled_is : (c x : ℕ) → 0 < c → c < to → x < state_limit → ¬ (Member members c x)
      → entry_of exit c x ≡ filled (entry_of entry c x) (entry_of exit (get_or origin c 0) x) (get_or when c 0)
  pub kept : (c x : ℕ) → x < state_limit → (c ≡ 0) ⊎ (to ≤ c) → entry_of exit c x ≡ entry_of entry c x

-- The rows of the first m of n states are those of their classes, and no entry outside the states has changed.
pub record RowsCopied (m n : ℕ) (class rows entry exit : List ℕ) : Type 0 where
  pub copied : (p x : ℕ) → p < m → x < n → entry_of exit p x ≡ entry_of rows (get_or class p 0) x
  pub outside : Outside n entry exit
