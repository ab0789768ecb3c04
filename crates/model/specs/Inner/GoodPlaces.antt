-- A good store, place by place: what the code tests. `GoodLaws` shows that a store is good exactly if its places are.
-- Document 01, "The text" and "The model store"; document 02, (iii) and (vi).
use Rattle.std.specs.Prelude.{List, ◌≡◌, ℕ, zero, suc, ◌+◌, ◌-◌, ◌≤◌, ◌<◌, T, get_or}
use Rattle.text.specs.declared.Head.{Head}
use Rattle.text.specs.Limits.{name_limit, extra_limit, actions_end, steps_end, extra_end}
use Rattle.text.specs.Limits.{action_place, name_length_place, name_place, step_place, extra_place}
use Rattle.text.specs.Model.{last_level, some_high?, above?}
use Rattle.text.specs.Lines.{head_fits?, name_byte?, start_fits?, step_fits?}
use Rattle.model.specs.Inner.EachFrom.{EachFrom}
use Rattle.model.specs.StoredModel.{head_at, action_at, step_at, extra_count_at, extra_start_at, listed}

-- ---- places

-- place k holds 0
abbrev pub ZeroAt : List ℕ → ℕ → Type 0
ZeroAt s k = get_or s k 0 ≡ 0

-- place k holds a digit or a small letter
abbrev pub NameByteAt : List ℕ → ℕ → Type 0
NameByteAt s k = T (name_byte? (get_or s k 0))

-- the places p + k and q + k hold one number
abbrev pub SameAt : List ℕ → ℕ → ℕ → ℕ → Type 0
SameAt s p q k = get_or s (p + k) 0 ≡ get_or s (q + k) 0

-- ---- actions

abbrev pub name_length_at : List ℕ → ℕ → ℕ
name_length_at s i = get_or s (name_length_place i) 0

-- name length and the twelve places of the name are the same in actions h and i
abbrev pub SameName : List ℕ → ℕ → ℕ → Type 0
SameName s h i = EachFrom (SameAt s (name_length_place h) (name_length_place i)) 0 (name_limit + 1)

abbrev pub OtherName : List ℕ → ℕ → ℕ → Type 0
OtherName s i h = ¬ (SameName s h i)

pub record GoodAction (s : List ℕ) (i : ℕ) : Type 0 where
  -- "level (0 L, 1 D, 2 H)", "Level T (store value 3)"
  pub level : get_or s (action_place i) 0 ≤ last_level
  -- "A name is 1 to 12 bytes of a to z and 0 to 9, used once."
  pub some : 1 ≤ name_length_at s i
  pub fits : name_length_at s i ≤ name_limit
  pub bytes : EachFrom (NameByteAt s) (name_place i) (name_place i + name_length_at s i)
  pub once : EachFrom (OtherName s i) 0 i
  -- "Unused places are 0."
  pub unused : EachFrom (ZeroAt s) (name_place i + name_length_at s i) (name_place i + name_limit)

-- ---- steps

pub record GoodStep (h : Head) (s : List ℕ) (j : ℕ) : Type 0 where
  pub in_range : T (step_fits? h (step_at s j))
  -- "strictly rising by source, then action, then target"
  pub rising : 0 < j → T (above? (step_at s (j - 1)) (step_at s j))

-- ---- extra starts

-- the start that extra start i must be above
unfoldable pub start_before : Head → List ℕ → ℕ → ℕ
start_before h s zero = h.start.0
start_before h s (suc i) = extra_start_at s i

pub record GoodStart (h : Head) (s : List ℕ) (i : ℕ) : Type 0 where
  pub in_range : T (start_fits? h (extra_start_at s i))
  -- "strictly rising and above the start in line 1"
  pub rising : start_before h s i < extra_start_at s i

-- the section of the extra starts
pub record GoodStarts (h : Head) (s : List ℕ) : Type 0 where
  -- "so at most 127"
  pub count : extra_count_at s ≤ extra_limit
  pub each : EachFrom (GoodStart h s) 0 (extra_count_at s)
  -- "unused ones 0"
  pub unused : EachFrom (ZeroAt s) (extra_place (extra_count_at s)) extra_end

-- ---- the store

pub record GoodPlaces (s : List ℕ) : Type 0 where
  -- "States 1 to 128, actions 1 to 64, steps 0 to 1,024, start below states."
  pub head : T (head_fits? (head_at s))
  pub actions : EachFrom (GoodAction s) 0 (head_at s).actions
  -- "A text without an H action is refused"
  pub some_high : T (some_high? (listed (head_at s).actions (action_at s)))
  pub steps : EachFrom (GoodStep (head_at s) s) 0 (head_at s).steps
  -- "Unused places are 0."
  pub unused_actions : EachFrom (ZeroAt s) (action_place (head_at s).actions) actions_end
  pub unused_steps : EachFrom (ZeroAt s) (step_place (head_at s).steps) steps_end
  -- "a count, then the extra starts, unused ones 0"
  pub extra_starts_is : GoodStarts (head_at s) s
