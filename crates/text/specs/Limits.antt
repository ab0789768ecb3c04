-- Limits of texts, layout of the model store and least lengths of all lists, each named once.
-- Document 01, "The text", "The model store" and "The operations, in the order of the work"; document 02, (iii) and
-- (v).
use Rattle.std.specs.Prelude.{ℕ, ◌+◌, ◌*◌}

-- "States 1 to 128, actions 1 to 64, steps 0 to 1,024"
abbrev pub state_limit : ℕ
state_limit = 128

abbrev pub action_limit : ℕ
action_limit = 64

abbrev pub step_limit : ℕ
step_limit = 1024

-- `I` lines: "strictly rising and above the start in line 1, so at most 127" (document 02, (iii))
abbrev pub extra_limit : ℕ
extra_limit = 127

-- "Numbers have 1 to 5 digits"
abbrev pub digit_limit : ℕ
digit_limit = 5

-- "A name is 1 to 12 bytes"
abbrev pub name_limit : ℕ
name_limit = 12

-- "1: the text has more than 16,384 bytes"
abbrev pub text_limit : ℕ
text_limit = 16384

-- ---- the model store
--
-- It is one section behind the other, each of rows of one length. A section added at the end moves none of the others.

-- "Places 0 to 3: states, actions, steps, start."
abbrev pub state_count_place : ℕ
state_count_place = 0

abbrev pub action_count_place : ℕ
action_count_place = 1

abbrev pub step_count_place : ℕ
step_count_place = 2

abbrev pub start_place : ℕ
start_place = 3

abbrev pub head_end : ℕ
head_end = 4

-- "Action i from 4 + 14i: level (0 L, 1 D, 2 H), name length, twelve name bytes"; 3 is T (document 02, (vii))
abbrev pub actions_begin : ℕ
actions_begin = head_end

abbrev pub name_length_column : ℕ
name_length_column = 1

abbrev pub name_column : ℕ
name_column = 2

abbrev pub action_size : ℕ
action_size = name_column + name_limit

abbrev pub actions_length : ℕ
actions_length = action_size * action_limit

abbrev pub actions_end : ℕ
actions_end = actions_begin + actions_length

abbrev pub action_place : ℕ → ℕ
action_place i = actions_begin + action_size * i

abbrev pub name_length_place : ℕ → ℕ
name_length_place i = action_place i + name_length_column

abbrev pub name_place : ℕ → ℕ
name_place i = action_place i + name_column

-- "Step j from 900 + 3j: source, action, target"
abbrev pub steps_begin : ℕ
steps_begin = actions_end

abbrev pub action_column : ℕ
action_column = 1

abbrev pub target_column : ℕ
target_column = 2

abbrev pub step_size : ℕ
step_size = 3

abbrev pub steps_length : ℕ
steps_length = step_size * step_limit

abbrev pub steps_end : ℕ
steps_end = steps_begin + steps_length

abbrev pub step_place : ℕ → ℕ
step_place j = steps_begin + step_size * j

abbrev pub action_of_step_place : ℕ → ℕ
action_of_step_place j = step_place j + action_column

abbrev pub target_place : ℕ → ℕ
target_place j = step_place j + target_column

-- "The store grows by 128 numbers at its end: a count, then the extra starts, unused ones 0." (document 02, (iii))
abbrev pub extra_count_place : ℕ
extra_count_place = steps_end

abbrev pub extra_begin : ℕ
extra_begin = extra_count_place + 1

abbrev pub extra_end : ℕ
extra_end = extra_begin + extra_limit

abbrev pub extra_place : ℕ → ℕ
extra_place i = extra_begin + i

-- 4,100 numbers of 16 bits: the "3,972 numbers" of document 01, and the 128 of document 02, (iii)
abbrev pub store_length : ℕ
store_length = extra_end

-- ---- least lengths of lent lists

-- "Write's least length becomes 15,182." (document 02, (iii))
abbrev pub out_length : ℕ
out_length = 15182

-- "distances 128"
abbrev pub distances_length : ℕ
distances_length = state_limit

-- "table 16,384 bytes. Entry 128p + q is the rank of p and q"
abbrev pub table_length : ℕ
table_length = 16384

abbrev pub pair_place : ℕ → ℕ → ℕ
pair_place p q = state_limit * p + q

-- "run 127"
abbrev pub run_length : ℕ
run_length = 127

-- "word 127"
abbrev pub word_length : ℕ
word_length = 127

-- "out 5,000 bytes" of Page
abbrev pub page_length : ℕ
page_length = 5000

-- Roll's "out with at least 35,840 bytes" (document 02, (ii))
abbrev pub roll_length : ℕ
roll_length = 35840

-- "Of 65,536 bytes, four belong to each ordered pair of states" (document 02, (v)): "entry number 128p + q"
abbrev pub entry_size : ℕ
entry_size = 4

abbrev pub book_length : ℕ
book_length = 65536

-- "65,535 for unreachable and unused places"
abbrev pub unreachable : ℕ
unreachable = 65535

-- ---- lists that functions keep for themselves

-- Where the steps or moves of each state begin, and where the last one's end.
abbrev pub index_length : ℕ
index_length = state_limit + 1

-- Where the moves of each state and action begin, and where the last one's end.
abbrev pub group_place : ℕ → ℕ → ℕ
group_place p a = action_limit * p + a

abbrev pub groups_length : ℕ
groups_length = state_limit * action_limit + 1
