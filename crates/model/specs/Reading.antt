-- The reading of a text, line by line: "The first bad line decides [..]. The place is the line, counted from 1."
-- Document 01, "The text" and "Refused because of the input"; document 02, (iii) and (vi).
use Rattle.std.specs.Prelude.{Bool, false, cond, List, [], ◌∷◌, ℕ, zero, suc, ◌-◌, ltb, eqb, length}
use Rattle.text.specs.declared.Fault.{Fault}
use Rattle.text.specs.declared.Fault.TheVariants.{Absent, Shape, NoHigh}
use Rattle.text.specs.declared.Head.{Head}
use Rattle.text.specs.Bytes.{line_end, byte_e, byte_i}
use Rattle.text.specs.Split.{split, same?}
use Rattle.text.specs.Limits.{text_limit}
use Rattle.text.specs.Model.{Model, with_action, with_extra_start, with_step, some_high?}
use Rattle.text.specs.Lines.{Line, good, bad, head_of, action_of, start_of, step_of}

-- the model that a text states, or why it is refused: too long, or the first bad line with its fault
pub data Reading : Type 0 where
  done : Model → Reading
  too_long : Reading
  faulty : Fault → (line : ℕ) → Reading

-- The parts of a text between its line ends: each but the last is a line, and the last is what follows the last
-- line end.
-- Line k is the first part: what is read of it and of the parts after it, if it is there with its end.
unfoldable pub on_line : ℕ → List (List ℕ) → (List ℕ → List (List ℕ) → Reading) → Reading
on_line k [] read = faulty Absent k
on_line k (line ∷ []) read = faulty Absent k
on_line k (line ∷ part ∷ parts) read = read line (part ∷ parts)

-- line k states something, from which the reading goes on, or the text is refused
unfoldable pub or_fault : {A : Type 0} → ℕ → Line A → (A → Reading) → Reading
or_fault k (good a) read = read a
or_fault k (bad fault) read = faulty fault k

-- "and the text ends"; "bytes after `E` (place: the line after it)"
unfoldable pub read_nothing : ℕ → Model → List (List ℕ) → Reading
read_nothing k m [] = done m
read_nothing k m ([] ∷ []) = done m
read_nothing k m ([] ∷ part ∷ parts) = faulty Absent k
read_nothing k m ((b ∷ bs) ∷ parts) = faulty Absent k

-- "Then `E`, and the text ends."
unfoldable pub read_end : ℕ → Model → List (List ℕ) → Reading
read_end k m parts =
    on_line k parts (λ line rest. cond (same? line (byte_e ∷ [])) (read_nothing (suc k) m rest) (faulty Shape k))

-- "Then one `S,source,action,target` per step": n more, of which the first is line k
unfoldable pub read_steps : ℕ → ℕ → Model → List (List ℕ) → Reading
read_steps zero k m parts = read_end k m parts
read_steps (suc n) k m parts =
    on_line k parts (λ line rest.
    or_fault k (step_of m.head m.steps line) (λ s. read_steps n (suc k) (with_step m s) rest))

-- "Lines `I,state` may follow the `A` lines": n more, of which the first is line k
unfoldable pub read_starts : ℕ → ℕ → Model → List (List ℕ) → Reading
read_starts zero k m parts = read_steps m.head.steps k m parts
read_starts (suc n) k m parts =
    on_line k parts (λ line rest.
    or_fault k (start_of m.head m.extra_starts line) (λ p. read_starts n (suc k) (with_extra_start m p) rest))

-- a line whose first byte is `I`
unfoldable pub start_line? : List ℕ → Bool
start_line? [] = false
start_line? (b ∷ bs) = eqb b byte_i

-- how many such lines stand in front: behind the `A` lines each of them is an `I` line, and no other line is
unfoldable pub start_lines : List (List ℕ) → ℕ
start_lines [] = 0
start_lines (line ∷ rest) = cond (start_line? line) (suc (start_lines rest)) 0

-- Behind the `A` lines, of which the last is the one before line k. "A text without an H action is refused [..], its
-- place the last `A` line, tested when that line is otherwise good": before anything of line k.
unfoldable pub behind_actions : ℕ → Model → List (List ℕ) → Reading
behind_actions k m parts =
    cond (some_high? m.actions) (read_starts (start_lines parts) k m parts) (faulty NoHigh (k - 1))

-- "Then one `A,level,name` per action": n more, of which the first is line k
unfoldable pub read_actions : ℕ → ℕ → Model → List (List ℕ) → Reading
read_actions zero k m parts = behind_actions k m parts
read_actions (suc n) k m parts =
    on_line k parts (λ line rest.
    or_fault k (action_of m.actions line) (λ a. read_actions n (suc k) (with_action m a) rest))

-- the model of line 1 alone
abbrev pub head_model : Head → Model
head_model h = record { head = h; actions = []; extra_starts = []; steps = [] }

-- a text's parts from line 1 on
unfoldable pub read_model : List (List ℕ) → Reading
read_model parts =
    on_line 1 parts (λ line rest. or_fault 1 (head_of line) (λ h. read_actions h.actions 2 (head_model h) rest))

-- "1: the text has more than 16,384 bytes; tested before any line, place 0."
unfoldable pub read_text : List ℕ → Reading
read_text text = cond (ltb text_limit (length text)) too_long (read_model (split line_end text))
