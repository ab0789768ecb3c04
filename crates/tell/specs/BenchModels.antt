-- The starred bench models and their texts; and one of them with a second start (document 02, (iii)).
-- Document 01, "The page" and "Bench models": "Actions as above, start 0; unless said, the highest state named is the
-- last."
use Rattle.std.specs.Prelude.{List, [], ◌∷◌, ◌++◌, ℕ, ◌+◌}
use Rattle.text.specs.declared.StepLine.{StepLine}
use Rattle.text.specs.Model.{low, release, high, Model}
-- The model of "The page" and its text.
pub use Rattle.model.specs.Examples.{worked, worked_text}

-- ---- lines of the texts; each number has one digit

-- M,states,actions,steps,0
abbrev pub head_line_of : ℕ → ℕ → ℕ → List ℕ
head_line_of actions states steps =
    77 ∷ 44 ∷ (48 + states) ∷ 44 ∷ (48 + actions) ∷ 44 ∷ (48 + steps) ∷ 44 ∷ 48 ∷ 10 ∷ []

abbrev head_line : ℕ → ℕ → List ℕ
head_line = head_line_of 3

-- A,L,scan / A,H,print / A,D,close
abbrev pub action_lines : List ℕ
action_lines =
    65 ∷ 44 ∷ 76 ∷ 44 ∷ 115 ∷ 99 ∷ 97 ∷ 110 ∷ 10
    ∷ 65 ∷ 44 ∷ 72 ∷ 44 ∷ 112 ∷ 114 ∷ 105 ∷ 110 ∷ 116 ∷ 10
    ∷ 65 ∷ 44 ∷ 68 ∷ 44 ∷ 99 ∷ 108 ∷ 111 ∷ 115 ∷ 101 ∷ 10
    ∷ []

-- A,L,scan / A,H,print / A,L,close
abbrev action_lines_close_low : List ℕ
action_lines_close_low =
    65 ∷ 44 ∷ 76 ∷ 44 ∷ 115 ∷ 99 ∷ 97 ∷ 110 ∷ 10
    ∷ 65 ∷ 44 ∷ 72 ∷ 44 ∷ 112 ∷ 114 ∷ 105 ∷ 110 ∷ 116 ∷ 10
    ∷ 65 ∷ 44 ∷ 76 ∷ 44 ∷ 99 ∷ 108 ∷ 111 ∷ 115 ∷ 101 ∷ 10
    ∷ []

-- S,source,action,target
abbrev pub step_line : ℕ → ℕ → ℕ → List ℕ
step_line p a q = 83 ∷ 44 ∷ (48 + p) ∷ 44 ∷ (48 + a) ∷ 44 ∷ (48 + q) ∷ 10 ∷ []

-- E
abbrev pub end_line : List ℕ
end_line = 69 ∷ 10 ∷ []

-- ---- models

-- The numbers of the actions.
abbrev pub scan : ℕ
scan = 0

abbrev pub print : ℕ
print = 1

abbrev pub close : ℕ
close = 2

abbrev pub arrow : ℕ → ℕ → ℕ → StepLine
arrow p a q = record { source = record { 0 = p }; action = record { 0 = a }; target = record { 0 = q } }

-- The model with so many states and steps, start 0, scan low, print high, and close of the given level, with these
-- extra starts.
abbrev model_from : List ℕ → ℕ → ℕ → ℕ → List StepLine → Model
model_from extra closeLevel states steps arrows = record {
  head = record { states = states; actions = 3; steps = steps; start = record { 0 = 0 } };
  actions =
      record { level = low; name = 115 ∷ 99 ∷ 97 ∷ 110 ∷ [] }
      ∷ record { level = high; name = 112 ∷ 114 ∷ 105 ∷ 110 ∷ 116 ∷ [] }
      ∷ record { level = closeLevel; name = 99 ∷ 108 ∷ 111 ∷ 115 ∷ 101 ∷ [] }
      ∷ [];
  extra_starts = extra;
  steps = arrows;
}

abbrev model_with : ℕ → ℕ → ℕ → List StepLine → Model
model_with = model_from []

-- "0 scan 1, 0 print 2, 2 scan 3, 2 close 0"
abbrev pub scanned_once : Model
scanned_once = model_with release 4 4 (arrow 0 scan 1 ∷ arrow 0 print 2 ∷ arrow 2 scan 3 ∷ arrow 2 close 0 ∷ [])

abbrev pub scanned_once_text : List ℕ
scanned_once_text =
    head_line 4 4 ++ action_lines
    ++ step_line 0 0 1 ++ step_line 0 1 2 ++ step_line 2 0 3 ++ step_line 2 2 0 ++ end_line

-- "0 print 1, 1 close 2, 2 scan 2"
abbrev pub released : Model
released = model_with release 3 3 (arrow 0 print 1 ∷ arrow 1 close 2 ∷ arrow 2 scan 2 ∷ [])

abbrev pub released_text : List ℕ
released_text = head_line 3 3 ++ action_lines ++ step_line 0 1 1 ++ step_line 1 2 2 ++ step_line 2 0 2 ++ end_line

-- "The same with close low"
abbrev pub close_low : Model
close_low = model_with low 3 3 (arrow 0 print 1 ∷ arrow 1 close 2 ∷ arrow 2 scan 2 ∷ [])

abbrev pub close_low_text : List ℕ
close_low_text = head_line 3 3 ++ action_lines_close_low ++ step_line 0 1 1 ++ step_line 1 2 2 ++ step_line 2 0 2 ++
    end_line

-- "0 scan 2, 0 scan 3, 0 print 1, 1 scan 2, 2 scan 3"
abbrev pub branching : Model
branching = model_with release 4 5
    (arrow 0 scan 2 ∷ arrow 0 scan 3 ∷ arrow 0 print 1 ∷ arrow 1 scan 2 ∷ arrow 2 scan 3 ∷ [])

abbrev pub branching_text : List ℕ
branching_text =
    head_line 4 5 ++ action_lines
    ++ step_line 0 0 2 ++ step_line 0 0 3 ++ step_line 0 1 1 ++ step_line 1 0 2 ++ step_line 2 0 3 ++ end_line

-- "One state, no steps"
abbrev pub no_steps : Model
no_steps = model_with release 1 0 []

abbrev pub no_steps_text : List ℕ
no_steps_text = head_line 1 0 ++ action_lines ++ end_line

-- "One state, 0 print 0"
abbrev pub print_loop : Model
print_loop = model_with release 1 1 (arrow 0 print 0 ∷ [])

abbrev pub print_loop_text : List ℕ
print_loop_text = head_line 1 1 ++ action_lines ++ step_line 0 1 0 ++ end_line

-- "Three states, 1 print 2, 2 scan 2"
abbrev pub unreached_print : Model
unreached_print = model_with release 3 2 (arrow 1 print 2 ∷ arrow 2 scan 2 ∷ [])

abbrev pub unreached_print_text : List ℕ
unreached_print_text = head_line 3 2 ++ action_lines ++ step_line 1 1 2 ++ step_line 2 0 2 ++ end_line

-- The same, waking in 1 too: only from there can its print step be reached.
abbrev pub woken_print : Model
woken_print = model_from (1 ∷ []) release 3 2 (arrow 1 print 2 ∷ arrow 2 scan 2 ∷ [])

-- with the line I,1
abbrev pub woken_print_text : List ℕ
woken_print_text =
    head_line 3 2 ++ action_lines ++ (73 ∷ 44 ∷ 49 ∷ 10 ∷ []) ++ step_line 1 1 2 ++ step_line 2 0 2 ++ end_line
