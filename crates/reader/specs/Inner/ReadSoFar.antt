-- How far a text has been read: what the store holds after some of its lines, and that what remains reads as the
-- whole does.
-- Only the contracts of inner functions cite it. Document 01, "The text" and "The model store"; document 02, (iii) and
-- (vi).
use Rattle.std.specs.Prelude.{List, [], ◌≡◌, ℕ, ◌+◌, ◌-◌, ◌≤◌, ◌<◌, length, drop, Option, None, Result, Ok, Err}
use Rattle.text.specs.declared.Head.{Head}
use Rattle.text.specs.declared.StepLine.{StepLine}
use Rattle.reader.specs.declared.answers.LineStart.{LineStart}
use Rattle.reader.specs.declared.answers.LineFault.{LineFault}
use Rattle.text.specs.Limits.{extra_limit, actions_length}
use Rattle.text.specs.Bytes.{line_end}
use Rattle.text.specs.Split.{split}
use Rattle.text.specs.Model.{ActionLine, Model, last_start}
use Rattle.text.specs.Inner.LineAnswers.{Last}
use Rattle.text.specs.Inner.Ranges.{HeadRanges}
use Rattle.model.specs.Reading.{Reading, faulty, done, head_model, read_model, read_actions, start_lines, read_starts}
use Rattle.model.specs.Reading.{read_steps, read_end}
use Rattle.model.specs.Store.{actions_numbers, store_of}
use Rattle.model.specs.Inner.StoredActions.{Short}
use Rattle.reader.specs.Answers.{reading_store, ReadAs}

-- ---- after some lines

-- what reading a text comes to, by its lines
abbrev pub whole : List ℕ → Reading
whole text = read_model (split line_end text)

-- A line begins inside the text. Lines are counted from 1, and each line before it but the first has at least its line
-- end, so that the lines are no more than the bytes and two.
pub record InText (text : List ℕ) (from : LineStart) : Type 0 where
  pub place : from.at ≤ length text
  pub line_pos : 0 < from.line
  pub line_le : from.line ≤ from.at + 2

-- the parts of the text from a line on
abbrev pub parts_from : List ℕ → LineStart → List (List ℕ)
parts_from text from = split line_end (drop from.at text)

-- after a first line that states h, where the next line begins
pub record AfterHead (h : Head) (text : List ℕ) (from : LineStart) : Type 0 where
  pub ranges : HeadRanges h
  pub inside : InText text from
  pub rest : whole text ≡ read_actions h.actions from.line (head_model h) (parts_from text from)

-- after i actions
pub record AfterActions (h : Head) (text : List ℕ) (from : LineStart) (i : ℕ) (store : List ℕ) : Type 0 where
  pub ranges : HeadRanges h
  pub inside : InText text from
  pub actions : List ActionLine
  pub count : length actions ≡ i
  pub short : Short actions
  pub stored : store ≡ store_of (record { head = h; actions = actions; extra_starts = []; steps = [] })
  pub rest : whole text
      ≡ read_actions (h.actions - i) from.line
      (record { head = h; actions = actions; extra_starts = []; steps = [] }) (parts_from text from)

-- After all actions and i extra starts, of which `last` is the last, or line 1's start. They rise below the states, so
-- that there are no more of them than `last` says.
pub record AfterStart (h : Head) (text : List ℕ) (from : LineStart) (i last : ℕ) (store : List ℕ) : Type 0 where
  pub ranges : HeadRanges h
  pub inside : InText text from
  pub actions : List ActionLine
  pub action_places : length (actions_numbers actions) ≤ actions_length
  pub extra_starts : List ℕ
  pub count : length extra_starts ≡ i
  pub last_start_is : last_start h.start.0 extra_starts ≡ last
  pub count_le : i ≤ last
  pub last_lt : last < h.states
  pub stored : store ≡ store_of (record { head = h; actions = actions; extra_starts = extra_starts; steps = [] })
  pub rest : whole text
      ≡ read_starts (start_lines (parts_from text from)) from.line
      (record { head = h; actions = actions; extra_starts = extra_starts; steps = [] }) (parts_from text from)

-- after all actions, where the extra starts come next: that one action is high has been tested
abbrev pub AfterAllActions : Head → List ℕ → LineStart → List ℕ → Type 0
AfterAllActions h text from store = AfterStart h text from 0 h.start.0 store

-- after all actions, all extra starts and j steps, of which `last` is the last
pub record AfterStep (h : Head) (text : List ℕ) (from : LineStart) (j : ℕ) (last : Option StepLine) (store : List ℕ)
    : Type 0 where
  pub ranges : HeadRanges h
  pub inside : InText text from
  pub actions : List ActionLine
  pub action_places : length (actions_numbers actions) ≤ actions_length
  pub extra_starts : List ℕ
  pub extra_count_le : length extra_starts ≤ extra_limit
  pub steps : List StepLine
  pub count : length steps ≡ j
  pub last_step : Last steps last
  pub stored : store ≡ store_of (record { head = h; actions = actions; extra_starts = extra_starts; steps = steps })
  pub rest : whole text
      ≡ read_steps (h.steps - j) from.line
      (record { head = h; actions = actions; extra_starts = extra_starts; steps = steps }) (parts_from text from)

-- after all actions and extra starts, where no step was read
abbrev pub AfterStarts : Head → List ℕ → LineStart → List ℕ → Type 0
AfterStarts h text from store = AfterStep h text from 0 None store

-- after all actions, extra starts and steps
pub record AfterSteps (text : List ℕ) (from : LineStart) (store : List ℕ) : Type 0 where
  pub inside : InText text from
  pub model : Model
  pub stored : store ≡ store_of model
  pub rest : whole text ≡ read_end from.line model (parts_from text from)

-- after the end of the text
pub record AfterEnd (text store : List ℕ) : Type 0 where
  pub model : Model
  pub stored : store ≡ store_of model
  pub reads : whole text ≡ done model

-- what reading some lines comes to: P of the start of the line after them, or the text is refused
unfoldable pub Further : (LineStart → Type 0) → List ℕ → Result LineStart LineFault → Type 0
Further P text (Ok from) = P from
Further P text (Err b) = whole text ≡ faulty b.fault b.line

-- what reading all lines comes to: the store holds the model, or the text is refused
unfoldable pub Through : List ℕ → List ℕ → Result (Unit {0}) LineFault → Type 0
Through text store (Ok _) = AfterEnd text store
Through text store (Err b) = whole text ≡ faulty b.fault b.line

-- ---- what the lines of a text come to

pub record ReadOut (text store : List ℕ) (r : Result (Unit {0}) LineFault) (exit : List ℕ) : Type 0 where
  pub answer : ReadAs r (whole text)
  pub filled : exit ≡ reading_store (whole text) store
