-- Two models with ticks nobody sees, and their texts, as they stand in examples/ticks_before_scan.txt and
-- examples/tick_depth_one.txt.
-- Document 02, (vii): "Level T (store value 3) marks a silent action."
use Rattle.std.specs.Prelude.{List, [], ◌∷◌, ◌++◌, ℕ}
use Rattle.text.specs.declared.StepLine.{StepLine}
use Rattle.text.specs.Model.{low, release, high, silent, Model}
use Rattle.tell.specs.BenchModels.{head_line_of, action_lines, step_line, end_line, arrow, scan, print, close}

-- The number of the action tick, behind those of the bench models.
abbrev pub tick : ℕ
tick = 3

-- A,L,scan / A,H,print / A,D,close / A,T,tick
abbrev tick_action_lines : List ℕ
tick_action_lines = action_lines ++ (65 ∷ 44 ∷ 84 ∷ 44 ∷ 116 ∷ 105 ∷ 99 ∷ 107 ∷ 10 ∷ [])

-- The model with so many states and steps, start 0, scan low, print high, close a release and tick silent.
abbrev model_with_tick : ℕ → ℕ → List StepLine → Model
model_with_tick states steps arrows = record {
  head = record { states = states; actions = 4; steps = steps; start = record { 0 = 0 } };
  actions =
      record { level = low; name = 115 ∷ 99 ∷ 97 ∷ 110 ∷ [] }
      ∷ record { level = high; name = 112 ∷ 114 ∷ 105 ∷ 110 ∷ 116 ∷ [] }
      ∷ record { level = release; name = 99 ∷ 108 ∷ 111 ∷ 115 ∷ 101 ∷ [] }
      ∷ record { level = silent; name = 116 ∷ 105 ∷ 99 ∷ 107 ∷ [] }
      ∷ [];
  extra_starts = [];
  steps = arrows;
}

-- 0 scan 1, 0 print 2, 1 close 0, 2 tick 3, 3 scan 1: the tick before the scan is not seen
abbrev pub ticks_before_scan : Model
ticks_before_scan = model_with_tick 4 5
    (arrow 0 scan 1 ∷ arrow 0 print 2 ∷ arrow 1 close 0 ∷ arrow 2 tick 3 ∷ arrow 3 scan 1 ∷ [])

abbrev pub ticks_before_scan_text : List ℕ
ticks_before_scan_text =
    head_line_of 4 4 5 ++ tick_action_lines
    ++ step_line 0 0 1 ++ step_line 0 1 2 ++ step_line 1 2 0 ++ step_line 2 3 3 ++ step_line 3 0 1 ++ end_line

-- 0 print 1, 1 tick 2, 2 scan 2: only after print a tick leads on to a scan
abbrev pub tick_depth_one : Model
tick_depth_one = model_with_tick 3 3 (arrow 0 print 1 ∷ arrow 1 tick 2 ∷ arrow 2 scan 2 ∷ [])

abbrev pub tick_depth_one_text : List ℕ
tick_depth_one_text = head_line_of 4 3 3 ++ tick_action_lines ++ step_line 0 1 1 ++ step_line 1 3 2 ++ step_line 2 0 2
    ++ end_line
