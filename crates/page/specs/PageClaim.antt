-- Demand 3 on the bytes of the page: its `V`, `W` and `B` lines tell what Judge and Word answer.
-- Document 01, "the landing that first brings Page to life carries demand 3 on to them, over the whole path from text
-- to page"; DEMANDS, 3. Assumes nothing.
use Rattle.std.specs.Prelude.{List, [], ◌∷◌, ◌++◌, map, ◌⊎◌, ◌↔◌, ◌≡◌, ℕ, ◌+◌, ◌<◌, length, get_or, take}
use Rattle.std.proofs.Math.Option.{some}
use Rattle.lts.specs.Noninterference.{INI}
use Rattle.text.specs.Bytes.{byte_comma, byte_v, comma, line_end}
use Rattle.text.specs.Model.{Model}
use Rattle.text.specs.Numbers.{number_of}
use Rattle.text.specs.Split.{split}
use Rattle.model.specs.System.{source, HighStep, IsState, view}
use Rattle.model.specs.Text.{field}
use Rattle.ranking.specs.Table.{Greatest}
use Rattle.verdicts.specs.declared.judging.Verdict.TheVariants.{Refused}
use Rattle.distances.specs.Runs.{RunTo}
use Rattle.letters.specs.declared.word.End.{End}
use Rattle.tell.specs.Claim.{ShowsLeak}
use Rattle.lines.specs.PageLines.{PageLine, verdict_line, run_line, allows_line, last_line, pass_text, refuse_text}
use Rattle.lines.specs.PageLines.{line_text, page_bytes}
use Rattle.lines.specs.Page.{StateLines, name_line}
use Rattle.lts.specs.Weak.{WeakMove}

-- The page, or the roll, begins with `V,pass,`, or with `V,refuse,`.
abbrev pub SaysPass : List ℕ → Type 0
SaysPass bytes = take 7 bytes ≡ (byte_v ∷ []) ++ field pass_text ++ (byte_comma ∷ [])

abbrev pub SaysRefuse : List ℕ → Type 0
SaysRefuse bytes = take 9 bytes ≡ (byte_v ∷ []) ++ field refuse_text ++ (byte_comma ∷ [])

-- The fields of line i of some texts, counted from 0: a line parts at its commas.
abbrev pub line_fields : List (List ℕ) → ℕ → List (List ℕ)
line_fields texts i = split comma (get_or texts i [])

-- The first line is `V,pass,rank`, the number read as Read reads one.
pub record PassFields (texts : List (List ℕ)) (rank : ℕ) : Type 0 where
  pub count : length (line_fields texts 0) ≡ 3
  pub letter : get_or (line_fields texts 0) 0 [] ≡ byte_v ∷ []
  pub verdict : get_or (line_fields texts 0) 1 [] ≡ pass_text
  pub rank_field : number_of (get_or (line_fields texts 0) 2 []) ≡ some rank

-- The first line is `V,refuse,step,depth`.
pub record RefuseFields (texts : List (List ℕ)) (step depth : ℕ) : Type 0 where
  pub count : length (line_fields texts 0) ≡ 4
  pub letter : get_or (line_fields texts 0) 0 [] ≡ byte_v ∷ []
  pub verdict : get_or (line_fields texts 0) 1 [] ≡ refuse_text
  pub step_field : number_of (get_or (line_fields texts 0) 2 []) ≡ some step
  pub depth_field : number_of (get_or (line_fields texts 0) 3 []) ≡ some depth

-- ---- what lines tell, on the page and on the roll, by their texts

-- Of a passed model: the greatest rank.
pub record PassTexts (m : Model) (texts : List (List ℕ)) (rank : ℕ) : Type 0 where
  pub verdict_fields : PassFields texts rank
  pub greatest : Greatest (WeakMove (view m)) (IsState m) rank

-- Of a refused model, deterministic and without a reachable silent step, line by line. `states` are its lines between
-- the `V` line and the `R` lines, and `word` is the list that Page or Roll filled.
pub record LeakTexts (m : Model) (texts : List (List ℕ)) (states lines : List PageLine) (word : List ℕ) : Type 0 where
  pub step : ℕ
  pub depth : ℕ
  pub verdict_fields : RefuseFields texts step depth
  -- "the step told, a reachable high step"
  pub high_step : HighStep m step
  -- the run from a start to its source, an `R` line for each step
  pub run : List ℕ
  pub run_to : RunTo m (source m step) run
  pub run_fields : (i : ℕ) → i < length run
      → number_of (get_or (line_fields texts (1 + length states + i)) 1 []) ≡ some (get_or run i 0)
  -- "a low sequence is shown", with all that demand 3 says of it; by `depth_is` the depth is the number of `W` lines
  pub sequence : List ℕ
  pub end : End
  pub shown : ShowsLeak m step depth sequence end
  pub filled : take (length sequence) word ≡ sequence
  -- `V,refuse,step,depth`, those of the states, `R,step` per step, `W,name` per action of the sequence, `B,` and the
  -- end, `E`
  pub lines_are : lines ≡ (verdict_line (Refused (record { 0 = step }) depth) ∷ []) ++ states
      ++ (map run_line run ++ (map (name_line m) sequence ++ (allows_line end ∷ []))) ++ (last_line ∷ [])

-- What the bytes of a deterministic model without a reachable silent step tell: Pass if they say that it is passed, and
-- Leak if that it is refused.
pub record BytesTell (m : Model) (bytes : List ℕ) (Pass Leak : Type 0) : Type 0 where
  pub verdict : SaysPass bytes ⊎ SaysRefuse bytes
  -- "It is passed exactly when this holds of every sequence of actions, however long, that can be run from the start
  -- [..]", "from each of the model's starts" (document 02, (iii))
  pub pass_iff : SaysPass bytes ↔ INI (view m)
  pub pass : SaysPass bytes → Pass
  pub leak : SaysRefuse bytes → Leak

-- ---- the page

-- What the page of a passed model tells.
pub record PassPage (m : Model) (bytes : List ℕ) : Type 0 where
  pub rank : ℕ
  pub texts : PassTexts m (split line_end bytes) rank

-- What the page of a refused model, deterministic and without a reachable silent step, tells: its bytes are those of
-- these lines, and part at the line ends into their texts.
pub record LeakPage (m : Model) (bytes word : List ℕ) : Type 0 where
  pub states : List PageLine
  pub state_lines : StateLines m m.head.states states
  pub lines : List PageLine
  pub texts : LeakTexts m (split line_end bytes) states lines word
  pub bytes_are : bytes ≡ page_bytes lines
  pub parted : split line_end bytes ≡ map line_text lines ++ ([] ∷ [])

-- What the page of a deterministic model without a reachable silent step tells.
abbrev pub PageTells : Model → List ℕ → List ℕ → Type 0
PageTells m bytes word = BytesTell m bytes (PassPage m bytes) (LeakPage m bytes word)
