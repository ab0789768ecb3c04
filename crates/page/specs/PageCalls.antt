-- What Judge and Word answer, found on the page of the same store, or on its roll.
-- Document 01, "Page's `V`, `W` and `B` lines tell the same answers"; document 02, (ii).
use Rattle.std.specs.Prelude.{List, [], ◌∷◌, ◌++◌, map, ◌≡◌, length, take, ℕ}
use Rattle.text.specs.Faults.{Outcome, answers}
use Rattle.text.specs.Model.{Model}
use Rattle.verdicts.specs.declared.judging.Verdict.{Verdict}
use Rattle.judge.specs.JudgePromise.{verdict_outcome}
use Rattle.letters.specs.declared.word.End.{End}
use Rattle.letters.specs.Words.{end_number}
use Rattle.lines.specs.Page.{StateLines, name_line}
use Rattle.lines.specs.PageLines.{PageLine, verdict_line, run_line, allows_line, last_line}
use Rattle.lines.specs.declared.lines.Form.{Form}
use Rattle.lines.specs.Roll.{form_bytes}

-- Judge's verdict is that of the `V` line.
pub record JudgeOnPage (form : Form) (m : Model) (bytes : List ℕ) (judge : Outcome) : Type 0 where
  pub verdict : Verdict
  pub answer : judge ≡ verdict_outcome verdict
  pub rest : List PageLine
  pub bytes_are : bytes ≡ form_bytes form m (verdict_line verdict ∷ rest)

-- The sequence that Word fills, and the end that it names, are those of the `W` and `B` lines.
pub record WordOnPage (form : Form) (m : Model) (bytes : List ℕ) (word : Outcome) (list : List ℕ) : Type 0 where
  pub sequence : List ℕ
  pub end : End
  pub answer : word ≡ answers (length sequence ∷ end_number end ∷ [])
  pub filled : take (length sequence) list ≡ sequence
  pub verdict : Verdict
  pub states : List PageLine
  pub state_lines : StateLines m m.head.states states
  pub run : List ℕ
  pub bytes_are : bytes ≡ form_bytes form m ((verdict_line verdict ∷ []) ++ states
      ++ (map run_line run ++ (map (name_line m) sequence ++ (allows_line end ∷ []))) ++ (last_line ∷ []))
