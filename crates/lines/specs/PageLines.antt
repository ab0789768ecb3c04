-- The lines of a page, and its bytes.
-- Document 01, "The page".
use Rattle.std.specs.Prelude.{List, [], ◌∷◌, ◌++◌, ℕ}
use Rattle.std.proofs.Math.Option.{Option}
use Rattle.text.specs.Bytes.{byte_line_end, byte_v, byte_c, byte_r, byte_w, byte_b, byte_n, byte_e, byte_f}
use Rattle.text.specs.Numbers.{digits}
use Rattle.model.specs.Text.{field}
use Rattle.verdicts.specs.declared.judging.Verdict.{Verdict}
use Rattle.verdicts.specs.declared.judging.Verdict.TheVariants.{Passed, Refused}
use Rattle.letters.specs.declared.word.End.{End}
use Rattle.letters.specs.declared.word.End.TheVariants.{Source, Target}
unfoldable pub use Rattle.columns.specs.StateRows.{distance_text}

-- What a line says.
pub data PageLine : Type 0 where
  verdict_line : Verdict → PageLine
  state_line : (state : ℕ) (distance : Option ℕ) (class : ℕ) → PageLine
  run_line : (step : ℕ) → PageLine
  word_line : (name : List ℕ) → PageLine
  allows_line : End → PageLine
  no_word_line : PageLine
  last_line : PageLine

-- `pass` and `refuse`
abbrev pub pass_text : List ℕ
pass_text = 112 ∷ 97 ∷ 115 ∷ 115 ∷ []

abbrev pub refuse_text : List ℕ
refuse_text = 114 ∷ 101 ∷ 102 ∷ 117 ∷ 115 ∷ 101 ∷ []

-- `source` or `target`
unfoldable pub end_text : End → List ℕ
end_text Source = 115 ∷ 111 ∷ 117 ∷ 114 ∷ 99 ∷ 101 ∷ []
end_text Target = 116 ∷ 97 ∷ 114 ∷ 103 ∷ 101 ∷ 116 ∷ []

-- `V,pass,rank` or `V,refuse,step,depth`, `C,state,distance,class`, `R,step`, `W,name`, `B,source` or `B,target`, `N`
-- and `E`
unfoldable pub line_text : PageLine → List ℕ
line_text (verdict_line (Passed rank)) = (byte_v ∷ []) ++ field pass_text ++ field (digits rank)
line_text (verdict_line (Refused j depth)) =
    (byte_v ∷ []) ++ field refuse_text ++ field (digits j.0) ++ field (digits depth)
line_text (state_line p distance class) =
    (byte_c ∷ []) ++ field (digits p) ++ field (distance_text distance) ++ field (digits class)
line_text (run_line j) = (byte_r ∷ []) ++ field (digits j)
line_text (word_line name) = (byte_w ∷ []) ++ field name
line_text (allows_line end) = (byte_b ∷ []) ++ field (end_text end)
line_text no_word_line = byte_n ∷ []
line_text last_line = byte_e ∷ []

-- "each line ends in byte 10"
abbrev pub line_bytes : PageLine → List ℕ
line_bytes l = line_text l ++ (byte_line_end ∷ [])

-- The bytes of a page: its lines, one after the other.
unfoldable pub page_bytes : List PageLine → List ℕ
page_bytes [] = []
page_bytes (l ∷ ls) = line_bytes l ++ page_bytes ls

-- `F,number,place`, which is no line of a page
unfoldable pub fault_text : ℕ → ℕ → List ℕ
fault_text number place = (byte_f ∷ []) ++ field (digits number) ++ field (digits place)

abbrev pub fault_bytes : ℕ → ℕ → List ℕ
fault_bytes number place = fault_text number place ++ (byte_line_end ∷ [])
