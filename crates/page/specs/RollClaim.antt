-- The lines of a roll's bytes: those that are no state's are the page's, padded; all have 42 columns. And demand 3 on
-- them: the `V`, `W` and `B` lines tell what Judge and Word answer, as the page's do.
-- Document 02, (ii): "All other lines of the page stand padded in their page order."; DEMANDS, 3. Assumes nothing.
use Rattle.std.specs.Prelude.{Bool, false, cond, not, ◌&&◌, List, [], ◌∷◌, ◌++◌, map, ◌≡◌, ℕ, eqb, length}
use Rattle.text.specs.All.{All}
use Rattle.text.specs.Bytes.{byte_blank, byte_c, capital, line_end, kind_of}
use Rattle.text.specs.Model.{Model}
use Rattle.text.specs.Split.{split}
use Rattle.verdicts.specs.declared.judging.Verdict.TheVariants.{Passed}
use Rattle.columns.specs.Rows.{roll_width, flush_left}
use Rattle.lines.specs.PageLines.{PageLine, verdict_line, last_line, line_text}
use Rattle.page.specs.PageClaim.{PassTexts, LeakTexts, BytesTell}

-- ---- the lines that are no state's

-- A line begins with a capital other than `C`. A state's begins with `C` on the page, with a blank or a digit on the
-- roll.
unfoldable pub lettered? : List ℕ → Bool
lettered? [] = false
lettered? (b ∷ text) = eqb (kind_of b) capital && not (eqb b byte_c)

-- Of some lines those that begin so, as they stand.
unfoldable pub others : List (List ℕ) → List (List ℕ)
others [] = []
others (text ∷ texts) = cond (lettered? text) (text ∷ others texts) (others texts)

-- The lines of a page or a roll that are no state's: the bytes part at the line ends.
abbrev pub other_lines : List ℕ → List (List ℕ)
other_lines bytes = others (split line_end bytes)

-- "All other lines of the page stand padded in their page order.": of the bytes of a page and of its roll.
abbrev pub OthersPadded : List ℕ → List ℕ → Type 0
OthersPadded page roll = other_lines roll ≡ map (flush_left roll_width) (other_lines page)

-- ---- their texts

-- A byte before a text, unless it is padding: a blank that nothing follows.
unfoldable pub cons_unless_padding : ℕ → List ℕ → List ℕ
cons_unless_padding b [] = cond (eqb b byte_blank) [] (b ∷ [])
cons_unless_padding b (c ∷ text) = b ∷ c ∷ text

-- A text without the blanks at its end.
unfoldable pub unpadded : List ℕ → List ℕ
unpadded [] = []
unpadded (b ∷ text) = cons_unless_padding b (unpadded text)

-- The texts of the lines that are no state's.
abbrev pub other_texts : List ℕ → List (List ℕ)
other_texts bytes = map unpadded (other_lines bytes)

-- ---- what they tell

-- What the roll of a passed model tells: the greatest rank, and that there is no leak to show.
pub record PassRoll (m : Model) (bytes : List ℕ) : Type 0 where
  pub rank : ℕ
  pub texts : PassTexts m (other_texts bytes) rank
  pub parted : other_texts bytes ≡ map line_text (verdict_line (Passed rank) ∷ last_line ∷ [])

-- What the roll of a refused model, deterministic and without a reachable silent step, tells, as its page does.
pub record LeakRoll (m : Model) (bytes word : List ℕ) : Type 0 where
  pub lines : List PageLine
  pub texts : LeakTexts m (other_texts bytes) [] lines word
  pub parted : other_texts bytes ≡ map line_text lines

-- What the roll of a deterministic model without a reachable silent step tells.
abbrev pub RollTells : Model → List ℕ → List ℕ → Type 0
RollTells m bytes word = BytesTell m bytes (PassRoll m bytes) (LeakRoll m bytes word)

-- ---- its columns

-- "Each line has exactly 42 columns before its line end": the bytes part at the line ends into such lines.
pub record RollColumns (bytes : List ℕ) : Type 0 where
  pub rows : List (List ℕ)
  pub parted : split line_end bytes ≡ rows ++ ([] ∷ [])
  pub widths : All (λ (row : List ℕ). length row ≡ roll_width) rows
