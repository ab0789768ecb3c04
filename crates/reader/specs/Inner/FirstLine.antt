-- The first line of a text, and where the next one begins. Only the contracts of inner functions cite it.
-- Document 01, "The text".
use Rattle.std.specs.Prelude.{List, [], ◌∷◌, ◌≡◌, ℕ, ◌≤◌, length, drop, Result, Ok, Err}
use Rattle.text.specs.declared.Fault.TheVariants.{Absent}
use Rattle.text.specs.declared.Head.{Head}
use Rattle.text.specs.declared.Fault.{Fault}
use Rattle.text.specs.Bytes.{line_end}
use Rattle.text.specs.Split.{split}
use Rattle.text.specs.Lines.{Line, bad, head_of}
use Rattle.model.specs.Reading.{faulty}
use Rattle.reader.specs.Inner.ReadSoFar.{whole, AfterHead}

-- what the first of a text's parts states as line 1, if it is there with its end
unfoldable pub first_line : List (List ℕ) → Line Head
first_line [] = bad Absent
first_line (line ∷ []) = bad Absent
first_line (line ∷ part ∷ parts) = head_of line

-- `next` is the place after the line at a place of a text, if that is there with its end
pub record AfterLine (text : List ℕ) (at next : ℕ) : Type 0 where
  pub place : next ≤ length text
  pub rest : (line part : List ℕ) (parts : List (List ℕ)) → split line_end (drop at text) ≡ line ∷ part ∷ parts
      → split line_end (drop next text) ≡ part ∷ parts

-- after the first line, good or bad; the next is line 2
unfoldable pub AfterFirst : Result Head Fault → List ℕ → ℕ → Type 0
AfterFirst (Ok h) text at = AfterHead h text (record { at = at; line = 2 })
AfterFirst (Err fault) text at = whole text ≡ faulty fault 1
