-- What a program prints of a text, whichever program: the line of Read's refusal, or what it prints of the model.
-- Document 01, "The page": "The program reads standard input and prints the page, or `F,number,place` if Read refuses".
use Rattle.std.specs.Prelude.{List, ◌≡◌, ℕ}
use Rattle.text.specs.Faults.{refuses}
use Rattle.text.specs.Model.{Model}
use Rattle.read_write.specs.ReadPromise.{reading_outcome}
use Rattle.model.specs.Reading.{done, read_text}
use Rattle.lines.specs.PageLines.{fault_bytes}

-- `Of m bytes`: the bytes are what is printed of the model.
pub record PrintsText (Of : Model → List ℕ → Type 0) (text bytes : List ℕ) : Type 0 where
  pub unread : (number place : ℕ) → reading_outcome (read_text text) ≡ refuses number place
      → bytes ≡ fault_bytes number place
  pub read : (m : Model) → read_text text ≡ done m → Of m bytes
