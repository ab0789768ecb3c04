-- What is printed of a text, on a page or on a roll, whatever the lists held before.
-- Document 01, "The page": "The program reads standard input and prints the page, or `F,number,place` if Read refuses;
-- each line ends in byte 10." Document 02, (ii).
use Rattle.std.specs.Prelude.{List, ◌≡◌, ℕ}
use Rattle.text.specs.Faults.{refuses}
use Rattle.text.specs.Model.{Model}
use Rattle.read_write.specs.ReadPromise.{reading_outcome}
use Rattle.model.specs.Reading.{done, read_text}
use Rattle.model.specs.System.{DeterministicModel, NoSilentStep}
use Rattle.tell.specs.Claim.{States}
use Rattle.lines.specs.declared.lines.Form.{Form}
use Rattle.lines.specs.PageLines.{PageLine, fault_bytes}
use Rattle.lines.specs.Page.{PageOf}
use Rattle.lines.specs.Roll.{form_bytes}
use Rattle.page.specs.Claim.{FormTells}

-- The bytes are those of the model's page in a form. Its lines do not depend on what the lists held
-- (`page_bytes_of_unique`).
pub record PageBytesOf (form : Form) (m : Model) (bytes : List ℕ) : Type 0 where
  pub run : List ℕ
  pub word : List ℕ
  pub run' : List ℕ
  pub word' : List ℕ
  pub lines : List PageLine
  pub page : PageOf m run word run' word' lines
  pub bytes_are : bytes ≡ form_bytes form m lines

pub record Prints (form : Form) (text bytes : List ℕ) : Type 0 where
  pub unread : (number place : ℕ) → reading_outcome (read_text text) ≡ refuses number place
      → bytes ≡ fault_bytes number place
  pub read : (m : Model) → read_text text ≡ done m → PageBytesOf form m bytes
  -- demand 3, on these bytes, "kept for models without a reachable silent step" (document 02, (vii))
  pub tells : (m : Model) → States text m → DeterministicModel m → NoSilentStep m
      → (word : List ℕ) × FormTells form m bytes word
