-- What a text without a fault states, said without the reader's order of tests.
-- Document 01, "The text" and "Refused because of the input".
use Rattle.std.specs.Prelude.{List, ◌≡◌, ℕ}
use Rattle.text.specs.Model.{Model}
use Rattle.model.specs.Text.{model_text}
use Rattle.model.specs.WellFormed.{WellFormed}

-- the `M` text of a model: line 1 is `M,states,actions,steps,start`
abbrev pub MText : List ℕ → Model → Type 0
MText text m = text ≡ model_text m

-- The kinds of texts of a model. Whatever is said of `M` texts alone names them; another kind is one more case here.
pub data TextKind (text : List ℕ) (m : Model) : Type 0 where
  m_text : MText text m → TextKind text m

-- The text has no fault that is listed for Read: it states the model m, line by line. `read_text_iff` shows that the
-- reading, which tests fault by fault, then finds none.
pub record States (text : List ℕ) (m : Model) : Type 0 where
  pub well_formed : WellFormed m
  pub kind : TextKind text m
