-- The lists that Page or Roll is lent, and what it makes of them on a good store. Only the contracts of inner functions
-- cite it.
-- Document 01, operation 7; document 02, (ii).
use Rattle.std.specs.Prelude.{Option, MatchOption, List, [], ◌∷◌, ◌≡◌, ℕ, ◌≤◌, length}
use Rattle.std.proofs.Math.Option.{some}
use Rattle.text.specs.Faults.{answers, first_short}
use Rattle.text.specs.Limits.{store_length}
use Rattle.text.specs.Limits.{distances_length, table_length, run_length, word_length}
use Rattle.text.specs.Model.{Model}
use Rattle.model.specs.Store.{Good}
use Rattle.verdicts.specs.JudgeFilled.{JudgeFilled}
use Rattle.lines.specs.declared.lines.Form.{Form}
use Rattle.lines.specs.Roll.{form_length}
use Rattle.page.specs.PagePromise.{page_least, PagePrinted}

-- Lengths that are the least or more.
pub record LongLengths (form : Form) (store distances table run word out : ℕ) : Type 0 where
  pub store_length_is : store_length ≤ store
  pub distances_length_is : distances_length ≤ distances
  pub table_length_is : table_length ≤ table
  pub run_length_is : run_length ≤ run
  pub word-length : word_length ≤ word
  pub out_length : form_length form ≤ out

abbrev pub LongLists : Form → List ℕ → List ℕ → List ℕ → List ℕ → List ℕ → List ℕ → Type 0
LongLists form store distances table run word out =
    LongLengths form (length store) (length distances) (length table) (length run) (length word) (length out)

-- List k is the first that is too short, by their lengths.
pub record ShortAt (form : Form) (store distances table run word out k : ℕ) : Type 0 where
  pub place_le : k ≤ 6
  pub short : first_short 1 (store ∷ distances ∷ table ∷ run ∷ word ∷ out ∷ []) (page_least form) ≡ some k

-- The first of the lists that is too short; none where none is.
abbrev pub FirstShort : Form → Option ℕ → ℕ → ℕ → ℕ → ℕ → ℕ → ℕ → Type 0
FirstShort form r store distances table run word out =
    MatchOption r (LongLengths form store distances table run word out)
    (ShortAt form store distances table run word out)

-- A good store among them.
pub record PageLists (form : Form) (store distances table run word out : List ℕ) : Type 0 where
  pub good : Good store
  pub long : LongLists form store distances table run word out

-- The page has n bytes in its form.
pub record PageMade (form : Form) (m : Model) (n : ℕ)
    (distances table run word out distances' table' run' word' out' : List ℕ) : Type 0 where
  pub filled : JudgeFilled m distances table distances' table'
  pub printed : PagePrinted form m (answers (n ∷ [])) run word out run' word' out'
