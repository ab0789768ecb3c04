-- The promises of Page and of Roll: one promise, which holds of lines in either form.
-- Document 01, operation 7, "The page" and "Refused because of the state"; document 02, (ii).
use Rattle.std.specs.Prelude.{Result, Ok, Err, List, [], ◌∷◌, ◌++◌, ◌≡◌, ℕ, length, drop}
use Rattle.std.proofs.Math.Option.{Option}
use Rattle.text.specs.Limits.{store_length}
use Rattle.text.specs.Limits.{distances_length, table_length, run_length, word_length}
use Rattle.text.specs.Faults.{Outcome, answers, first_short}
use Rattle.text.specs.Model.{Model}
use Rattle.model.specs.OnStore.{OnStore}
use Rattle.verdicts.specs.JudgeFilled.{JudgeFilled}
use Rattle.model.specs.declared.refusal.Refusal.{Refusal}
use Rattle.model.specs.Refusals.{refusal_outcome}
use Rattle.lines.specs.declared.lines.Form.{Form}
use Rattle.lines.specs.declared.lines.Form.TheVariants.{Page, Roll}
use Rattle.lines.specs.PageLines.{PageLine}
use Rattle.lines.specs.Page.{PageOf}
use Rattle.lines.specs.Roll.{form_bytes, form_length}

-- "Answers the bytes written."
unfoldable pub page_outcome : Result ℕ Refusal → Outcome
page_outcome (Ok length) = answers (length ∷ [])
page_outcome (Err refusal) = refusal_outcome refusal

-- The least lengths of the lists: `out` has that of the form.
abbrev pub page_least : Form → List ℕ
page_least form = store_length ∷ distances_length ∷ table_length ∷ run_length ∷ word_length ∷ form_length form ∷ []

abbrev pub page_lists : Form → List ℕ → List ℕ → List ℕ → List ℕ → List ℕ → List ℕ → Option ℕ
page_lists form store distances table run word out =
    first_short 1 (length store ∷ length distances ∷ length table ∷ length run ∷ length word ∷ length out ∷ [])
    (page_least form)

-- The lines of the page, in a form, in the list of bytes: "places of [..] out past the answered length [..] keep their
-- old contents".
pub record PagePrinted (form : Form) (m : Model) (outcome : Outcome) (run word out run' word' out' : List ℕ)
    : Type 0 where
  pub lines : List PageLine
  pub page : PageOf m run word run' word' lines
  pub outcome_is : outcome ≡ answers (length (form_bytes form m lines) ∷ [])
  pub list : out' ≡ form_bytes form m lines ++ drop (length (form_bytes form m lines)) out

-- A good store's lists are filled as Judge, Run and Word do, and the lines printed in the form; else nothing changes.
abbrev pub FormPromise : Form → List ℕ → List ℕ → List ℕ → List ℕ → List ℕ → List ℕ → Outcome
    → List ℕ → List ℕ → List ℕ → List ℕ → List ℕ → Type 0
FormPromise form store distances table run word out outcome distances' table' run' word' out' =
    OnStore (page_lists form store distances table run word out) store outcome
    ((distances' ≡ distances) × (table' ≡ table) × (run' ≡ run) × (word' ≡ word) × (out' ≡ out))
    (λ g. JudgeFilled g.model distances table distances' table'
    × PagePrinted form g.model outcome run word out run' word' out')

-- Page: `page_bytes` of the lines, in 5,000 bytes.
abbrev pub PagePromise : List ℕ → List ℕ → List ℕ → List ℕ → List ℕ → List ℕ → Outcome
    → List ℕ → List ℕ → List ℕ → List ℕ → List ℕ → Type 0
PagePromise = FormPromise Page

-- Roll: `roll_bytes` of the same lines. "It takes and fills Page's lists, out with at least 35,840 bytes."
abbrev pub RollPromise : List ℕ → List ℕ → List ℕ → List ℕ → List ℕ → List ℕ → Outcome
    → List ℕ → List ℕ → List ℕ → List ℕ → List ℕ → Type 0
RollPromise = FormPromise Roll
