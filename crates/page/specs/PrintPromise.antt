-- The promise of the path from a text to its page, or to its roll.
-- Document 01, "The page": "The program reads standard input and prints the page, or `F,number,place` if Read refuses;
-- each line ends in byte 10." Document 02, (ii): "Shop engineers print the page on the till's own roll."
use Rattle.std.specs.Prelude.{Result, Ok, Err, List, [], ◌∷◌, ◌++◌, ◌≡◌, ℕ, length, drop}
use Rattle.std.proofs.Math.Option.{Option, none, some}
use Rattle.text.specs.Faults.{Outcome, answers, refuses, first_short}
use Rattle.text.specs.Limits.{store_length}
use Rattle.text.specs.Model.{Model}
use Rattle.read_write.specs.ReadPromise.{reading_outcome}
use Rattle.model.specs.Reading.{done, read_text}
use Rattle.model.specs.Store.{store_of}
use Rattle.verdicts.specs.JudgeFilled.{JudgeFilled}
use Rattle.page.specs.declared.print.ShortList.{ShortList}
use Rattle.lines.specs.declared.lines.Form.{Form}
use Rattle.lines.specs.PageLines.{fault_bytes}
use Rattle.page.specs.PagePromise.{page_least, PagePrinted}

-- The bytes written, or 21: the lists are lent as to Read and Page.
unfoldable pub print_outcome : Result ℕ ShortList → Outcome
print_outcome (Ok length) = answers (length ∷ [])
print_outcome (Err short) = refuses 21 short.0

abbrev pub print_lists : Form → List ℕ → List ℕ → List ℕ → List ℕ → List ℕ → List ℕ → List ℕ → Option ℕ
print_lists form text store distances table run word out =
    first_short 1
    (length text ∷ length store ∷ length distances ∷ length table ∷ length run ∷ length word ∷ length out ∷ [])
    (0 ∷ page_least form)

-- All lists but `out` keep their contents.
pub record Unchanged (store distances table run word store' distances' table' run' word' : List ℕ) : Type 0 where
  pub store_kept : store' ≡ store
  pub distances_kept : distances' ≡ distances
  pub table_kept : table' ≡ table
  pub run_kept : run' ≡ run
  pub word_kept : word' ≡ word

-- The line of a refusal, and behind it what stood there: it is no line of a page, and the same in each form.
pub record FaultPrinted (number place : ℕ) (outcome : Outcome) (out out' : List ℕ) : Type 0 where
  pub outcome_is : outcome ≡ answers (length (fault_bytes number place) ∷ [])
  pub list : out' ≡ fault_bytes number place ++ drop (length (fault_bytes number place)) out

-- The store is filled as Read does, and the other lists as Page does.
pub record TextPrinted (form : Form) (m : Model) (outcome : Outcome)
    (store distances table run word out store' distances' table' run' word' out' : List ℕ) : Type 0 where
  pub store_filled : store' ≡ store_of m ++ drop store_length store
  pub filled : JudgeFilled m distances table distances' table'
  pub printed : PagePrinted form m outcome run word out run' word' out'

pub record PrintPromise (form : Form) (text store distances table run word out : List ℕ) (outcome : Outcome)
    (store' distances' table' run' word' out' : List ℕ) : Type 0 where
  pub short : (k : ℕ) → print_lists form text store distances table run word out ≡ some k
      → (outcome ≡ refuses 21 k) × Unchanged store distances table run word store' distances' table' run' word'
      × (out' ≡ out)
  pub unread : print_lists form text store distances table run word out ≡ none → (number place : ℕ)
      → reading_outcome (read_text text) ≡ refuses number place
      → Unchanged store distances table run word store' distances' table' run' word'
      × FaultPrinted number place outcome out out'
  pub read : print_lists form text store distances table run word out ≡ none → (m : Model) → read_text text ≡ done m
      → TextPrinted form m outcome store distances table run word out store' distances' table' run' word' out'
