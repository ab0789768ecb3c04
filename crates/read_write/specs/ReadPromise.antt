-- The promise of Read: text (no least length), store.
-- Document 01, operation 1, and both sections on refusals; document 02, (iii).
use Rattle.std.specs.Prelude.{List, [], ◌∷◌, ◌≡◌, ℕ, length, Result, Ok, Err}
use Rattle.std.proofs.Math.Option.{Option, none, some}
use Rattle.text.specs.Limits.{store_length}
use Rattle.text.specs.Faults.{Outcome, answers, refuses, fault_number, first_short}
use Rattle.model.specs.Reading.{Reading, done, too_long, faulty, read_text}
use Rattle.reader.specs.Answers.{reading_store}
use Rattle.read_write.specs.declared.read.ReadRefusal.{ReadRefusal}
use Rattle.read_write.specs.declared.read.ReadRefusal.TheVariants.{ShortList, TooLong, Faulty}

-- "Read [..] answer[s] only that [it] succeeded"; else the document's number and place
unfoldable pub read_outcome : Result (Unit {0}) ReadRefusal → Outcome
read_outcome (Ok _) = answers []
read_outcome (Err (ShortList place)) = refuses 21 place
read_outcome (Err TooLong) = refuses 1 0
read_outcome (Err (Faulty bad)) = refuses (fault_number bad.fault) bad.line

-- the same of a reading: "tested before any line, place 0"; "The place is the line, counted from 1"
unfoldable pub reading_outcome : Reading → Outcome
reading_outcome (done m) = answers []
reading_outcome too_long = refuses 1 0
reading_outcome (faulty fault line) = refuses (fault_number fault) line

-- the answer that a reading is, with the cause of the fault, which its number tells too
unfoldable pub read_answer : Reading → Result (Unit {0}) ReadRefusal
read_answer (done m) = Ok tt
read_answer too_long = Err TooLong
read_answer (faulty fault line) = Err (Faulty (record { fault = fault; line = line }))

abbrev pub read_lists : List ℕ → List ℕ → Option ℕ
read_lists text store = first_short 1 (length text ∷ length store ∷ []) (0 ∷ store_length ∷ [])

-- A refusal leaves the store as it was; the text is only read. On success 4,100 places are filled, and the rest stays.
pub record ReadPromise (text store : List ℕ) (outcome : Outcome) (exit : List ℕ) : Type 0 where
  pub short : (k : ℕ) → read_lists text store ≡ some k → (outcome ≡ refuses 21 k) × (exit ≡ store)
  pub answer : read_lists text store ≡ none → outcome ≡ reading_outcome (read_text text)
  pub filled : read_lists text store ≡ none → exit ≡ reading_store (read_text text) store

-- Read answers with the cause that the reading finds.
pub record ReadCause (text store : List ℕ) (r : Result (Unit {0}) ReadRefusal) : Type 0 where
  pub cause : read_lists text store ≡ none → r ≡ read_answer (read_text text)
