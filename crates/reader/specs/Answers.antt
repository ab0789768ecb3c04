-- What reading a text comes to: the answer, and the store after it.
-- Document 01, operation 1.
use Rattle.std.specs.Prelude.{List, ◌++◌, ◌≡◌, ℕ, drop, Result, Ok, Err}
use Rattle.text.specs.Limits.{store_length}
use Rattle.text.specs.Model.{Model}
use Rattle.model.specs.Reading.{Reading, done, too_long, faulty}
use Rattle.model.specs.Store.{store_of}
use Rattle.reader.specs.declared.answers.LineFault.{LineFault}

-- the store after a reading: "Fills the store", or "All lists keep their contents"
unfoldable pub reading_store : Reading → List ℕ → List ℕ
reading_store (done m) store = store_of m ++ drop store_length store
reading_store too_long store = store
reading_store (faulty fault line) store = store

-- a reading is as the lines' answer says
unfoldable pub ReadAs : Result (Unit {0}) LineFault → Reading → Type 0
ReadAs (Ok _) reading = (m : Model) × (reading ≡ done m)
ReadAs (Err b) reading = reading ≡ faulty b.fault b.line
