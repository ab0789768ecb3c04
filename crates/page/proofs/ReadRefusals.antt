-- What a refusal of Read leaves, and the line that tells it. Assumes nothing.
use Rattle.std.proofs.Common.{List, [], ◌∷◌, ◌≡◌, refl, sym, ap, subst, ◌∙◌, ℕ, ◌≤◌, arith, length, Err}
use Rattle.read_write.specs.declared.read.ReadRefusal.{ReadRefusal}
use Rattle.text.specs.Faults.{answers, refuses}
use Rattle.text.specs.Laws.OutcomeLaws.{answers_not_refuses}
use Rattle.text.specs.Limits.{store_length}
use Rattle.read_write.specs.ReadPromise.{read_outcome, reading_outcome, ReadPromise}
use Rattle.reader.specs.Answers.{reading_store}
use Rattle.model.specs.Reading.{Reading, done, too_long, faulty}
use Rattle.read_write.specs.Laws.ReadPromiseLaws.{read_lists_none}
use Rattle.read_write.specs.Laws.ReadingPlaceLaws.{reading_place_lt}
use Rattle.writer.specs.Laws.WroteLaws.{wrote-start}
use Rattle.lines.specs.declared.lines.Form.{Form}
use Rattle.lines.specs.Roll.{form_length}
use Rattle.lines.specs.Laws.PageLinesLaws.{fault-length_le}
use Rattle.page.specs.PrintPromise.{FaultPrinted}
use Rattle.page.specs.Inner.Refusals.{PlaceFits, FaultWritten}
use Rattle.page.specs.Laws.PageLaws.{page_length_le}

-- the place of any refusal has 16 bits
pub refuses_of : {text store exit : List ℕ} {r : ReadRefusal} → ReadPromise text store (read_outcome (Err r)) exit
    → store_length ≤ length store → PlaceFits r
refuses_of {text} {store} reads long = record {
  place_lt = λ number place e.
      reading_place_lt text number place (sym (reads.answer (read_lists_none text store long)) ∙ e);
}

-- a refused text leaves the store as it was
pub refused_store : (r : Reading) (store : List ℕ) {number place : ℕ} → reading_outcome r ≡ refuses number place
    → reading_store r store ≡ store
unfolding reading_outcome reading_store
refused_store (done m) store e = absurd (answers_not_refuses e)
refused_store too_long store e = refl
refused_store (faulty fault line) store e = refl

-- the line of a refusal stands at the front of the list
pub fault_printed : (form : Form) {number place : ℕ} (n : ℕ) {out out' : List ℕ} → form_length form ≤ length out
    → FaultWritten (refuses number place) out out' n → FaultPrinted number place (answers (n ∷ [])) out out'
fault_printed form {number} {place} n {out} {out'} long x =
    let e = x.outcome_is in
    let i : x.number ≡ number = cc in
    let j : x.place ≡ place = cc in
    let w = wrote-start x.wrote (omega (
      arith,
      fault-length_le x.number x.place,
      page_length_le form,
      long,
    )) in
    subst (λ (k : ℕ). FaultPrinted k place (answers (n ∷ [])) out out') i
    (subst (λ (k : ℕ). FaultPrinted x.number k (answers (n ∷ [])) out out') j
    (record { outcome_is = ap (λ (k : ℕ). answers (k ∷ [])) w.0; list = w.1 }))
