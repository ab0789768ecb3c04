-- What is printed of a text: the line of Read's refusal, or what is printed of the model that Read left in the store.
-- Assumes nothing.
use Rattle.std.proofs.Common.{List, ◌++◌, ◌≡◌, sym, ap, subst, ◌∙◌, ℕ, ◌≤◌, min, arith, length, take, drop, length-take}
use Rattle.std.proofs.Common.{Result, Ok}
use Rattle.read_write.specs.declared.read.ReadRefusal.{ReadRefusal}
use Rattle.text.specs.Faults.{Outcome}
use Rattle.text.specs.Laws.ListsLaws.{take-filled}
use Rattle.text.specs.Laws.OutcomeLaws.{answers_not_refuses}
use Rattle.text.specs.Limits.{store_length, page_length}
use Rattle.text.specs.Model.{Model}
use Rattle.read_write.specs.ReadPromise.{read_outcome, reading_outcome, ReadPromise}
use Rattle.read_write.specs.Laws.ReadPromiseLaws.{read_lists_none}
use Rattle.reader.specs.Answers.{reading_store}
use Rattle.model.specs.Reading.{Reading, read_text}
use Rattle.model.specs.Store.{store_of}
use Rattle.model.specs.StoredModel.{model_at}
use Rattle.model.proofs.Laws.Store.StoredModelLaws.{model_at_store_of}
use Rattle.model.proofs.Laws.Text.ReadingLaws.{read_text_well_formed}
use Rattle.writer.specs.Wrote.{Wrote}
use Rattle.writer.specs.Laws.WroteLaws.{wrote-start, wrote-length}
use Rattle.lines.specs.PageLines.{fault_bytes}
use Rattle.lines.specs.Laws.PageLinesLaws.{fault-length_le}
use Rattle.lines.specs.declared.lines.Form.TheVariants.{Page}
use Rattle.page.specs.PrintsText.{PrintsText}
use Rattle.page.specs.Inner.Refusals.{FaultWritten}
use Rattle.page.specs.Laws.PrintClaimLaws.{same_number}
use Rattle.page.proofs.ReadRefusals.{fault_printed}

-- So many bytes stand in the list, as a part of it is asked for.
counts_of_le : {n : ℕ} (list : List ℕ) → n ≤ length list → (n ≤ length list) × (n ≡ length (take n list))
counts_of_le {n} list le =
    let taken : length (take n list) ≡ min n (length list) = length-take n list in
    (le, omega (arith, le, taken))

-- The line of a refusal stands at the front of the list.
module _ (number place : ℕ) {n : ℕ} {out out' : List ℕ} (long : page_length ≤ length out)
    (w : Wrote out 0 (fault_bytes number place) out' n) where
  pub line_counts : (n ≤ length out') × (n ≡ length (take n out'))
  line_counts = counts_of_le out' (omega (arith, w.place, wrote-length w, fault-length_le number place, long))

  pub line_taken : take n out' ≡ fault_bytes number place
  line_taken =
      let front = wrote-start w (omega (arith, fault-length_le number place, long)) in
      take-filled (fault_bytes number place) _ front.1 n front.0

module _ (Of : Model → List ℕ → Type 0) {text store store' : List ℕ} (r : Result (Unit {0}) ReadRefusal)
    (reads : ReadPromise text store (read_outcome r) store') (long : store_length ≤ length store) where
  reading : read_outcome r ≡ reading_outcome (read_text text)
  reading = reads.answer (read_lists_none text store long)

  pub prints_text_unread : {n : ℕ} {out out' : List ℕ} → page_length ≤ length out
      → FaultWritten (read_outcome r) out out' n → PrintsText Of text (take n out')
  unfolding reading_outcome
  prints_text_unread {n} {out} {out'} room x = record {
    unread = λ number place e.
        let line = fault_printed Page n room (subst (λ (o : Outcome). FaultWritten o out out' n) (reading ∙ e) x) in
        take-filled (fault_bytes number place) _ line.list n (same_number line.outcome_is);
    read = λ m e. absurd (answers_not_refuses (ap reading_outcome (sym e) ∙ sym reading ∙ x.outcome_is));
  }

  pub prints_text_read : r ≡ Ok tt → {bytes : List ℕ} → Of (model_at store') bytes → PrintsText Of text bytes
  unfolding read_outcome reading_outcome reading_store
  prints_text_read e {bytes} x = record {
    unread = λ number place f. absurd (answers_not_refuses (ap read_outcome (sym e) ∙ reading ∙ f));
    read = λ m f.
        let filled : store' ≡ store_of m ++ drop store_length store =
        reads.filled (read_lists_none text store long) ∙ ap (λ (z : Reading). reading_store z store) f in
        let model : model_at store' ≡ m =
        ap model_at filled ∙ model_at_store_of m (drop store_length store) (read_text_well_formed text m f) in
        subst (λ (z : Model). Of z bytes) model x;
  }
