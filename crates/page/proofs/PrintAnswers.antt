-- Each answer of `print_in_form` keeps its promise and the claim: the lists' lengths decide first, then whether the
-- text is read. Assumes nothing.
use Rattle.std.proofs.Common.{List, [], ◌∷◌, ◌++◌, ◌≡◌, refl, sym, ap, subst, ◌∙◌, ℕ, ◌+◌, ◌≤◌, ◌<◌, add-one, arith}
use Rattle.std.proofs.Common.{length, drop, Result, Ok, Err}
use mathlib.Core.Option.{none, some}
use Rattle.read_write.specs.declared.read.ReadRefusal.{ReadRefusal}
use Rattle.text.specs.Faults.{Outcome, answers, refuses}
use Rattle.text.specs.Laws.OutcomeLaws.{answers_not_refuses}
use Rattle.text.specs.Limits.{store_length}
use Rattle.text.specs.Laws.FirstShortLaws.{first_short_le, first_short-suc}
use Rattle.text.specs.Model.{Model}
use Rattle.read_write.specs.ReadPromise.{read_outcome, reading_outcome, ReadPromise}
use Rattle.reader.specs.Answers.{reading_store}
use Rattle.model.specs.Reading.{Reading, read_text}
use Rattle.model.specs.Store.{store_of}
use Rattle.model.specs.StoredModel.{model_at}
use Rattle.read_write.specs.Laws.ReadPromiseLaws.{read_lists_none}
use Rattle.model.proofs.Laws.Store.StoredModelLaws.{model_at_store_of}
use Rattle.model.proofs.Laws.Text.ReadingLaws.{read_text_well_formed}
use Rattle.lines.specs.declared.lines.Form.{Form}
use Rattle.page.specs.declared.print.ShortList.{ShortList}
use Rattle.page.specs.Claim.{PrintClaim}
use Rattle.page.specs.PrintPromise.{print_outcome, print_lists, PrintPromise}
use Rattle.page.specs.Inner.PageLists.{LongLists, ShortAt, PageMade}
use Rattle.page.specs.Inner.Refusals.{FaultWritten}
use Rattle.page.specs.Laws.PrintClaimLaws.{print_claim}
use Rattle.page.specs.Laws.PrintsLaws.{print_lists_none}
use Rattle.page.proofs.ReadRefusals.{refused_store, fault_printed}

-- ---- on any lists

module _ (form : Form) (text store distances table run word out : List ℕ) where
  -- an answer that leaves all lists as they were
  abbrev Refused : Result ℕ ShortList → Type 0
  Refused r =
      PrintPromise form text store distances table run word out (print_outcome r) store distances table run word out
      × PrintClaim form text (print_outcome r) word out

  place_promised : (place : ℕ) → print_lists form text store distances table run word out ≡ some place
      → PrintPromise form text store distances table run word out (print_outcome (Err (record { 0 = place }))) store
      distances table run word out
  unfolding print_outcome
  place_promised place e = record {
    short = λ k h.
        let same : place ≡ k = cc in (
          ap (refuses 21) same,
          record { store_kept = refl; distances_kept = refl; table_kept = refl; run_kept = refl; word_kept = refl },
          refl,
        );
    unread = λ h. let z : ◌≡◌ {A = ℕ} 0 1 = cc in absurd (omega arith);
    read = λ h. let z : ◌≡◌ {A = ℕ} 0 1 = cc in absurd (omega arith);
  }

  short_refused : (place : ℕ) → print_lists form text store distances table run word out ≡ some place
      → Refused (Err (record { 0 = place }))
  short_refused place e = let promise = place_promised place e in (promise, print_claim promise)

  -- the text is list 1, and Page's lists follow it
  pub short_promised : (k : ℕ)
      → ShortAt form (length store) (length distances) (length table) (length run) (length word) (length out) k
      → Refused (Err (record { 0 = k + 1 }))
  short_promised k x =
      let any-text : 0 ≤ length text = omega arith in
      short_refused (k + 1)
      (first_short_le 1 _ _ any-text ∙ first_short-suc 1 _ _ x.short ∙ ap some (sym (add-one k)))

  -- ---- on long lists

  -- the bytes that were printed
  pub printed_claimed : (n : ℕ) (store' distances' table' run' word' out' : List ℕ)
      → PrintPromise form text store distances table run word out (answers (n ∷ [])) store' distances' table' run' word'
      out'
      → PrintPromise form text store distances table run word out (print_outcome (Ok n)) store' distances' table'
      run' word' out' × PrintClaim form text (print_outcome (Ok n)) word' out'
  unfolding print_outcome
  printed_claimed n store' distances' table' run' word' out' promise = (promise, print_claim promise)

  module _ (long : LongLists form store distances table run word out) where
    not_short : (k : ℕ) → ¬ (print_lists form text store distances table run word out ≡ some k)
    not_short k h =
        let e : none ≡ some k = sym (print_lists_none form text store distances table run word out long) ∙ h in
        let z : ◌≡◌ {A = ℕ} 0 1 = cc in
        omega arith

    module _ (r : Result (Unit {0}) ReadRefusal) {store' : List ℕ} (reads : ReadPromise text store (read_outcome r) store') where
      reading : read_outcome r ≡ reading_outcome (read_text text)
      reading = reads.answer (read_lists_none text store long.store_length_is)

      pub unread_promised : (n : ℕ) (out' : List ℕ) → FaultWritten (read_outcome r) out out' n
          → PrintPromise form text store distances table run word out (answers (n ∷ [])) store' distances table run word
          out'
      unfolding reading_outcome
      unread_promised n out' x = record {
        short = λ k h. absurd (not_short k h);
        unread = λ h number place e. (
          record {
            store_kept =
                reads.filled (read_lists_none text store long.store_length_is)
                ∙ refused_store (read_text text) store e;
            distances_kept = refl;
            table_kept = refl;
            run_kept = refl;
            word_kept = refl;
          },
          fault_printed form n long.out_length (subst (λ (o : Outcome). FaultWritten o out out' n) (reading ∙ e) x),
        );
        read = λ h m e. absurd (answers_not_refuses (ap reading_outcome (sym e) ∙ sym reading ∙ x.outcome_is));
      }

      pub read_promised : r ≡ Ok tt → (n : ℕ) (distances' table' run' word' out' : List ℕ)
          → PageMade form (model_at store') n distances table run word out distances' table' run' word' out'
          → PrintPromise form text store distances table run word out (answers (n ∷ [])) store' distances' table' run'
          word' out'
      unfolding read_outcome reading_outcome reading_store
      read_promised e n distances' table' run' word' out' x = record {
        short = λ k h. absurd (not_short k h);
        unread = λ h number place f. absurd (answers_not_refuses (ap read_outcome (sym e) ∙ reading ∙ f));
        read = λ h m f.
            let filled : store' ≡ store_of m ++ drop store_length store =
            reads.filled (read_lists_none text store long.store_length_is)
            ∙ ap (λ (z : Reading). reading_store z store) f in
            let model : model_at store' ≡ m =
            ap model_at filled ∙ model_at_store_of m (drop store_length store) (read_text_well_formed text m f) in
            let made =
            subst (λ (z : Model). PageMade form z n distances table run word out distances' table' run' word' out')
            model x in
            record { store_filled = filled; filled = made.filled; printed = made.printed };
      }
