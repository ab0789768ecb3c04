-- The promise of the path from a text to its page or roll pins the answer and the content of each list.
-- Document 01, "The page"; document 02, (ii). Assumes nothing.
use Rattle.std.specs.Prelude.{Result, Ok, Err, List, ◌⊎◌, ◌≡◌, refl, ℕ, get_or}
use Rattle.std.proofs.Common.{inl, inr, ap, ◌∙◌}
use Rattle.std.proofs.Math.Option.{none, some}
use Rattle.std.proofs.Math.Path.{sym}
use Rattle.text.specs.Faults.{Outcome, answers, refuses, fault_number}
use Rattle.text.specs.Laws.OutcomeLaws.{injective_of_inverse}
use Rattle.read_write.specs.ReadPromise.{reading_outcome}
use Rattle.model.specs.Reading.{Reading, done, too_long, faulty, read_text}
use Rattle.model.proofs.Laws.OnStoreLaws.{option_cases}
use Rattle.model.proofs.Laws.Text.ReadingLaws.{read_text_well_formed}
use Rattle.model.proofs.Laws.System.GoodStoredLaws.{well_formed_stored}
use Rattle.verdicts.specs.Laws.JudgeFilledLaws.{filled_unique}
use Rattle.lines.specs.declared.lines.Form.{Form}
use Rattle.page.specs.declared.print.ShortList.{ShortList}
use Rattle.page.specs.PrintPromise.{print_outcome, print_lists, Unchanged, FaultPrinted, PrintPromise}
use Rattle.page.specs.Laws.PagePromiseLaws.{page_printed_unique}

fault_printed_unique : {number place : ℕ} {t u : Outcome} {out out' out'' : List ℕ}
    → FaultPrinted number place t out out' → FaultPrinted number place u out out'' → (t ≡ u) × (out' ≡ out'')
fault_printed_unique x y = (x.outcome_is ∙ sym y.outcome_is, x.list ∙ sym y.list)

module _ {form : Form} {text store distances table run word out : List ℕ} {t u : Outcome}
    {s' d' t' r' w' o' s'' d'' t'' r'' w'' o'' : List ℕ}
    (x : PrintPromise form text store distances table run word out t s' d' t' r' w' o')
    (y : PrintPromise form text store distances table run word out u s'' d'' t'' r'' w'' o'') where
  -- one answer, and one content of each list
  abbrev Same : Type 0
  Same = (t ≡ u) × (s' ≡ s'') × (d' ≡ d'') × (t' ≡ t'') × (r' ≡ r'') × (w' ≡ w'') × (o' ≡ o'')

  unchanged_same : Unchanged store distances table run word s' d' t' r' w'
      → Unchanged store distances table run word s'' d'' t'' r'' w'' → t ≡ u → o' ≡ o'' → Same
  unchanged_same a b e f = (
    e,
    a.store_kept ∙ sym b.store_kept,
    a.distances_kept ∙ sym b.distances_kept,
    a.table_kept ∙ sym b.table_kept,
    a.run_kept ∙ sym b.run_kept,
    a.word_kept ∙ sym b.word_kept,
    f,
  )

  unread_same : print_lists form text store distances table run word out ≡ none → (number place : ℕ)
      → reading_outcome (read_text text) ≡ refuses number place → Same
  unread_same long number place e =
      let a = x.unread long number place e in
      let b = y.unread long number place e in
      let f = fault_printed_unique a.1 b.1 in
      unchanged_same a.0 b.0 f.0 f.1

  read_same : print_lists form text store distances table run word out ≡ none → (r : Reading) → read_text text ≡ r →
      Same
  unfolding reading_outcome
  read_same long (done m) e =
      let a = x.read long m e in
      let b = y.read long m e in
      let f = filled_unique (well_formed_stored (read_text_well_formed text m e)) distances table d' t' d'' t'' a.filled
      b.filled in
      let g = page_printed_unique a.printed b.printed in
      (g.0, a.store_filled ∙ sym b.store_filled, f.0, f.1, g.1, g.2, g.3)
  read_same long too_long e = unread_same long 1 0 (ap reading_outcome e)
  read_same long (faulty fault line) e = unread_same long (fault_number fault) line (ap reading_outcome e)

  pub print_promise_unique : Same
  print_promise_unique = go (option_cases (print_lists form text store distances table run word out))
    where
      go : ((k : ℕ) × (print_lists form text store distances table run word out ≡ some k))
          ⊎ (print_lists form text store distances table run word out ≡ none) → Same
      go (inl (k, e)) =
          let a = x.short k e in
          let b = y.short k e in
          unchanged_same a.1 b.1 (a.0 ∙ sym b.0) (a.2 ∙ sym b.2)
      go (inr e) = read_same e (read_text text) refl

-- ---- equal outcomes are equal answers

print_back : Outcome → Result ℕ ShortList
print_back (answers values) = Ok (get_or values 0 0)
print_back (refuses number place) = Err (record { 0 = place })

print_back_is : (a : Result ℕ ShortList) → print_back (print_outcome a) ≡ a
unfolding print_outcome print_back
print_back_is (Ok length) = refl
print_back_is (Err short) = refl

pub print_outcome_injective : (a b : Result ℕ ShortList) → print_outcome a ≡ print_outcome b → a ≡ b
print_outcome_injective = injective_of_inverse print_outcome print_back print_back_is
