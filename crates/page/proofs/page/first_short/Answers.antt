-- The lengths are tested in the order in which 21 counts the lists. Assumes nothing.
use Rattle.std.proofs.Common.{[], ◌∷◌, ◌≡◌, ℕ, ◌≤◌, arith}
use mathlib.Core.Option.{some}
use Rattle.text.specs.Faults.{first_short}
use Rattle.text.specs.Laws.FirstShortLaws.{first_short_is, second_short, third_short, fourth_short, fifth_short}
use Rattle.text.specs.Laws.FirstShortLaws.{sixth_short}
use Rattle.lines.specs.declared.lines.Form.{Form}
use Rattle.page.specs.PagePromise.{page_least}
use Rattle.page.specs.Inner.PageLists.{ShortAt}
use Rattle.page.proofs.page.first_short.Goals as goal

-- list k is the first short one
at_place : (form : Form) (store distances table run word out k : ℕ) → k ≤ 6
    → first_short 1 (store ∷ distances ∷ table ∷ run ∷ word ∷ out ∷ []) (page_least form) ≡ some k
    → ShortAt form store distances table run word out k
at_place form store distances table run word out k l e = record { place_le = l; short = e }

pub returns-then-store-lt-STORE_LENGTH : goal.returns-then-store-lt-STORE_LENGTH
returns-then-store-lt-STORE_LENGTH c = at_place _ _ _ _ _ _ _ 1 (omega arith)
    (first_short_is _ _ c.if-store-lt-STORE_LENGTH.true)

pub returns-then-distances-lt-DISTANCES_LENGTH : goal.returns-then-distances-lt-DISTANCES_LENGTH
returns-then-distances-lt-DISTANCES_LENGTH c =
    at_place _ _ _ _ _ _ _ 2 (omega arith) (second_short _ _ c.if-store-lt-STORE_LENGTH.false
    c.if-distances-lt-DISTANCES_LENGTH.true)

pub returns-then-table-lt-TABLE_LENGTH : goal.returns-then-table-lt-TABLE_LENGTH
returns-then-table-lt-TABLE_LENGTH c =
    at_place _ _ _ _ _ _ _ 3 (omega arith)
    (third_short _ _ c.if-store-lt-STORE_LENGTH.false c.if-distances-lt-DISTANCES_LENGTH.false
    c.if-table-lt-TABLE_LENGTH.true)

pub returns-then-run-lt-RUN_LENGTH : goal.returns-then-run-lt-RUN_LENGTH
returns-then-run-lt-RUN_LENGTH c =
    at_place _ _ _ _ _ _ _ 4 (omega arith)
    (fourth_short _ _ c.if-store-lt-STORE_LENGTH.false c.if-distances-lt-DISTANCES_LENGTH.false
    c.if-table-lt-TABLE_LENGTH.false
    c.if-run-lt-RUN_LENGTH.true)

pub returns-then-word-lt-WORD_LENGTH : goal.returns-then-word-lt-WORD_LENGTH
returns-then-word-lt-WORD_LENGTH c =
    at_place _ _ _ _ _ _ _ 5 (omega arith)
    (fifth_short _ _ c.if-store-lt-STORE_LENGTH.false c.if-distances-lt-DISTANCES_LENGTH.false
    c.if-table-lt-TABLE_LENGTH.false c.if-run-lt-RUN_LENGTH.false c.if-word-lt-WORD_LENGTH.true)

pub returns-then-out-form_length : goal.returns-then-out-form_length
returns-then-out-form_length c =
    at_place _ _ _ _ _ _ _ 6 (omega arith)
    (sixth_short _ _ c.if-store-lt-STORE_LENGTH.false c.if-distances-lt-DISTANCES_LENGTH.false
    c.if-table-lt-TABLE_LENGTH.false c.if-run-lt-RUN_LENGTH.false c.if-word-lt-WORD_LENGTH.false
    (omega (arith, c.if-out-form_length.true, c.form_length.ensures)))

pub returns : goal.returns
returns c =
    record {
      store_length_is = c.if-store-lt-STORE_LENGTH.false;
      distances_length_is = c.if-distances-lt-DISTANCES_LENGTH.false;
      table_length_is = c.if-table-lt-TABLE_LENGTH.false;
      run_length_is = c.if-run-lt-RUN_LENGTH.false;
      word-length = c.if-word-lt-WORD_LENGTH.false;
      out_length = omega (arith, c.if-out-form_length.false, c.form_length.ensures);
    }
