-- A row, column by column: the columns that it leaves free are passed, and the others hold its numbers.
-- Assumes nothing. Only functions that read a row cite it.
use Rattle.std.specs.Prelude.{Bool, true, false, List, [], ◌∷◌, ◌≡◌, refl, ℕ, zero, suc, ◌+◌, ◌-◌, ◌≤◌, ◌<◌, length}
use Rattle.std.specs.Prelude.{get_or, Some, Result, Ok, Err}
use Rattle.std.proofs.Common.{sym, ◌∙◌, length-drop, get_or-drop}
use Rattle.std.proofs.Math.Path.{ap}
use native.Mathlib.Omega.{arith}
use Rattle.std.proofs.Math.ListN.{drop, set}
use Rattle.text.specs.declared.Head.{Head}
use Rattle.text.specs.declared.number.Bounds.{Bounds}
use Rattle.text.specs.declared.number.NumberFault.{NumberFault}
use Rattle.text.specs.declared.number.NumberFault.TheVariants.{BadDigits, Outside}
use Rattle.text.specs.declared.row.Row.{Row}
use Rattle.text.specs.declared.row.Row.TheVariants.{HeadRow, StartRow, StepRow}
use Rattle.text.specs.Numbers.{below}
use Rattle.text.specs.Lines.{row_letter, row_count, row_bounds, step_numbers}
use Rattle.text.specs.Inner.NumberAt.{field_of, Followed, NumberRead}
use Rattle.text.specs.Bytes.{kind_of}
use Rattle.text.specs.Inner.Row.{RowBegins, separator_kind, BadNumbers, RowScanned}
use Rattle.text.specs.Inner.Columns.{columns, first_column, numbers_in, ColumnsTo, ColumnsScanned}
use Rattle.text.specs.Laws.SplitLaws.{Is, same, other, is}
use Rattle.text.specs.Laws.RowLaws.{row_count_le, separator_kind_last, separator_kind_other, not_bad_value}
use Rattle.text.specs.Laws.RowLaws.{not_bad_outside}
use Rattle.text.specs.Laws.RowToLaws.{row_begin, row_bad, row_value, row_outside}

-- a number that is stored in a column is stored among the numbers
drop-set : (n j v : ℕ) (l : List ℕ) → drop n (set l (n + j) v) ≡ set (drop n l) j v
drop-set zero j v l = ap (λ (k : ℕ). set l k v) (omega arith)
drop-set (suc n) j v [] = refl
drop-set (suc n) j v (x ∷ l) =
    let one : suc n + j ≡ suc (n + j) = omega arith in
    ap (λ (k : ℕ). drop (suc n) (set (x ∷ l) k v)) one ∙ drop-set n j v l

-- the states of line 1 stand in its first column, and no other row asks for them
row_bounds_column : (row : Row) (out : List ℕ)
    → row_bounds row (get_or out 0 0) ≡ row_bounds row (get_or (numbers_in row out) 0 0)
unfolding row_bounds row_count
row_bounds_column HeadRow out = refl
row_bounds_column (StartRow h) out = refl
row_bounds_column (StepRow h) out = refl

-- the columns hold all numbers of a row
pub columns_all : (row : Row) → columns - first_column row ≡ row_count row
columns_all row = let l = row_count_le row in omega arith

pub columns_begin : (row : Row) (text : List ℕ) (at : ℕ) (out : List ℕ) → RowBegins (row_letter row) text at
    → length out ≡ columns → get_or (numbers_in row out) 0 0 ≡ 0 → ColumnsTo row text at false out 0 (at + 1)
columns_begin row text at out b w z =
    let l = row_count_le row in
    let d = length-drop (first_column row) out in
    let n : length (numbers_in row out) ≡ row_count row = omega arith in
    let none : 0 - first_column row ≡ 0 = omega arith in
    record { width = w; row_to = rw none (row_begin row text at b (numbers_in row out) n z) }

-- an extra start stands in the last column
pub start_number_column : (h : Head) (out : List ℕ) → get_or (numbers_in (StartRow h) out) 0 0 ≡ get_or out 3 0
unfolding row_count
start_number_column h out = get_or-drop 3 out 0 0

-- a step's numbers stand behind the first column
pub step_numbers-columns : (h : Head) (out : List ℕ) → step_numbers (numbers_in (StepRow h) out)
    ≡ record {
      source = record { 0 = get_or out 1 0 };
      action = record { 0 = get_or out 2 0 };
      target = record { 0 = get_or out 3 0 };
    }
unfolding row_count
step_numbers-columns h out = rw (get_or-drop 1 out 0 0, get_or-drop 1 out 1 0, get_or-drop 1 out 2 0)

module _ (row : Row) (text : List ℕ) (at : ℕ) (outside : Bool) (out : List ℕ) (column e : ℕ)
    (t : ColumnsTo row text at outside out column e) where
  -- a column that the row leaves free
  pub column_free : column < first_column row → ColumnsScanned row text at out (column + 1) (Some (record { end = e; outside = outside }))
  unfolding RowScanned
  column_free lt =
      let z : column + 1 - first_column row ≡ column - first_column row = omega arith in
      rw z t.row_to

  module _ (filled : first_column row ≤ column) (lt : column < columns) (b : Bounds)
      (given : b ≡ get_or (row_bounds row (get_or out 0 0)) (column - first_column row) (below 0))
      {due : ℕ} (separated : due ≡ separator_kind (column + 1) columns)
      {number : Result ℕ NumberFault} {e' : ℕ} (n : NumberRead b due text (e + 1) number e') where
    abbrev i : ℕ
    i = column - first_column row

    i_lt : i < row_count row
    i_lt = let l = row_count_le row in omega arith

    i_suc : column + 1 - first_column row ≡ i + 1
    i_suc = omega arith

    bounds : b ≡ get_or (row_bounds row (get_or (numbers_in row out) 0 0)) i (below 0)
    bounds = given ∙ ap (λ (bs : List Bounds). get_or bs i (below 0)) (row_bounds_column row out)

    -- the last column is that of the last number
    separator : separator_kind (column + 1) columns ≡ separator_kind (i + 1) (row_count row)
    separator = by_place (is (column + 1) columns)
      where
        by_place : Is (column + 1) columns → separator_kind (column + 1) columns ≡ separator_kind (i + 1)
            (row_count row)
        by_place (same z) =
            let l = row_count_le row in
            separator_kind_last (column + 1) columns z
            ∙ sym (separator_kind_last (i + 1) (row_count row) (omega (arith, z)))
        by_place (other z) =
            let l = row_count_le row in
            separator_kind_other (column + 1) columns z
            ∙ sym (separator_kind_other (i + 1) (row_count row) (λ y. z (omega (arith, y))))

    due_is : due ≡ separator_kind (i + 1) (row_count row)
    due_is = separated ∙ separator

    pub column_bad : number ≡ Err BadDigits → BadNumbers row text at
    column_bad h =
        row_bad row text at outside (numbers_in row out) i e t.row_to i_lt b bounds
        (λ follows. n.read (follows ∙ sym due_is) ∙ h)

    -- a number is followed by what is due
    module _ (some : number ≡ Err BadDigits → ⊥) where
      followed : Followed due text (e + 1)
      followed = by_kind (is _ due)
        where
          by_kind : Is (kind_of (get_or text (e + 1 + length (field_of (drop (e + 1) text))) 0)) due
              → Followed due text (e + 1)
          by_kind (same z) = z
          by_kind (other z) = absurd (some (n.other z))

      place : e' ≡ e + 1 + length (field_of (drop (e + 1) text))
      place = n.place some

    pub column_outside : number ≡ Err Outside → ColumnsScanned row text at out (column + 1) (Some (record { end = e'; outside = true }))
    unfolding RowScanned
    column_outside h =
        let some = not_bad_outside h in
        rw (i_suc, place some) (row_outside row text at outside (numbers_in row out) i e t.row_to i_lt b bounds
        (followed some ∙ due_is) (n.read (followed some) ∙ h))

    pub column_value : (v : ℕ) → number ≡ Ok v
        → ColumnsScanned row text at (set out column v) (column + 1) (Some (record { end = e'; outside = outside }))
    unfolding RowScanned
    column_value v h =
        let some = not_bad_value h in
        let at-column : column ≡ first_column row + i = omega arith in
        let stored : numbers_in row (set out column v) ≡ set (numbers_in row out) i v =
        ap (λ (c : ℕ). drop (first_column row) (set out c v)) at-column ∙ drop-set (first_column row) i v out in
        rw (stored, i_suc, place some) (row_value row text at outside (numbers_in row out) i e t.row_to i_lt b bounds
        (followed some ∙ due_is) v (n.read (followed some) ∙ h))
