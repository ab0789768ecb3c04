-- What the row at a place comes to: its faults in their order, and by the answer.
-- Document 02, (i). Assumes nothing. Only functions that read a row cite it.
use Rattle.std.specs.Prelude.{Bool, List, ◌≡◌, refl, ℕ, ◌+◌, ◌-◌, ◌≤◌, ◌<◌, take, drop}
use Rattle.std.specs.Prelude.{Option, Some, None, Result, Ok, Err}
use Rattle.std.proofs.Common.{inl, inr, sym, ap, ◌∙◌}
use Rattle.std.proofs.Math.Path.{subst}
use native.Mathlib.Omega.{arith}
use Rattle.std.proofs.Math.ListN.{length}
use Rattle.text.specs.declared.Fault.{Fault}
use Rattle.text.specs.declared.Fault.TheVariants.{Absent, Shape, Digits}
use Rattle.text.specs.declared.row.Row.{Row}
use Rattle.text.specs.declared.row.RowScan.{RowScan}
use Rattle.text.specs.Bytes.{line_end}
use Rattle.text.specs.Split.{index_of}
use Rattle.text.specs.Lines.{good, bad, fields_of}
use Rattle.text.specs.Lines.{row_letter, row_count, row_from, row_of}
use Rattle.text.specs.Inner.PartAnswers.{Fields}
use Rattle.text.specs.Inner.Row.{LineAt}
use Rattle.text.specs.Inner.Row.{RowTo, BadNumbers, RowScanned, RowRefused, RowAt}

-- ---- what reading some numbers came to

module _ (row : Row) (text : List ℕ) (at : ℕ) (out : List ℕ) (i : ℕ) (r : Option RowScan)
    (s : RowScanned row text at out i r) where
  pub scanned_to : {scan : RowScan} → r ≡ Some scan → RowTo row text at scan.outside out i scan.end
  unfolding RowScanned
  scanned_to h = subst (RowScanned row text at out i) h s

  -- however many numbers are asked for
  pub scanned_bad : (out' : List ℕ) (j : ℕ) → r ≡ None → RowScanned row text at out' j r
  unfolding RowScanned
  scanned_bad out' j h = subst (RowScanned row text at out' j) (sym h) (subst (RowScanned row text at out i) h s)

  pub scanned_bad_numbers : r ≡ None → BadNumbers row text at
  unfolding RowScanned
  scanned_bad_numbers h = subst (RowScanned row text at out i) h s

-- ---- rows that are refused

module _ (row : Row) (text : List ℕ) (at : ℕ) where
  -- what the code tests is what the row has
  pub fields_row : {letter n : ℕ} {l : List ℕ} {r : Bool} → letter ≡ row_letter row → n ≡ row_count row
      → Fields letter n l r → Fields (row_letter row) (row_count row) l r
  fields_row {letter} {n} {l} {r} e f h =
      subst (λ (k : ℕ). Fields (row_letter row) k l r) f (subst (λ (x : ℕ). Fields x n l r) e h)

  module _ (e : ℕ) (found : e ≡ at + index_of line_end (drop at text)) where
    pub refused_absent : length text ≤ e → RowRefused row text at Absent
    refused_absent l = (e, inl (record { found = found; outside = l; absent = refl }))

    module _ (inside : e < length text) where
      length_line : e - at ≡ index_of line_end (drop at text)
      length_line = omega arith

      refused_line : {f : Fault} → row_of row (take (e - at) (drop at text)) ≡ bad f → RowRefused row text at f
      refused_line h = (e, inr (record { found = found; inside = inside; reads = h }))

      pub refused_shape : fields_of (row_letter row) (row_count row) (take (e - at) (drop at text)) ≡ bad Shape
          → RowRefused row text at Shape
      unfolding row_of row_from
      refused_shape h = refused_line (ap (row_from row) h)

      pub refused_digits : BadNumbers row text at → (fs : List (List ℕ))
          → fields_of (row_letter row) (row_count row) (take (e - at) (drop at text)) ≡ good fs
          → RowRefused row text at Digits
      unfolding row_of row_from
      refused_digits c fs h =
          let l : at + index_of line_end (drop at text) < length text = omega arith in
          refused_line (ap (row_from row) h ∙ c.told l fs (rw (sym length_line) h))

-- ---- what a row came to, by the answer

module _ (row : Row) (text : List ℕ) (at : ℕ) (ns : List ℕ) (r : Result ℕ Fault) (a : RowAt row text at ns r) where
  pub row_at_good : {e : ℕ} → r ≡ Ok e → LineAt (row_of row) text at (good ns) e
  unfolding RowAt
  row_at_good h = subst (RowAt row text at ns) h a

  pub row_at_bad : {fault : Fault} → r ≡ Err fault → RowRefused row text at fault
  unfolding RowAt
  row_at_bad h = subst (RowAt row text at ns) h a
