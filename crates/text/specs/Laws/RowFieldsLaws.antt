-- The fields of the row at a place: they follow its letter, and a line that has them begins with that letter.
-- Document 01, "The text". Assumes nothing. Only functions that read a row cite it.
use mathlib.Core.List.{List, [], ◌∷◌}
use Rattle.std.proofs.Common.{inl, ◌∙◌, get_or-drop}
use Rattle.std.specs.Prelude.{◌≡◌, refl, ℕ, ◌+◌, length}
use Rattle.std.proofs.Math.Path.{sym, ap}
use native.Mathlib.Omega.{arith}
use Rattle.std.proofs.Math.ListN.{drop, get_or, length-drop}
use Rattle.text.specs.declared.number.Bounds.{Bounds}
use Rattle.text.specs.declared.row.Row.{Row}
use Rattle.text.specs.Bytes.{comma, line_end, kind_of}
use Rattle.text.specs.Split.{split, index_of}
use Rattle.text.specs.Lines.{good, fields_of, numbers_of}
use Rattle.text.specs.Lines.{row_letter, row_count, row_from, row_of}
use Rattle.text.specs.Inner.NumberAt.{field_of}
use Rattle.text.specs.Inner.Row.{line_fields, fields_after, line_at, RowBegins}
use Rattle.text.specs.Inner.Row.{row_fields, bounds_at, BadNumbers}
use Rattle.text.specs.Laws.ListLaws.{drop_next}
use Rattle.text.specs.Laws.SplitLaws.{index_of-cons}
use Rattle.text.specs.Laws.FieldsLaws.{same?_byte, fields_good, fields_of_good}
use Rattle.text.specs.Laws.LineFieldsLaws.{line_fields-field}
use Rattle.text.specs.Laws.LineFieldsLaws.{letter-field}
use Rattle.text.specs.Laws.NumberAtLaws.{field_of-end, field_of-cons}
use Rattle.text.specs.Laws.RowLaws.{row_letter-capital, row_count_pos}

module _ (row : Row) (text : List ℕ) (at : ℕ) where
  abbrev F : List (List ℕ)
  F = row_fields text at

  abbrev bs : List Bounds
  bs = bounds_at row text at

  module _ (b : RowBegins (row_letter row) text at) where
    first : drop at text ≡ row_letter row ∷ drop (at + 1) text
    first =
        let r = b.room in
        drop_next text at (omega arith) ∙ ap (λ (x : ℕ). x ∷ drop (at + 1) text) b.letter_byte

    pub past_letter : at + index_of line_end (drop at text) ≡ at + 1 + index_of line_end (drop (at + 1) text)
    past_letter =
        let c = row_letter-capital row in
        let i = ap (index_of line_end) first
        ∙ index_of-cons line_end (row_letter row) (drop (at + 1) text) (λ z. omega (arith, c, z)) in
        omega arith

    -- the letter, and then the fields
    parts : split comma (line_at text at) ≡ (row_letter row ∷ []) ∷ F
    unfolding line_fields
    parts =
        let r = b.room in
        let c = row_letter-capital row in
        let s = drop (at + 1) text in
        let x = get_or text (at + 1) 0 in
        let second = drop_next text (at + 1) (omega arith) in
        let none = ap field_of second ∙ field_of-end x (drop (at + 1 + 1) text) (inl b.separated) in
        let one : field_of (drop at text) ≡ row_letter row ∷ [] =
        ap field_of first ∙ field_of-cons (row_letter row) s (λ z. omega (arith, c, z)) (λ z. omega (arith, c, z))
        ∙ ap (λ (f : List ℕ). row_letter row ∷ f) none in
        line_fields-field (drop at text) ∙ rw (one, first)

    -- a line with the row's fields states their numbers
    pub row_of_fields : length F ≡ row_count row → row_of row (line_at text at) ≡ numbers_of bs F
    unfolding row_of row_from
    row_of_fields l =
        ap (row_from row) (fields_good (row_letter row) (row_count row) (line_at text at) (row_letter row ∷ []) F parts
        (same?_byte (row_letter row) (row_letter row) refl) l)

    pub fields_are : (fs : List (List ℕ)) → fields_of (row_letter row) (row_count row) (line_at text at) ≡ good fs
        → (F ≡ fs) × (length F ≡ row_count row)
    fields_are fs h =
        let w = fields_of_good (row_letter row) (row_count row) (line_at text at) (row_letter row ∷ []) F fs parts h in
        (w.1, w.2)

  -- a line with the fields of a row begins with its letter and a comma
  row_begins : (fs : List (List ℕ)) → fields_of (row_letter row) (row_count row) (line_at text at) ≡ good fs
      → RowBegins (row_letter row) text at
  unfolding line_fields
  row_begins fs h =
      let s = drop at text in
      let w = fields_of_good (row_letter row) (row_count row) (line_at text at) (field_of s)
      (fields_after (drop (length (field_of s)) s)) fs (line_fields-field s) h in
      let p = row_count_pos row in
      let g = letter-field s (row_letter row) w.0 (omega (arith, w.2)) in
      let d = length-drop at text in
      let z : at + 0 ≡ at = omega arith in
      record {
        room = omega (arith, g.0);
        letter_byte = ap (λ (k : ℕ). get_or text k 0) (sym z) ∙ sym (get_or-drop at text 0 0) ∙ g.1;
        separated = ap kind_of (sym (get_or-drop at text 1 0)) ∙ g.2;
      }

  -- another beginning
  pub row_other : ¬ (RowBegins (row_letter row) text at) → BadNumbers row text at
  row_other no-begin = record { told = λ h fs g. absurd (no-begin (row_begins fs g)) }
