-- A row, number by number: those read and the fields that are left make up what all its fields hold.
-- Document 01, "The text"; document 02, (i). Assumes nothing. Only functions that read a row cite it.
use Rattle.std.specs.Prelude.{Bool, false, ◌⊎◌, ◌≡◌, ℕ, ◌+◌, ◌-◌, ◌≤◌, ◌<◌, take, drop, set, Result, Ok, Err}
use Rattle.std.proofs.Math.Bool.{true}
use mathlib.Core.List.{List, [], ◌∷◌, append-nil}
use Rattle.std.proofs.Common.{inl, inr, sym, ◌∙◌, length-set, length-drop, drop-drop, get_or-drop, take-suc-set}
use Rattle.std.proofs.Common.{take_all}
use Rattle.std.proofs.Math.Path.{refl, ap, subst}
use Rattle.std.proofs.Math.Numerals.{add-one}
use native.Mathlib.Omega.{arith}
use Rattle.std.proofs.Math.ListN.{length, get_or}
use Rattle.std.proofs.Math.Seq.{get_or-set_same, get_or-set_other}
use Rattle.text.specs.declared.Fault.TheVariants.{Digits, Range}
use Rattle.text.specs.declared.number.Bounds.{Bounds}
use Rattle.text.specs.declared.number.NumberFault.{NumberFault}
use Rattle.text.specs.declared.number.NumberFault.TheVariants.{BadDigits, Outside}
use Rattle.text.specs.declared.row.Row.{Row}
use Rattle.text.specs.Bytes.{comma, line_end, kind_of}
use Rattle.text.specs.Split.{index_of}
use Rattle.text.specs.Numbers.{below, number_in}
use Rattle.text.specs.Lines.{Line, good, bad, cons_number, numbers_of}
use Rattle.text.specs.Lines.{row_letter, row_count, row_bounds, value_or0, states_of, row_of}
use Rattle.text.specs.Inner.NumberAt.{field_of}
use Rattle.text.specs.Inner.Row.{fields_after, line_at, LineAt, RowBegins, separator_kind, prepend}
use Rattle.text.specs.Inner.Row.{row_fields, bounds_at, RowTo, BadNumbers}
use Rattle.text.specs.Laws.ListLaws.{drop_next}
use Rattle.text.specs.Laws.SplitLaws.{Is, same, other, is, index_of-end, index_of-cons}
use Rattle.text.specs.Laws.LineFieldsLaws.{line_fields-field, line_end-field, field_of_follows, fields_after-comma}
use Rattle.text.specs.Laws.NumberAtLaws.{kind-inside, separator_some}
use Rattle.text.specs.Laws.LineFieldsLaws.{fields_after-line_end}
use Rattle.text.specs.Laws.RowLaws.{row_count_pos, row_bounds-length, row_bounds_first, row_bounds_states}
use Rattle.text.specs.Laws.RowLaws.{separator_kind_last, separator_kind_other, separator_kind_separator, prepend-nil}
use Rattle.text.specs.Laws.RowLaws.{prepend_bad, prepend_value, prepend_outside, numbers_of-cons, numbers_of-nil}
use Rattle.text.specs.Laws.RowFieldsLaws.{past_letter, row_of_fields, fields_are}

module _ (row : Row) (text : List ℕ) (at : ℕ) where
  abbrev F : List (List ℕ)
  F = row_fields text at

  abbrev bs : List Bounds
  bs = bounds_at row text at

  pub row_begin : RowBegins (row_letter row) text at → (out : List ℕ) → length out ≡ row_count row → get_or out 0 0 ≡ 0
      → RowTo row text at false out 0 (at + 1)
  row_begin b out l z =
      let r = b.room in
      let p = row_count_pos row in
      record {
        begins = b;
        out_length = l;
        inside = omega arith;
        follows = b.separated ∙ sym (separator_kind_other 0 (row_count row) (λ e. omega (arith, e)));
        line_end_is = past_letter row text at b;
        count = omega arith;
        none = λ e. (refl, z);
        bounds = λ h. absurd (omega (arith, h));
        numbers = sym (prepend-nil (numbers_of bs F));
      }

  module _ (outside : Bool) (out : List ℕ) (i e : ℕ) (t : RowTo row text at outside out i e) where
    next : drop e text ≡ get_or text e 0 ∷ drop (e + 1) text
    next = drop_next text e t.inside

    -- ---- all numbers are read

    module _ (all : i ≡ row_count row) where
      at_end : kind_of (get_or text e 0) ≡ line_end
      at_end = t.follows ∙ separator_kind_last i (row_count row) all

      none_left : fields_after (drop e text) ≡ []
      none_left = ap fields_after next ∙ fields_after-line_end (get_or text e 0) (drop (e + 1) text) at_end

      pub row_found : e ≡ at + index_of line_end (drop at text)
      row_found =
          let z = ap (index_of line_end) next ∙ index_of-end line_end (get_or text e 0) (drop (e + 1) text) at_end in
          let l = t.line_end_is in
          omega arith

      row_stated : row_of row (line_at text at) ≡ prepend outside out (good [])
      row_stated =
          let c = t.count ∙ ap (λ (fs : List (List ℕ)). i + length fs) none_left in
          let n : length F ≡ row_count row = omega arith in
          let m = t.out_length in
          let k : length out ≤ i = omega arith in
          row_of_fields row text at t.begins n ∙ t.numbers
          ∙ ap (prepend outside (take i out)) (ap (numbers_of (drop i bs)) none_left ∙ numbers_of-nil (drop i bs))
          ∙ ap (λ (ns : List ℕ). prepend outside ns (good [])) (take_all i out k)

      row_line : {stated : Line (List ℕ)} → prepend outside out (good []) ≡ stated → LineAt (row_of row) text at
          stated e
      row_line h =
          let f = row_found in
          let k : e - at ≡ index_of line_end (drop at text) = omega arith in
          record { found = f; inside = t.inside; reads = rw k (row_stated ∙ h) }

      pub row_good : outside ≡ false → LineAt (row_of row) text at (good out) e
      row_good h = row_line (ap (λ (o : Bool). prepend o out (good [])) h ∙ ap good (append-nil out))

      pub row_range : outside ≡ true → LineAt (row_of row) text at (bad Range) e
      row_range h = row_line (ap (λ (o : Bool). prepend o out (good [])) h)

    -- ---- one more number

    module _ (lt : i < row_count row) (b : Bounds) (given : b ≡ get_or (row_bounds row (get_or out 0 0)) i
        (below 0)) where
      abbrev f : List ℕ
      f = field_of (drop (e + 1) text)

      abbrev end : ℕ
      end = e + 1 + length f

      at_comma : kind_of (get_or text e 0) ≡ comma
      at_comma = t.follows ∙ separator_kind_other i (row_count row) (λ z. omega (arith, z))

      left : fields_after (drop e text) ≡ f ∷ fields_after (drop end text)
      left =
          ap fields_after next ∙ fields_after-comma (get_or text e 0) (drop (e + 1) text) at_comma
          ∙ line_fields-field (drop (e + 1) text)
          ∙ ap (λ (s : List ℕ). f ∷ fields_after s) (drop-drop (length f) (e + 1) text)

      left_count : length F ≡ i + 1 + length (fields_after (drop end text))
      left_count = let c = t.count ∙ ap (λ (fs : List (List ℕ)). i + length fs) left in omega arith

      left_line : at + index_of line_end (drop at text) ≡ end + index_of line_end (drop end text)
      left_line =
          let l = t.line_end_is in
          let c = at_comma in
          let n = ap (index_of line_end) next
          ∙ index_of-cons line_end (get_or text e 0) (drop (e + 1) text) (λ z. omega (arith, c, z)) in
          let m = line_end-field (drop (e + 1) text)
          ∙ ap (λ (s : List ℕ). length f + index_of line_end s) (drop-drop (length f) (e + 1) text) in
          omega arith

      -- the bounds that the code has are those of the row
      bounds_are : (d : Bounds) → get_or (row_bounds row (get_or out 0 0)) i d ≡ get_or bs i d
      bounds_are d = by_place (is i 0)
        where
          by_place : Is i 0 → get_or (row_bounds row (get_or out 0 0)) i d ≡ get_or bs i d
          by_place (same z) = rw z (row_bounds_first row (get_or out 0 0) (states_of F) d)
          by_place (other z) = ap (λ (l : List Bounds). get_or l i d) (t.bounds (omega (arith, z)))

      -- what the fields behind this one hold
      abbrev rest : Line (List ℕ)
      rest = numbers_of (drop (i + 1) bs) (fields_after (drop end text))

      left_numbers : {number : Result ℕ NumberFault} → number_in b f ≡ number
          → numbers_of bs F ≡ prepend outside (take i out) (cons_number number rest)
      left_numbers {number} read =
          let l = row_bounds-length row (states_of F) in
          let k : i < length bs = omega arith in
          let q = given ∙ bounds_are (below 0) in
          t.numbers
          ∙ ap (λ (fs : List (List ℕ)). prepend outside (take i out) (numbers_of (drop i bs) fs)) left
          ∙ ap (prepend outside (take i out)) (numbers_of-cons bs i (below 0) f (fields_after (drop end text)) k
          ∙ ap (λ (n : Result ℕ NumberFault). cons_number n rest) (ap (λ (x : Bounds). number_in x f) (sym q) ∙ read))

      -- in a line with the row's fields the right byte follows
      in_line : at + index_of line_end (drop at text) < length text → length F ≡ row_count row
          → kind_of (get_or text end 0) ≡ separator_kind (i + 1) (row_count row)
      in_line h n =
          let l = left_line in
          let d = length-drop (e + 1) text in
          let p = field_of_follows (drop (e + 1) text) (omega arith) in
          by_kind (rw (get_or-drop (e + 1) text (length f) 0) at p) (is (i + 1) (row_count row))
        where
          after : {fs : List (List ℕ)} → fields_after (get_or text end 0 ∷ drop (end + 1) text) ≡ fs
              → length (fields_after (drop end text)) ≡ length fs
          after g =
              let l = left_line in
              let ins : end < length text = omega arith in
              ap length (ap fields_after (drop_next text end ins) ∙ g)

          by_kind : (kind_of (get_or text end 0) ≡ comma) ⊎ (kind_of (get_or text end 0) ≡ line_end)
              → Is (i + 1) (row_count row) → kind_of (get_or text end 0) ≡ separator_kind (i + 1) (row_count row)
          by_kind (inl k) (same q) =
              let m = after (fields_after-comma (get_or text end 0) (drop (end + 1) text) k
              ∙ line_fields-field (drop (end + 1) text)) in
              let c = left_count in
              absurd (omega arith)
          by_kind (inl k) (other q) = k ∙ sym (separator_kind_other (i + 1) (row_count row) q)
          by_kind (inr k) (same q) = k ∙ sym (separator_kind_last (i + 1) (row_count row) q)
          by_kind (inr k) (other q) =
              let m = after (fields_after-line_end (get_or text end 0) (drop (end + 1) text) k) in
              let c = left_count in
              absurd (q (omega arith))

      -- bad digits, if the right byte follows
      pub row_bad : (kind_of (get_or text end 0) ≡ separator_kind (i + 1) (row_count row) → number_in b f ≡ Err BadDigits)
          → BadNumbers row text at
      unfolding cons_number
      row_bad bad-digits = record {
        told = λ h fs g.
            let w = fields_are row text at t.begins fs g in
            subst (λ (x : List (List ℕ)). numbers_of (row_bounds row (states_of x)) x ≡ bad Digits) w.0
            (left_numbers (bad-digits (in_line h w.1)) ∙ prepend_bad outside (take i out) Digits);
      }

      -- the number is read, and the right byte follows
      module _ (number : Result ℕ NumberFault) (read : number_in b f ≡ number)
          (follows : kind_of (get_or text end 0) ≡ separator_kind (i + 1) (row_count row))
          (outside' : Bool) (out' : List ℕ) (same_length : length out' ≡ length out)
          (kept : 0 < i → get_or out' 0 0 ≡ get_or out 0 0) (stored : i ≡ 0 → get_or out' 0 0 ≡ value_or0 number)
          (numbers : (l : Line (List ℕ))
          → prepend outside (take i out) (cons_number number l) ≡ prepend outside' (take (i + 1) out') l) where
        next_bounds : row_bounds row (get_or out' 0 0) ≡ row_bounds row (states_of F)
        next_bounds = by_place (is i 0)
          where
            by_place : Is i 0 → row_bounds row (get_or out' 0 0) ≡ row_bounds row (states_of F)
            by_place (same z) =
                let g : number_in (get_or (row_bounds row (get_or out 0 0)) 0 (below 0)) f ≡ number =
                ap (λ (x : Bounds). number_in x f) (sym (given ∙ rw z)) ∙ read in
                let whole : f ∷ fields_after (drop end text) ≡ F =
                sym left ∙ ap (λ (k : ℕ). fields_after (drop k text)) (t.none z).0 in
                ap (row_bounds row) (stored z)
                ∙ row_bounds_states row f (fields_after (drop end text)) (get_or out 0 0) (below 0) number g
                ∙ ap (λ (fs : List (List ℕ)). row_bounds row (states_of fs)) whole
            by_place (other z) =
                let p : 0 < i = omega (arith, z) in ap (row_bounds row) (kept p) ∙ t.bounds p

        row_next : RowTo row text at outside' out' (i + 1) end
        row_next = record {
          begins = t.begins;
          out_length = same_length ∙ t.out_length;
          inside = kind-inside text end _ follows (separator_some _ (separator_kind_separator (i + 1) (row_count row)));
          follows = follows;
          line_end_is = left_line;
          count = left_count;
          none = λ z. absurd (omega (arith, z));
          bounds = λ z. next_bounds;
          numbers = left_numbers read ∙ numbers rest;
        }

      module _ (follows : kind_of (get_or text end 0) ≡ separator_kind (i + 1) (row_count row)) where
        pub row_value : (v : ℕ) → number_in b f ≡ Ok v → RowTo row text at outside (set out i v) (i + 1) end
        unfolding value_or0
        row_value v read =
            let n = t.out_length in
            let k : i < length out = omega arith in
            let one = add-one i in
            row_next (Ok v) read follows outside (set out i v) (length-set out i v)
            (λ p. get_or-set_other out i 0 v 0 (λ z. omega (arith, z)))
            (λ z. ap (λ (j : ℕ). get_or (set out j v) 0 0) z ∙ get_or-set_same out 0 v 0 (omega (arith, z)))
            (λ l. prepend_value outside (take i out) v l
            ∙ ap (λ (ns : List ℕ). prepend outside ns l) (sym (rw one (take-suc-set out i v k))))

        pub row_outside : number_in b f ≡ Err Outside → RowTo row text at true out (i + 1) end
        unfolding value_or0
        row_outside read =
            row_next (Err Outside) read follows true out refl (λ p. refl) (λ z. (t.none z).1)
            (λ l. prepend_outside outside (take i out) (take (i + 1) out) l)
