-- The lines of heads, extra starts and steps read back to them, and only those lines do.
-- Document 01, "The text"; document 02, (iii). Assumes nothing.
use Rattle.std.proofs.Common.{List, [], ◌∷◌, map, ◌∙◌, ℕ, length, get_or, arith}
use Rattle.std.proofs.Math.Path.{◌≡◌, refl, sym, ap, subst}
use Rattle.std.proofs.Math.Dec.{T}
use Rattle.text.specs.declared.Fault.TheVariants.{Order, StartOrder}
use Rattle.text.specs.declared.Head.{Head}
use Rattle.text.specs.declared.StepLine.{StepLine}
use Rattle.text.specs.declared.row.Row.TheVariants.{HeadRow, StartRow, StepRow}
use Rattle.text.specs.Bytes.{byte_i, byte_m, byte_s}
use Rattle.text.specs.Numbers.{digits}
use Rattle.text.specs.Model.{above_last?}
use Rattle.text.specs.Lines.{Line, good, bad, fits?, start_bounds, row_letter, row_count, row_bounds, row_of}
use Rattle.text.specs.Lines.{head_fits?, head_numbers, head_from, head_of, start_fits?, above_starts?, start_from}
use Rattle.text.specs.Lines.{start_of}
use Rattle.text.specs.Lines.{step_fits?, step_numbers, step_from, step_of}
use Rattle.text.specs.Laws.FieldsLaws.{good-checked}
use Rattle.model.specs.Store.{head_row, step_row}
use Rattle.text.specs.Inner.Ranges.{HeadRanges, Small}
use Rattle.text.specs.Laws.RangesLaws.{fits_first, head_fits?→HeadRanges, step_fits?→StepRanges}
use Rattle.model.specs.WellFormed.{StartFits, StepFits}
use Rattle.model.specs.Inner.LineText.{line_of, RowNumbers, line_of_head, line_of_start, line_of_step}
use Rattle.model.specs.Laws.Text.JoinedFieldsLaws.{checked_good, row_of_line, line_of_row_of}

-- ---- `M,states,actions,steps,start`

head_row_small : (h : Head) → HeadRanges h → Small (head_row h)
unfolding head_row
head_row_small h r = (omega arith, (omega arith, (omega arith, (omega arith, tt))))

head_row-head_numbers : (ns : List ℕ) → length ns ≡ 4 → head_row (head_numbers ns) ≡ ns
unfolding head_row
head_row-head_numbers [] h = absurd (omega arith)
head_row-head_numbers (a ∷ []) h = absurd (omega arith)
head_row-head_numbers (a ∷ b ∷ []) h = absurd (omega arith)
head_row-head_numbers (a ∷ b ∷ c ∷ []) h = absurd (omega arith)
head_row-head_numbers (a ∷ b ∷ c ∷ d ∷ []) h = refl
head_row-head_numbers (a ∷ b ∷ c ∷ d ∷ e ∷ ns) h = absurd (omega arith)

pub head_of_line : (h : Head) → T (head_fits? h) → head_of (line_of_head h) ≡ good h
unfolding head_of head_from head_row head_fits? row_letter row_count row_bounds
head_of_line h t =
    let s = head_row_small h (head_fits?→HeadRanges h t) in
    rw (row_of_line HeadRow (head_row h) (record { count = refl; small = s; fits = t }), head_from)

-- numbers that line 1 may have make a head that fits
head_fits?-head_numbers : (ns : List ℕ) → RowNumbers HeadRow ns → T (head_fits? (head_numbers ns))
unfolding head_fits? head_row row_count row_bounds
head_fits?-head_numbers ns r = rw (head_row-head_numbers ns r.count) r.fits

pub line_of_head_of : (line : List ℕ) (h : Head) → head_of line ≡ good h → (line ≡ line_of_head h) × T (head_fits? h)
unfolding head_of head_from row_letter row_count
line_of_head_of line h q = by_numbers (row_of HeadRow line) refl q
  where
    by_numbers : (l : Line (List ℕ)) → row_of HeadRow line ≡ l → head_from l ≡ good h
        → (line ≡ line_of_head h) × T (head_fits? h)
    by_numbers (good ns) e g =
        let k : head_numbers ns ≡ h = cc in
        let w = line_of_row_of HeadRow line ns e in
        let p = sym (head_row-head_numbers ns w.1.count) ∙ ap head_row k in
        let fits = head_fits?-head_numbers ns w.1 in
        (w.0 ∙ ap (λ (x : List ℕ). line_of byte_m (map digits x)) p, subst (λ (x : Head). T (head_fits? x)) k fits)
    by_numbers (bad fault) e g = let z : ◌≡◌ {A = ℕ} 0 1 = cc in absurd (omega arith)

-- ---- `I,state`

one_number : (ns : List ℕ) → length ns ≡ 1 → get_or ns 0 0 ∷ [] ≡ ns
one_number [] h = absurd (omega arith)
one_number (a ∷ []) h = refl
one_number (a ∷ b ∷ ns) h = absurd (omega arith)

module _ (h : Head) (before : List ℕ) where
  pub start_of_line : (p : ℕ) → HeadRanges h → StartFits h before p → start_of h before (line_of_start p) ≡ good p
  unfolding start_of start_from start_fits? start_bounds row_letter row_count row_bounds
  start_of_line p r f =
      let l = (fits_first _ _ _ _ f.in_range).1 in
      let small : Small (p ∷ []) = (omega arith, tt) in
      let e = row_of_line (StartRow h) (p ∷ []) (record { count = refl; small = small; fits = f.in_range }) in
      rw (e, start_from) (checked_good StartOrder (above_starts? h before p) p f.rising)

  pub line_of_start_of : (line : List ℕ) (p : ℕ) → start_of h before line ≡ good p
      → (line ≡ line_of_start p) × StartFits h before p
  unfolding start_of start_from start_fits? row_letter row_count row_bounds
  line_of_start_of line p q = by_numbers (row_of (StartRow h) line) refl q
    where
      by_numbers : (l : Line (List ℕ)) → row_of (StartRow h) line ≡ l → start_from h before l ≡ good p
          → (line ≡ line_of_start p) × StartFits h before p
      by_numbers (good ns) e g =
          let c = good-checked StartOrder (above_starts? h before (get_or ns 0 0)) (get_or ns 0 0) p g in
          let w = line_of_row_of (StartRow h) line ns e in
          let one : ns ≡ p ∷ [] = sym (one_number ns w.1.count) ∙ ap (λ (x : ℕ). x ∷ []) c.1 in (
            w.0 ∙ ap (λ (x : List ℕ). line_of byte_i (map digits x)) one,
            record {
              in_range = subst (λ (x : List ℕ). T (fits? (start_bounds h) x)) one w.1.fits;
              rising = subst (λ (x : ℕ). T (above_starts? h before x)) c.1 c.0;
            },
          )
      by_numbers (bad fault) e g = let z : ◌≡◌ {A = ℕ} 0 1 = cc in absurd (omega arith)

-- ---- `S,source,action,target`

step_row-step_numbers : (ns : List ℕ) → length ns ≡ 3 → step_row (step_numbers ns) ≡ ns
step_row-step_numbers [] h = absurd (omega arith)
step_row-step_numbers (a ∷ []) h = absurd (omega arith)
step_row-step_numbers (a ∷ b ∷ []) h = absurd (omega arith)
step_row-step_numbers (a ∷ b ∷ c ∷ []) h = refl
step_row-step_numbers (a ∷ b ∷ c ∷ d ∷ ns) h = absurd (omega arith)

module _ (h : Head) (before : List StepLine) where
  pub step_of_line : (s : StepLine) → HeadRanges h → StepFits h before s → step_of h before (line_of_step s) ≡ good s
  unfolding step_of step_from step_fits? row_letter row_count row_bounds
  step_of_line s r f =
      let u = step_fits?→StepRanges h s f.in_range in
      let small : Small (step_row s) = (omega arith, (omega arith, (omega arith, tt))) in
      let e = row_of_line (StepRow h) (step_row s) (record { count = refl; small = small; fits = f.in_range }) in
      rw (e, step_from) (checked_good Order (above_last? before s) s f.rising)

  step_fits?_step_numbers : (ns : List ℕ) → RowNumbers (StepRow h) ns → T (step_fits? h (step_numbers ns))
  unfolding step_fits? row_count row_bounds
  step_fits?_step_numbers ns r = rw (step_row-step_numbers ns r.count) r.fits

  pub line_of_step_of : (line : List ℕ) (s : StepLine) → step_of h before line ≡ good s
      → (line ≡ line_of_step s) × StepFits h before s
  unfolding step_of step_from row_letter row_count
  line_of_step_of line s q = by_numbers (row_of (StepRow h) line) refl q
    where
      by_numbers : (l : Line (List ℕ)) → row_of (StepRow h) line ≡ l → step_from before l ≡ good s
          → (line ≡ line_of_step s) × StepFits h before s
      by_numbers (good ns) e g =
          let c = good-checked Order (above_last? before (step_numbers ns)) (step_numbers ns) s g in
          let w = line_of_row_of (StepRow h) line ns e in
          let p = sym (step_row-step_numbers ns w.1.count) ∙ ap step_row c.1 in
          let fits = step_fits?_step_numbers ns w.1 in (
            w.0 ∙ ap (λ (x : List ℕ). line_of byte_s (map digits x)) p,
            record {
              in_range = subst (λ (x : StepLine). T (step_fits? h x)) c.1 fits;
              rising = subst (λ (x : StepLine). T (above_last? before x)) c.1 c.0;
            },
          )
      by_numbers (bad fault) e g = let z : ◌≡◌ {A = ℕ} 0 1 = cc in absurd (omega arith)
