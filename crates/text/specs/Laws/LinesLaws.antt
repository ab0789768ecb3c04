-- The order of steps, part by part, and what line 1 and the lines of extra starts and of steps state by their rows.
-- Document 01, "The text"; document 02, (iii). Assumes nothing.
use Rattle.std.specs.Prelude.{Bool, true, false, ◌&&◌, ◌||◌, List, ◌≡◌, refl, ℕ, ◌≤◌, ◌<◌, ltb, eqb, get_or, Some, None}
use Rattle.std.proofs.Math.Path.{ap}
use Rattle.std.proofs.Common.{◌∙◌, arith, lt-ltb, le-ltb, eq-eqb, ne_eqb}
use Rattle.text.specs.declared.Fault.{Fault}
use Rattle.text.specs.declared.Fault.TheVariants.{Order, StartOrder}
use Rattle.text.specs.declared.Head.{Head}
use Rattle.text.specs.declared.StepLine.{StepLine}
use Rattle.text.specs.declared.row.Row.TheVariants.{HeadRow, StartRow, StepRow}
use Rattle.text.specs.Model.{last_start, above?, above_last?}
use Rattle.text.specs.Lines.{good, bad, checked, row_of, head_numbers, head_from, head_of}
use Rattle.text.specs.Lines.{above_starts?, start_from, start_of}
use Rattle.text.specs.Lines.{step_numbers, step_from, step_of}
use Rattle.text.specs.Inner.LineAnswers.{after?, Last}

-- ---- the order of steps

-- source, then action, then target
module _ (s t : StepLine) where
  tests : {l e m f : Bool} → ltb s.source.0 t.source.0 ≡ l → eqb s.source.0 t.source.0 ≡ e
      → ltb s.action.0 t.action.0 ≡ m → eqb s.action.0 t.action.0 ≡ f
      → above? s t ≡ l || (e && (m || (f && ltb s.target.0 t.target.0)))
  unfolding above?
  tests a b c d = rw (← a, ← b, ← c, ← d)

  pub above_source : s.source.0 < t.source.0 → above? s t ≡ true
  above_source h = tests (lt-ltb s.source.0 t.source.0 h) refl refl refl

  pub not_above_source : t.source.0 < s.source.0 → above? s t ≡ false
  not_above_source h =
      let le : t.source.0 ≤ s.source.0 = omega arith in
      let ne : s.source.0 ≡ t.source.0 → ⊥ = λ e. omega arith in
      tests (le-ltb s.source.0 t.source.0 le) (ne_eqb s.source.0 t.source.0 ne) refl refl

  module _ (le : t.source.0 ≤ s.source.0) (ge : s.source.0 ≤ t.source.0) where
    same_source : eqb s.source.0 t.source.0 ≡ true
    same_source = eq-eqb s.source.0 t.source.0 (omega arith)

    pub above_action : s.action.0 < t.action.0 → above? s t ≡ true
    above_action h =
        tests (le-ltb s.source.0 t.source.0 le) same_source (lt-ltb s.action.0 t.action.0 h) refl

    pub not_above_action : t.action.0 < s.action.0 → above? s t ≡ false
    not_above_action h =
        let m : t.action.0 ≤ s.action.0 = omega arith in
        tests (le-ltb s.source.0 t.source.0 le) same_source (le-ltb s.action.0 t.action.0 m)
        (ne_eqb s.action.0 t.action.0 (λ e. omega arith))

    pub above_target : t.action.0 ≤ s.action.0 → s.action.0 ≤ t.action.0
        → above? s t ≡ ltb s.target.0 t.target.0
    above_target m n =
        tests (le-ltb s.source.0 t.source.0 le) same_source (le-ltb s.action.0 t.action.0 m)
        (eq-eqb s.action.0 t.action.0 (omega arith))

-- ---- lines by their rows

pub head_of_bad : {fault : Fault} (line : List ℕ) → row_of HeadRow line ≡ bad fault → head_of line ≡ bad fault
unfolding head_of head_from
head_of_bad line e = ap head_from e

pub head_of_good : {ns : List ℕ} (line : List ℕ) → row_of HeadRow line ≡ good ns → head_of line ≡ good (head_numbers ns)
unfolding head_of head_from
head_of_good line e = ap head_from e

module _ (h : Head) (before : List ℕ) where
  pub start_of_bad : {fault : Fault} (line : List ℕ) → row_of (StartRow h) line ≡ bad fault
      → start_of h before line ≡ bad fault
  unfolding start_of start_from
  start_of_bad line e = ap (start_from h before) e

  -- by whether the start is above the last one
  pub start_of_order : {last p : ℕ} {ns : List ℕ} {t : Bool} → last_start h.start.0 before ≡ last
      → get_or ns 0 0 ≡ p → ltb last p ≡ t → (line : List ℕ) → row_of (StartRow h) line ≡ good ns
      → start_of h before line ≡ checked StartOrder t p
  unfolding start_of start_from above_starts?
  start_of_order l n o line e = ap (start_from h before) e ∙ rw (l, n, o)

module _ (h : Head) (before : List StepLine) where
  pub step_of_bad : {fault : Fault} (line : List ℕ) → row_of (StepRow h) line ≡ bad fault
      → step_of h before line ≡ bad fault
  unfolding step_of step_from
  step_of_bad line e = ap (step_from before) e

  -- by whether the step is above the last one
  pub step_of_order : {s : StepLine} {ns : List ℕ} {t : Bool} → step_numbers ns ≡ s → above_last? before s ≡ t
      → (line : List ℕ) → row_of (StepRow h) line ≡ good ns → step_of h before line ≡ checked Order t s
  unfolding step_of step_from
  step_of_order n o line e = ap (step_from before) e ∙ rw (n, o)

-- the first step stands above those before it
pub last-nil : {before : List StepLine} (s : StepLine) → Last before None → above_last? before s ≡ true
unfolding after?
last-nil s l = l.above s

pub last_cons : {before : List StepLine} {last : StepLine} (s : StepLine) → Last before (Some last)
    → above_last? before s ≡ above? last s
unfolding after?
last_cons s l = l.above s
