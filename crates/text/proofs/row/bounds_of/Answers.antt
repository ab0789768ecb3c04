-- By cases on the row, whose numbers stand in the last columns.
use Rattle.std.proofs.Common.{◌≡◌, sym, ap, ◌∙◌, subst, ℕ, ◌-◌, ◌≤◌, arith, get_or}
use Rattle.text.specs.declared.row.Row.{Row}
use Rattle.text.specs.Numbers.{below}
use Rattle.text.specs.Lines.{head_bounds, start_bounds, row_count, row_bounds}
use Rattle.text.specs.Inner.Columns.{first_column}
use Rattle.text.proofs.row.bounds_of.Goals as goal

pub overflow_sub-column : goal.overflow_sub-column
unfolding row_count
overflow_sub-column c =
    omega (arith, subst (λ (r : Row). first_column r ≤ c.args.column) c.in-StepRow.is c.requires.0)

pub returns-in-HeadRow : goal.returns-in-HeadRow
unfolding row_bounds row_count
returns-in-HeadRow c =
    let a = c.args in
    let none : a.column ≡ a.column - 0 = omega arith in
    c.head_bounds.ensures
    ∙ ap (λ (i : ℕ). get_or (head_bounds a.states) i (below 0)) none
    ∙ ap (λ (r : Row). get_or (row_bounds r a.states) (a.column - first_column r) (below 0))
    (sym c.in-HeadRow.is)

pub returns-in-StartRow : goal.returns-in-StartRow
unfolding row_bounds row_count
returns-in-StartRow c =
    let a = c.args in
    let first : first_column a.row ≤ a.column = c.requires.0 in
    let own = subst (λ (r : Row). first_column r ≤ a.column) c.in-StartRow.is first in
    let none : 0 ≡ a.column - 3 = omega (arith, own, c.requires.1) in
    c.start_bounds.ensures
    ∙ ap (λ (i : ℕ). get_or (start_bounds c.in-StartRow.head) i (below 0)) none
    ∙ ap (λ (r : Row). get_or (row_bounds r a.states) (a.column - first_column r) (below 0)) (sym c.in-StartRow.is)

pub returns-in-StepRow : goal.returns-in-StepRow
unfolding row_bounds row_count
returns-in-StepRow c =
    let a = c.args in
    c.step_bounds.ensures
    ∙ ap (λ (r : Row). get_or (row_bounds r a.states) (a.column - first_column r) (below 0)) (sym c.in-StepRow.is)
