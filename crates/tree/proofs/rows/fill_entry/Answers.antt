-- By cases of the entry.
use mathlib.Core.Path.{sym, ◌∙◌}
use native.Mathlib.Omega.{arith}
use Rattle.tree.specs.Laws.EntriesLaws.{filled_zero, filled_pos}
use Rattle.tree.proofs.rows.fill_entry.Goals as goal

pub returns-then-v-eq0 : goal.returns-then-v-eq0
returns-then-v-eq0 c =
    let a = c.args in
    c.earlier.ensures ∙ sym (filled_zero a.v a.o a.w (omega arith))

pub returns : goal.returns
returns c =
    let a = c.args in
    sym (filled_pos a.v a.o a.w (omega arith))
