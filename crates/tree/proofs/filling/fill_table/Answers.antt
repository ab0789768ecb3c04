-- The row of a class says when it was separated from each state's, and each state has the row of its class.
use mathlib.Core.Path.{◌∙◌}
use native.Mathlib.Omega.{arith}
use Rattle.text.specs.Laws.ListLaws.{get_or-zeros}
use Rattle.text.specs.Limits.{table_length, pair_place}
use Rattle.tree.specs.Laws.TableLaws.{row_is_apart}
use Rattle.tree.proofs.filling.fill_table.Goals as goal

pub write_parts-requires : goal.write_parts-requires
write_parts-requires c = (
  c.requires.n_le_state_limit.1,
  λ e p l. omega (
    arith,
    l,
    c.requires.n_le_state_limit.1,
    c.requires.tree.origin_lt
        e p l,
  ),
)

pub copy_rows-requires : goal.copy_rows-requires
copy_rows-requires c =
    record {
      table_length_in_bounds = (c.requires.n_le_state_limit.2, c.requires.n_le_state_limit.0);
      by_index = λ p l. omega (arith, c.requires.n_le_state_limit.1, c.requires.member_sets.0.class_lt p l);
    }

pub returns : goal.returns
returns c =
    let M = c.requires.member_sets.0 in record {
      by_index = λ apart A p q lp lq.
          c.copy_rows.ensures.copied p q lp lq
          ∙ row_is_apart c.requires.n_le_state_limit.0 c.requires.tree M c.requires.member_sets.1 A
          (λ d x. get_or-zeros table_length (pair_place d x))
          c.write_parts.ensures c.fill_rows.ensures _ (M.class_lt p lp) q lq;
      outside = c.copy_rows.ensures.outside;
    }
