-- The row is twice the action, or behind those of all actions.
use mathlib.Core.Path.{sym}
use native.Mathlib.Omega.{arith}
use Rattle.held.specs.Laws.RowsLaws.{target_row-action, target_row-silent}
use Rattle.held.proofs.slots.target_row.Goals as goal

pub returns-then-a-lt-ACTION_LIMIT : goal.returns-then-a-lt-ACTION_LIMIT
returns-then-a-lt-ACTION_LIMIT c = (sym (target_row-action c.args.a c.if-a-lt-ACTION_LIMIT.true), omega arith)

pub returns : goal.returns
returns c = (sym (target_row-silent c.args.a c.if-a-lt-ACTION_LIMIT.false), omega arith)
