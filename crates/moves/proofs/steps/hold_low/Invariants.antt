-- The low ones of the first j steps are held, and each took at most two sets.
use Rattle.std.proofs.Common.{◌+◌, ◌*◌, ◌≤◌}
use Rattle.model.specs.Inner.ModelOf.{model_of}
use Rattle.held.specs.Inner.Slots.{Separate}
use Rattle.moves.specs.Inner.Holding.{LowHeld}
use Rattle.moves.proofs.steps.hold_low.Given as goal

abbrev pub invariant-loop-j : goal.invariant-loop-j
invariant-loop-j l = record {
  used_le : l.used ≤ 2 * l.j + 1;
  separate : Separate l.used l.slots l.pool;
  held : LowHeld (model_of l.store.store) l.j l.slots l.pool;
}
