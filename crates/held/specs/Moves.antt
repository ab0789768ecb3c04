-- The moves of sets that are lent together.
use Rattle.lts.specs.Alike.{Moves}
use Rattle.held.specs.declared.list.HeldMoves.{HeldMoves}
use Rattle.held.specs.Held.{HeldMove}

abbrev pub held_moves : HeldMoves → Moves
held_moves m = HeldMove m.labels.now m.count m.slots.now m.pool.now
