-- The slot has the number of the set.
use Rattle.std.proofs.Common.{ℕ, ap, get_or, arith}
use Rattle.held.specs.Laws.PoolLaws.{set_of_number}
use Rattle.held.proofs.slots.held.Goals as goal

pub set_at-requires : goal.set_at-requires
set_at-requires c = omega (arith, c.requires.2 c.slot_place-at.result)

pub returns : goal.returns
returns c =
    set_of_number (ap (λ (i : ℕ). get_or c.args.slots.now i 0) c.slot_place-at.ensures) c.set_at.ensures
