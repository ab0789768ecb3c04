-- Where nothing is held yet: all slots are 0, and no set has a member. Assumes nothing.
use Rattle.std.specs.Prelude.{List, ◌≡◌, ℕ, get_or}
use Rattle.std.proofs.Common.{arith}
use Rattle.sets.specs.Inner.Sets.{Empty}
use Rattle.held.specs.Held.{row_set, slot_place}
use Rattle.held.specs.Inner.Slots.{Pooled, Separate}

module _ {slots pool : List ℕ} (z : (i : ℕ) → get_or slots i 0 ≡ 0) (E : Empty pool) where
  pub pooled_zero : Pooled 1 slots pool
  pooled_zero = record {
    some = omega arith;
    used_le = omega arith;
    slot_lt = λ i. omega (arith, z i);
    none = E.none 0;
    occupied = record {
      marked = λ row p l d. absurd (d (z (slot_place row p)));
      some = λ row p m. absurd (E.none (row_set row) p m);
    };
  }

  pub separate_zero : Separate 1 slots pool
  separate_zero = record {
    pooled = pooled_zero;
    own = λ i j l e. absurd (omega (arith, z i, l));
    free = λ k x _ _. E.none k x;
  }
