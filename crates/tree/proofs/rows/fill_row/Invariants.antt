-- The first x entries are filled, and none after them has changed.
use mathlib.Core.Path.{◌≡◌}
use Prim.Native.Nat.{ℕ, ◌-◌, ◌*◌, ◌≤◌, ◌<◌}
use lib.ListN.{get_or}
use Rattle.text.specs.Limits.{state_limit}
use Rattle.ranking.specs.Inner.TableWrites.{entry_of}
use Rattle.tree.specs.Inner.Rows.{filled, EntriesWritten}
use Rattle.tree.proofs.rows.fill_row.Given as goal

abbrev pub invariant-loop-x : goal.invariant-loop-x
invariant-loop-x l =
    (l.x ≤ state_limit)
    × ((c : ℕ) → l.at ≡ state_limit * c → EntriesWritten c (λ y. y < l.x)
    (λ y. filled (entry_of l.initial.rows c y) (get_or l.above y 0) l.w) l.initial.rows l.rows)

abbrev pub decreases-loop-x : goal.decreases-loop-x
decreases-loop-x l = state_limit - l.x
