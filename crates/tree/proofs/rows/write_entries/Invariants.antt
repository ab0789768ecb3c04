-- The entries of the states that are not left are written.
use Rattle.std.proofs.Common.{◌≡◌, ℕ, ◌*◌}
use Rattle.text.specs.Limits.{state_limit}
use Rattle.sets.specs.Inner.SetValues.{In}
use Rattle.tree.specs.Inner.Rows.{EntriesWritten}
use Rattle.tree.proofs.rows.write_entries.Given as goal

abbrev pub invariant-loop-x : goal.invariant-loop-x
invariant-loop-x l =
    ((y : ℕ) → In l.x-iterator.left y → In l.fn.s y)
    × ((c : ℕ) → l.at ≡ state_limit * c → EntriesWritten c (λ y. In l.fn.s y × ¬ (In l.x-iterator.left y)) (λ _. l.v)
    l.initial.rows l.rows)
