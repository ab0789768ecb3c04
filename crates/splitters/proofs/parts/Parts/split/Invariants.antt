-- Whatever splits the classes by what is left of the set makes up the split by all of it.
use Rattle.std.proofs.Common.{List, ℕ, ◌≡◌, ◌≤◌}
use Rattle.sets.specs.Inner.SetValues.{In, words}
use Rattle.splitters.specs.Inner.Partition.{Split}
use Rattle.splitters.specs.Inner.Splitting.{LeftOf}
use Rattle.splitters.proofs.parts.Parts.split.Given as goal

abbrev pub invariant-loop-p : goal.invariant-loop-p
invariant-loop-p l =
    (l.self.n ≡ l.initial.self.n) × (l.initial.self.classes ≤ l.self.classes)
    × LeftOf l.initial.self.n l.self.class l.set l.left
    × ((c o : List ℕ) → Split l.initial.self.n l.old (In l.left) l.self.class l.self.origin c o
    → Split l.initial.self.n l.old (In l.set) l.initial.self.class l.initial.self.origin c o)

abbrev pub decreases-loop-p : goal.decreases-loop-p
decreases-loop-p l = words l.left
