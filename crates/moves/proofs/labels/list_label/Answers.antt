-- The steps with this label before j stand in the lists, each placed only once; step j is the next with it.
use Rattle.std.proofs.Common.{arith}
use Rattle.moves.specs.Laws.LabellingLaws.{placed_to_skip, placed_to_add, placed_to_lt, placed_to_label}
use Rattle.moves.specs.Laws.LinkedLaws.{appended_link}
use Rattle.moves.proofs.labels.list_label.Goals as goal

pub put_ends-requires : goal.put_ends-requires
put_ends-requires c =
    let inv = c.loop-j.invariant in
    let room = placed_to_lt (inv.has_label c.loop-j-test.true) (omega arith) inv.placed c.args.store.stored in
    record { j_in_bounds = (omega arith, omega arith, omega arith) }

pub overflow_add-at : goal.overflow_add-at
overflow_add-at c =
    let inv = c.loop-j.invariant in
    omega (arith, placed_to_lt (inv.has_label c.loop-j-test.true) (omega arith) inv.placed c.args.store.stored)

pub loop-j-smaller : goal.loop-j-smaller
loop-j-smaller c =
    let inv = c.loop-j.invariant in
    let f = c.requires.labels_length_in_bounds.2.next _ _ (omega arith) (omega arith)
    (inv.has_label c.loop-j-test.true) in
    rw c.from-in-loop-j.ensures (omega (arith, f.from_le))

pub loop-j-preserved : goal.loop-j-preserved
loop-j-preserved c =
    let inv = c.loop-j.invariant in
    let h = inv.has_label c.loop-j-test.true in
    let f = c.requires.labels_length_in_bounds.2.next _ _ (omega arith) (omega arith) h in
    let room = placed_to_lt h (omega arith) inv.placed c.args.store.stored in
    let at = c.from-in-loop-j.ensures in
    record {
      number_le = rw at (omega (arith, f.number_le));
      has_label = rw at (λ k. f.has_label (omega arith));
      appended = rw at (appended_link (omega arith) (omega arith) h f c.put_ends.ensures.sources_after
          c.put_ends.ensures.targets_after inv.appended);
      placed = rw at (placed_to_skip f.from_le (placed_to_add h (omega arith) inv.placed));
    }

pub returns-clause-placed_to : goal.returns-clause-placed_to
returns-clause-placed_to c = placed_to_label c.loop-j.invariant.placed
