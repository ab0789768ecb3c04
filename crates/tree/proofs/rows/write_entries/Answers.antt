-- The entries of the states that are not left are written.
use Rattle.std.proofs.Common.{refl, arith}
use Rattle.tree.specs.Laws.EntriesLaws.{entries_written_none, entries_written-map, entries_written_other}
use Rattle.tree.proofs.rows.write_entries.Goals as goal

pub loop-x-init : goal.loop-x-init
loop-x-init c =
    rw c.into_iter-x-iterator.ensures ((λ y i. i), λ d _. entries_written_none _ (λ y p. p.1 p.0))

pub loop-x-preserved : goal.loop-x-preserved
loop-x-preserved c =
    let inv = c.loop-x.invariant in
    let next = c.in-Some.ensures.steps in (
      λ y i. inv.0 y (next.left.only y i).0,
      λ d e. entries_written_other e (omega (arith, next.taken.member_lt)) (inv.0 _ next.taken) next.left (inv.1 d e) refl,
    )

pub returns : goal.returns
returns c =
    let none = c.in-None.ensures.steps.none in
    entries_written-map (λ y p. p.0) (λ y i. (i, none y)) (c.loop-x.invariant.1 _ refl)
