-- The first x entries are filled, and none after them has changed.
use mathlib.Core.Path.{refl}
use native.Mathlib.Omega.{arith}
use Rattle.tree.specs.Laws.EntriesLaws.{entries_written_none, entries_written-map, entries_written-fill}
use Rattle.tree.proofs.rows.fill_row.Goals as goal

pub loop-x-init : goal.loop-x-init
loop-x-init c = (omega arith, λ d _. entries_written_none _ (λ y p. omega (arith, p)))

pub loop-x-preserved : goal.loop-x-preserved
loop-x-preserved c =
    let inv = c.loop-x.invariant in (
      omega arith,
      λ d e.
          entries_written-fill c.args.above.now c.args.w e (omega arith) (omega arith) (inv.1 d e)
          refl c.fill_entry.ensures,
    )

pub returns : goal.returns
returns c =
    let inv = c.loop-x.invariant in
    entries_written-map (λ y l. omega (arith, l)) (λ y l. omega (arith, l)) (inv.1 _ refl)
