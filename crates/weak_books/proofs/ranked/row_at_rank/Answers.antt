-- The states below q whose rank beside p is r are added.
use Rattle.std.proofs.Common.{refl, ◌∙◌, arith}
use Rattle.weak_books.specs.Laws.RankedLaws.{joined_none, row_at_rank_suc, row_at_rank_at}
use Rattle.weak_books.proofs.ranked.row_at_rank.Goals as goal

pub loop-q-init : goal.loop-q-init
loop-q-init c = (omega arith, refl, joined_none _ (λ x h. omega (arith, h.0)))

pub add_at_rank-requires : goal.add_at_rank-requires
add_at_rank-requires c =
    let l = c.loop-q-test.true in (
      omega (arith, c.requires.0, c.requires.1),
      omega (arith, c.requires.0, l),
      c.requires.2,
      omega (arith, c.loop-q.invariant.1, c.requires.3),
    )

pub loop-q-preserved : goal.loop-q-preserved
loop-q-preserved c = (
  omega (arith, c.loop-q-test.true),
  c.add_at_rank.auto.sets ∙ c.loop-q.invariant.1,
  row_at_rank_suc c.args.table.now c.loop-q.invariant.2 c.add_at_rank.ensures,
)

pub shape_of-sets : goal.shape_of-sets
shape_of-sets c = c.loop-q.invariant.1

pub returns : goal.returns
returns c =
    let inv = c.loop-q.invariant in
    row_at_rank_at c.args.table.now (omega (arith, inv.0, c.loop-q-test.false))
    inv.2
