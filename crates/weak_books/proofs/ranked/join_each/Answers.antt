-- The sets below p have got the members.
use Rattle.std.proofs.Common.{refl, ◌∙◌, ◌<◌, arith}
use Rattle.text.specs.Limits.{state_limit}
use Rattle.weak_books.specs.Laws.RankedLaws.{joined_below-zero, joined_below-suc, joined_below_at}
use Rattle.weak_books.proofs.ranked.join_each.Goals as goal

pub loop-p-init : goal.loop-p-init
loop-p-init c = (omega arith, refl, joined_below-zero _ _)

pub join-requires : goal.join-requires
join-requires c =
    let l : c.loop-p.p < state_limit = omega (arith, c.requires.0, c.loop-p-test.true) in
    record {
      sets_length_in_bounds = omega (arith, c.loop-p.invariant.1, c.requires.1);
      k_lt_state_limit = (l, l);
    }

pub loop-p-preserved : goal.loop-p-preserved
loop-p-preserved c =
    let inv = c.loop-p.invariant in (
      omega (arith, c.loop-p-test.true),
      c.join.auto.sets ∙ inv.1,
      joined_below-suc inv.2 c.join.ensures,
    )

pub shape_of-sets : goal.shape_of-sets
shape_of-sets c = c.loop-p.invariant.1

pub returns : goal.returns
returns c = let inv = c.loop-p.invariant in joined_below_at (omega (arith, inv.0, c.loop-p-test.false)) inv.2
