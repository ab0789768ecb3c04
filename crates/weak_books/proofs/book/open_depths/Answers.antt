-- The entries of the depths up to this one are written, and the states of these ranks are lower.
use Rattle.std.proofs.Common.{arith}
use Rattle.text.specs.Laws.ListsLaws.{past_refl, past_trans}
use Rattle.weak_books.specs.Laws.DepthLaws.{opened_before_at}
use Rattle.weak_books.proofs.book.open_depths.Goals as goal

pub loop-depth-init : goal.loop-depth-init
loop-depth-init c =
    (omega arith, c.requires.lower_sets, c.requires.opened_before, past_refl _)

pub open_depth-requires : goal.open_depth-requires
open_depth-requires c =
    let inv = c.loop-depth.invariant in
    record {
      own_numbers = c.requires.own_numbers;
      targets = c.requires.targets;
      ranks = c.requires.ranks;
      depth_nonzero = (omega arith, omega (arith, inv.3.same_length, c.requires.book_length_in_bounds));
      lower_sets = inv.1;
      opened_before = inv.2;
    }

pub loop-depth-preserved : goal.loop-depth-preserved
loop-depth-preserved c =
    let inv = c.loop-depth.invariant in (
      omega (arith, c.loop-depth-test.true),
      c.open_depth.ensures.lower_sets_2,
      c.open_depth.ensures.opened_before_2,
      past_trans inv.3 c.open_depth.ensures.past,
    )

pub shape_of-book : goal.shape_of-book
shape_of-book c = c.loop-depth.invariant.3.same_length

pub returns : goal.returns
returns c =
    let inv = c.loop-depth.invariant in
    record {
      opened_before_2 = opened_before_at (omega (arith, inv.0, c.loop-depth-test.false)) inv.2;
      past = inv.3;
    }
