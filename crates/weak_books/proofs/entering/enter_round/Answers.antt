-- The entries of the states that are not left, and lower ones, are written.
use Rattle.std.proofs.Common.{◌<◌, arith}
use Rattle.weak_books.specs.Laws.EnteringLaws.{done_start, done_next, done_end, beside_or_not}
use Rattle.weak_books.specs.Laws.EnteringLaws.{separated_below_of_beside}
use Rattle.weak_books.specs.Laws.EnteringLaws.{beside_of_separated_below}
use Rattle.weak_books.specs.Laws.FirstsLaws.{least_of_none}
use Rattle.held.specs.Laws.ListedLaws.{held_list}
use Rattle.weak_books.proofs.entering.enter_round.Goals as goal
use Rattle.weak_books.proofs.entering.enter_round.Goals.{In-Some}

-- What is visited is a state.
visited_lt : (c : In-Some) → c.in-Some.p < c.args.moves.n
visited_lt c = c.requires.by_index.0 _ (c.loop-p.invariant.0 _ c.in-Some.ensures.steps.taken)

pub loop-p-init : goal.loop-p-init
loop-p-init c =
    let among = c.requires.by_index.1 in
    rw c.into_iter-p-iterator.ensures (
      (λ x i. i),
      done_start _ (λ x y h. among x y h.first_lt (omega (arith, h.lower, h.first_lt)) h.separated.same_before
          (λ e. omega (arith, e, h.lower))),
    )

pub separated_from-others-requires : goal.separated_from-others-requires
separated_from-others-requires c =
    record {
      p_lt_n = (visited_lt (goal.at.separated_from-others-requires c).In-Some, (held_list c.args.moves).states_le);
      class_sets = c.requires.class_sets;
    }

pub enter_beside-requires : goal.enter_beside-requires
enter_beside-requires c =
    let lp = visited_lt (goal.at.enter_beside-requires c).In-Some in
    record {
      p_lt_n = (lp, omega (arith, c.loop-p.auto.book, c.requires.book_length_in_bounds));
      class_sets = c.requires.class_sets.0;
      by_index = λ q i. let h = c.separated_from-others.ensures.only q i in c.requires.by_index_2 _ q lp h.0 h.1;
    }

pub loop-p-preserved : goal.loop-p-preserved
loop-p-preserved c =
    let inv = c.loop-p.invariant in
    let lp = visited_lt (goal.at.loop-p-preserved c).In-Some in
    let rest = c.in-Some.ensures.steps.left in (
      λ x i. inv.0 x (rest.only x i).0,
      done_next (beside_or_not _ _) (separated_below_of_beside lp c.separated_from-others.ensures)
          (beside_of_separated_below lp c.separated_from-others.ensures) rest
          inv.1 c.enter_beside.ensures,
    )

pub returns : goal.returns
returns c =
    let limit = (held_list c.args.moves).states_le in
    done_end (least_of_none c.in-None.ensures.steps.none) (λ x y h. omega (arith, h.first_lt, limit))
    c.loop-p.invariant.1
