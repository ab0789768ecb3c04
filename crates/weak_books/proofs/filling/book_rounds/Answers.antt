-- After k rounds the book has the entries of the pairs that these separated, and a further round finds what it needs.
use Rattle.held.specs.Laws.ListedLaws.{held_list}
use Rattle.std.proofs.Common.{◌∙◌, arith}
use Rattle.held.specs.Laws.HeldLaws.{held_move_target_lt}
use Rattle.weak_books.specs.Laws.BookedLaws.{booked-zero, booked_counted, book_ended_counted}
use Rattle.weak_books.proofs.filling.book_rounds.Goals as goal

pub loop-init : goal.loop-init
loop-init c = (c.requires.rounds.0, booked-zero c.requires.rounds.1 c.requires.book_length_in_bounds.1)

pub book_round-requires : goal.book_round-requires
book_round-requires c =
    let inv = c.loop.invariant in record {
      into = c.requires.into;
      k_lt_classes = (inv.0, inv.1.rounds.rounds_lt, inv.1.rounds.ready);
      book_length_in_bounds = omega (arith, c.requires.book_length_in_bounds.0, inv.1.past.same_length);
    }

pub loop-smaller : goal.loop-smaller
loop-smaller c =
    let more = (c.book_round.ensures.counted.more c.loop-test.true).0 in
    omega (arith, more, c.book_round.ensures.rounded.ready.partition.classes_le)

pub loop-preserved : goal.loop-preserved
loop-preserved c =
    let L = held_list c.args.moves in
    let round = c.book_round.ensures in (
      round.states,
      booked_counted c.loop.invariant.1 round.round_entered round.rounded round.counted c.loop-test.true
          (λ p a q _ m. held_move_target_lt L m) L.states_le,
    )

pub shape_of-book : goal.shape_of-book
shape_of-book c = c.book_round.auto.book ∙ c.loop.invariant.1.past.same_length

pub returns : goal.returns
returns c =
    let round = c.book_round.ensures in
    book_ended_counted c.loop.invariant.1 round.round_entered round.rounded round.counted c.loop-test.false
