-- The first openings of both sides make both entries.
use Rattle.std.proofs.Common.{arith}
use Rattle.held.specs.Laws.HeldLaws.{held_move_game}
use Rattle.weak_books.specs.Laws.EntryApartLaws.{one_opens, answers_back, pair_entered_of_first}
use Rattle.held.specs.Laws.ListedLaws.{held_list}
use Rattle.weak_books.proofs.entering.enter_pair.Goals as goal

pub put_opening-requires : goal.put_opening-requires
put_opening-requires c =
    let L = held_list c.args.moves in
    record {
      p_lt_state_limit = (
        omega (arith, c.requires.p_lt_n.0, L.states_le),
        omega (arith, c.requires.p_lt_n.1, L.states_le),
        c.requires.p_lt_n.2,
      );
      one_opens = one_opens c.args.class.now (held_move_game L) c.requires.not_answers c.find_opening-one.result
          c.find_opening-other.result c.find_opening-one.ensures c.find_opening-other.ensures;
    }

pub put_opening-requires-2 : goal.put_opening-requires-2
put_opening-requires-2 c =
    let L = held_list c.args.moves in
    record {
      p_lt_state_limit = (
        omega (arith, c.requires.p_lt_n.1, L.states_le),
        omega (arith, c.requires.p_lt_n.0, L.states_le),
        omega (arith, c.put_opening.auto.book, c.requires.p_lt_n.2),
      );
      one_opens = one_opens c.args.class.now (held_move_game L) (answers_back c.args.class.now c.requires.not_answers)
          c.find_opening-other.result
          c.find_opening-one.result c.find_opening-other.ensures c.find_opening-one.ensures;
    }

pub returns : goal.returns
returns c =
    let L = held_list c.args.moves in
    pair_entered_of_first (held_move_game L) c.find_opening-one.result c.find_opening-other.result
    (omega (arith, c.requires.p_lt_n.0, L.states_le))
    (omega (arith, c.requires.p_lt_n.1, L.states_le))
    c.requires.not_p_0 c.requires.not_answers c.find_opening-one.ensures c.find_opening-other.ensures
    c.put_opening.ensures c.put_opening-2.ensures
