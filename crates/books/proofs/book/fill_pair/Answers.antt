-- The first side opens if it can, and else the second side can.
use Rattle.std.proofs.Common.{arith, IsSome}
use Rattle.by_state.specs.Laws.MoveListLaws.{place_lt_last}
use Rattle.std.proofs.lemmas.Bool.{some_since}
use Rattle.books.specs.Laws.PairLaws.{pair_none, pair_first, second_place_lt_end, pair_second}
use Rattle.books.proofs.book.fill_pair.Goals as goal

pub returns-then-depth-eq0 : goal.returns-then-depth-eq0
returns-then-depth-eq0 c =
    let moves = c.args.indexed in
    pair_none moves.listed c.requires.ordered c.requires.ranks.0 c.requires.p_lt_n.0 c.requires.p_lt_n.1
    c.rank_at-depth.ensures
    c.if-depth-eq0.true
    c.requires.q_value

pub write_entry-requires : goal.write_entry-requires
write_entry-requires c =
    let pre = c.requires.p_lt_n in
    (pre.0, pre.1, place_lt_last c.args.indexed.listed pre.0 c.in-Some.ensures.0, pre.2)

pub returns-in-Some : goal.returns-in-Some
returns-in-Some c =
    let moves = c.args.indexed in
    pair_first moves.listed c.requires.ordered c.requires.ranks.0 c.requires.p_lt_n.0 c.requires.p_lt_n.1
    c.rank_at-depth.ensures
    c.if-depth-eq0.false c.in-Some.ensures.1 c.in-Some.ensures.0 c.write_entry.ensures

module _ (c : goal.After-first_opening-2) where
  -- The second side finds an opening before the end of its moves.
  second_some : IsSome c.first_opening-2.result
  second_some =
      let moves = c.args.indexed in
      some_since c.first_opening-2.result _ _ c.first_opening-2.ensures
      (λ none. omega (
        arith,
        second_place_lt_end moves.listed c.requires.ordered c.requires.ranks.0 c.requires.p_lt_n.0
            c.requires.p_lt_n.1
            c.rank_at-depth.ensures c.if-depth-eq0.false c.in_default.ensures (λ l. omega (arith, l)) none,
      ))

pub unwrap-j-requires : goal.unwrap-j-requires
unwrap-j-requires c = second_some c

pub write_entry-requires-2 : goal.write_entry-requires-2
write_entry-requires-2 c =
    let pre = c.requires.p_lt_n in
    let found = rw c.unwrap-j.ensures at c.first_opening-2.ensures in
    (pre.0, pre.1, place_lt_last c.args.indexed.listed pre.1 found.0, pre.2)

pub returns : goal.returns
returns c =
    let moves = c.args.indexed in
    let found = rw c.unwrap-j.ensures at c.first_opening-2.ensures in
    pair_second moves.listed c.requires.ordered c.requires.ranks.0 c.requires.p_lt_n.0 c.requires.p_lt_n.1
    c.rank_at-depth.ensures
    c.if-depth-eq0.false c.in_default.ensures (λ l. omega (arith, l)) found.1 c.write_entry-2.ensures
