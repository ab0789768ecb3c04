-- None of the moves before place i can be answered only so.
use Rattle.std.proofs.Common.{◌+◌, ◌<◌, get_or, arith, below_more}
use Rattle.std.proofs.Math.Logic.{∥∥₁_elim}
use Rattle.std.proofs.Props.{props}
use Rattle.by_state.specs.Laws.MoveListLaws.{place_lt_last}
use Rattle.books.proofs.openings.first_opening.Goals as goal

pub moves_from-i-requires : goal.moves_from-i-requires
moves_from-i-requires c = omega (arith, c.requires.0, c.args.indexed.listed.states_le)

pub moves_to-i-end-requires : goal.moves_to-i-end-requires
moves_to-i-end-requires c = omega (arith, c.requires.0, c.args.indexed.listed.states_le)

pub answers_lower_ranks-requires : goal.answers_lower_ranks-requires
answers_lower_ranks-requires c =
    let L = c.args.indexed.listed in
    let i = c.loop-i.i in
    let k : i < get_or c.args.indexed.first.now (c.args.p.0 + 1) 0 =
    omega (arith, c.loop-i-test.true, c.moves_to-i-end.ensures) in
    let l = place_lt_last L c.requires.0 k in record {
      q_lt_state_limit = (
        omega (arith, c.requires.1, L.states_le),
        L.action_lt i l,
        omega (arith, L.target_lt i l, L.states_le),
      );
      table_length_in_bounds = c.requires.2;
    }

pub returns-then-answers_lower_ranks : goal.returns-then-answers_lower_ranks
returns-then-answers_lower_ranks c =
    let l : c.loop-i.i < get_or c.args.indexed.first.now (c.args.p.0 + 1) 0 =
    omega (arith, c.loop-i-test.true, c.moves_to-i-end.ensures) in (
      l,
      record {
        from_le = omega (arith, c.moves_from-i.ensures, c.loop-i.auto.i);
        to_le = omega (arith, l);
        none_before = λ j k l. c.loop-i.invariant j l (omega (arith, c.moves_from-i.ensures, k));
        opens = λ l u m. ∥∥₁_elim c.args.indexed.grouped (Prim.hlevel props)
            (λ k. c.if-answers_lower_ranks.ensures u (k.forth _ _ u m));
      },
    )

pub loop-i-preserved : goal.loop-i-preserved
loop-i-preserved c =
    below_more _ _ c.loop-i.invariant
    (λ l h. ∥∥₁_elim c.args.indexed.grouped (Prim.hlevel props)
    (λ k. c.if-answers_lower_ranks.ensures (λ u m. h u (k.back _ _ u m))))

pub returns : goal.returns
returns c =
    let rise = c.args.indexed.listed.rising c.args.p.0 c.requires.0 in
    record {
      from_le = rise;
      to_le = omega arith;
      none_before = λ j k l. c.loop-i.invariant j (omega (arith, l, c.loop-i-test.false, c.moves_to-i-end.ensures))
          (omega (arith, c.moves_from-i.ensures, k));
      opens = λ l. absurd (omega (arith, l));
    }
