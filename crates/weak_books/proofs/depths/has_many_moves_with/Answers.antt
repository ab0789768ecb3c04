-- No state before p has many moves.
use Rattle.std.proofs.Common.{subst, ℕ, arith, below_more}
use Rattle.sets.specs.Inner.SetValues.{SetOf}
use Rattle.held.specs.Held.{target_row, HeldAt}
use Rattle.weak_books.specs.Inner.ManyMoves.{Many}
use Rattle.weak_books.specs.Laws.ManyMovesLaws.{many_not}
use Rattle.weak_books.proofs.depths.has_many_moves_with.Goals as goal
use Rattle.weak_books.proofs.depths.has_many_moves_with.Goals.{After-held}

-- The targets of the moves of p with the label.
targets : (c : After-held)
    → SetOf (HeldAt c.args.moves.slots.now
    c.args.moves.pool.now (target_row c.args.a)
    c.loop-p.p) c.held.result
targets c =
    let a = c.args in
    subst (λ (row : ℕ). SetOf (HeldAt a.moves.slots.now a.moves.pool.now row c.loop-p.p) c.held.result)
    c.target_row-row.ensures.0 c.held.ensures

pub loop-p-init : goal.loop-p-init
loop-p-init c = (omega arith, λ x l. absurd (omega (arith, l)))

pub returns-then-size-gt-FEW_ANSWERS : goal.returns-then-size-gt-FEW_ANSWERS
returns-then-size-gt-FEW_ANSWERS c =
    record {
      state = c.loop-p.p;
      state_lt = c.loop-p-test.true;
      many = record {
        numbers = c.held.result;
        set_of = targets (goal.at.returns-then-size-gt-FEW_ANSWERS c).After-held;
        first_lt = omega arith;
        second_lt = omega arith;
        more = omega (arith, c.if-size-gt-FEW_ANSWERS.true, c.size.ensures);
      };
    }

pub loop-p-preserved : goal.loop-p-preserved
loop-p-preserved c =
    let a = c.args in (
      omega (arith, c.loop-p-test.true),
      below_more (λ x. ¬ (Many (HeldAt a.moves.slots.now a.moves.pool.now (target_row a.a) x))) c.loop-p.p
          c.loop-p.invariant.1 (many_not (targets (goal.at.loop-p-preserved c).After-held) (omega arith) (omega arith)
          (λ l. omega (arith, l, c.if-size-gt-FEW_ANSWERS.false, c.size.ensures))),
    )

pub returns : goal.returns
returns c w =
    c.loop-p.invariant.1 w.state (omega (arith, w.state_lt, c.loop-p-test.false)) w.many
