-- The entries of the states below p are written.
use Rattle.std.proofs.Common.{arith}
use Rattle.weak_books.specs.Laws.FirstsLaws.{label_opened_none, label_opened_to, label_opened_then}
use Rattle.weak_books.proofs.firsts.open_rows.Goals as goal

pub loop-p-init : goal.loop-p-init
loop-p-init c = (omega arith, label_opened_none _ (λ u v m l h. omega (arith, l, h)))

pub open_row-requires : goal.open_row-requires
open_row-requires c =
    record {
      p_lt_state_limit = (
        omega (arith, c.requires.n_le_state_limit.0, c.loop-p-test.true),
        omega (arith, c.loop-p.invariant.1.past.same_length, c.requires.n_le_state_limit.1),
      );
      irreflexive = c.requires.irreflexive;
    }

pub loop-p-preserved : goal.loop-p-preserved
loop-p-preserved c =
    let inv = c.loop-p.invariant in (
      omega (arith, c.loop-p-test.true),
      label_opened_to (omega arith)
          (label_opened_then (omega arith) (omega arith) inv.1 c.open_row.ensures),
    )

pub shape_of-book : goal.shape_of-book
shape_of-book c = c.loop-p.invariant.1.past.same_length

pub returns : goal.returns
returns c = let inv = c.loop-p.invariant in label_opened_to (omega (arith, inv.0, c.loop-p-test.false)) inv.1
