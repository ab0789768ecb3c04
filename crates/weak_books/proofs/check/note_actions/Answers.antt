-- The entries before entry k have labels, which are noted.
use Rattle.std.proofs.Common.{arith}
use Rattle.weak_books.specs.Laws.NotedLaws.{used_to_zero, used_to_kept, used_to_le, used_to_add_one}
use Rattle.weak_books.proofs.check.note_actions.Goals as goal

pub loop-k-init : goal.loop-k-init
loop-k-init c = (omega arith, used_to_zero)

pub returns-then-note_action : goal.returns-then-note_action
returns-then-note_action c =
    let no_label = c.if-note_action.ensures.decides in
    record {
      number_le = omega arith;
      used_to = used_to_kept c.note_action.ensures.action_noted c.loop-k.invariant.1;
      bad = λ _. no_label;
    }

pub loop-k-preserved : goal.loop-k-preserved
loop-k-preserved c =
    let label = c.if-note_action.ensures.decides in
    (omega arith, used_to_add_one label c.note_action.ensures.action_noted c.loop-k.invariant.1)

pub returns : goal.returns
returns c =
    let inv = c.loop-k.invariant in
    record {
      number_le = omega arith;
      used_to = used_to_le c.loop-k-test.false inv.1;
      bad = λ l. absurd (omega (arith, l));
    }
