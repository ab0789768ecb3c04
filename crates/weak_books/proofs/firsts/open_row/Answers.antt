-- The entries before the next pair of the row are written.
use Rattle.std.proofs.Common.{arith}
use Rattle.weak_books.specs.Laws.FirstsLaws.{least_of_none, members_left_start, none_at_start, member_after}
use Rattle.weak_books.specs.Laws.FirstsLaws.{members_left_next, none_after_member, no_member_between}
use Rattle.weak_books.specs.Laws.FirstsLaws.{label_opened_none, label_opened_next}
use Rattle.weak_books.proofs.firsts.open_row.Goals as goal

pub loop-q-init : goal.loop-q-init
loop-q-init c =
    rw c.into_iter-q-iterator.ensures (λ q least. (
      members_left_start c.set_at-q-items.ensures,
      label_opened_none _
          (no_member_between least.least_le (none_at_start c.set_at-q-items.ensures least)),
    ))

pub open_pair-requires : goal.open_pair-requires
open_pair-requires c =
    record {
      p_lt_state_limit = (
        c.requires.p_lt_state_limit.0,
        c.in-Some.ensures.steps.taken.member_lt,
        omega (arith, c.loop-q.auto.book, c.requires.p_lt_state_limit.1),
      );
      irreflexive = c.requires.irreflexive;
    }

pub loop-q-preserved : goal.loop-q-preserved
loop-q-preserved c r least =
    let next = c.in-Some.ensures.steps in
    let inv = c.loop-q.invariant _ next.least in
    let l = next.taken.member_lt in (
      members_left_next inv.0 next.least l next.left least,
      label_opened_next (inv.0.left_in _ next.taken) inv.1 c.open_pair.ensures
          (member_after inv.0 next.least l next.left least) least.least_le
          (none_after_member inv.0 next.least l next.left least),
    )

pub returns : goal.returns
returns c = (c.loop-q.invariant _ (least_of_none c.in-None.ensures.steps.none)).1
