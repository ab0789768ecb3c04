-- The entries of p and the members that are not left are written.
use Rattle.std.proofs.Common.{◌<◌, refl, arith}
use Rattle.lts.proofs.TestsLaws.{eq_or_not, both_or_not}
use Rattle.text.specs.Limits.{state_limit}
use Rattle.weak_books.specs.Inner.Entering.{Beside}
use Rattle.weak_books.specs.Laws.EnteringLaws.{entered_pair, done_start, done_next, done_end}
use Rattle.weak_books.specs.Laws.EnteringLaws.{pair_beside}
use Rattle.weak_books.specs.Laws.FirstsLaws.{least_of_none}
use Rattle.held.specs.Laws.ListedLaws.{held_list}
use Rattle.weak_books.proofs.entering.enter_beside.Goals as goal
use Rattle.weak_books.proofs.entering.enter_beside.Goals.{Else-p-q}

-- What is visited is below p.
visited : (c : Else-p-q) → Beside c.args.p.0 c.args.others c.args.p.0 c.in-Some.q
visited c = record {
  first_is = refl;
  lower = c.if-p-q.false;
  other = c.loop-q.invariant.0 c.in-Some.q c.in-Some.ensures.steps.taken;
}

pub loop-q-init : goal.loop-q-init
loop-q-init c = rw c.into_iter-q-iterator.ensures ((λ x i. i), done_start _ (λ x y b. b.other))

pub returns-then-p-q : goal.returns-then-p-q
returns-then-p-q c =
    done_end c.in-Some.ensures.steps.least (λ x y b. omega (arith, b.lower, c.if-p-q.true)) c.loop-q.invariant.1

pub enter_pair-requires : goal.enter_pair-requires
enter_pair-requires c =
    let b = visited (goal.at.enter_pair-requires c).Else-p-q in
    record {
      p_lt_n = (
        c.requires.p_lt_n.0,
        omega (arith, b.lower, c.requires.p_lt_n.0),
        omega (arith, c.loop-q.auto.book, c.requires.p_lt_n.1),
      );
      class_sets = c.requires.class_sets;
      not_answers = c.requires.by_index _ b.other;
      not_p_0 = λ e. omega (arith, e, b.lower);
    }

pub loop-q-preserved : goal.loop-q-preserved
loop-q-preserved c =
    let p = c.args.p.0 in
    let q = c.in-Some.q in
    let inv = c.loop-q.invariant in
    let b = visited (goal.at.loop-q-preserved c).Else-p-q in
    let rest = c.in-Some.ensures.steps.left in
    let lp : p < state_limit = omega (arith, c.requires.p_lt_n.0, (held_list c.args.moves).states_le) in (
      λ x i. inv.0 x (rest.only x i).0,
      done_next (λ x y. both_or_not (eq_or_not x p) (eq_or_not y q)) (pair_beside b) (λ x y h e. (h.first_is, e))
          rest inv.1
          (entered_pair lp b.other.member_lt c.enter_pair.ensures),
    )

pub returns : goal.returns
returns c =
    done_end (least_of_none c.in-None.ensures.steps.none)
    (λ x y b. omega (arith, b.lower, c.requires.p_lt_n.0, (held_list c.args.moves).states_le)) c.loop-q.invariant.1
