-- What is written goes on with whatever word the two states reached have, which round `left` separates.
use mathlib.Core.Path.{refl, ap, ◌∙◌}
use native.Mathlib.Omega.{arith}
use lib.ListN.{length-set}
use Rattle.lts.proofs.AlikeLaws.{separated_pos}
use Rattle.text.specs.declared.State.{State}
use Rattle.text.specs.declared.Action.{Action}
use Rattle.model.specs.Laws.System.StoredLaws.{stored_action, stored_target}
use Rattle.letters.specs.Laws.WordHeadLaws.{pair_at, pair_lt, pair_next, head_none, head_next, head_end}
use Rattle.letters.proofs.word.fill_word.Goals as goal

pub loop-left-init : goal.loop-left-init
loop-left-init c =
    let pair = c.requires.separated_pair.0 in
    (separated_pos _ _ _ _ pair.separated, omega arith, refl, pair, head_none _)

pub first_letter-letter-requires : goal.first_letter-letter-requires
first_letter-letter-requires c =
    let inv = c.loop-left.invariant in
    let l = c.loop-left-test.true in
    record {
      word_lists = c.requires.word_lists;
      k_nonzero = (omega (arith, l), pair_at (omega (arith, l)) inv.3);
    }

pub action-a-requires : goal.action-a-requires
action-a-requires c =
    let st = c.requires.word_lists.step_lists.stored in
    (st.length_le, omega (arith, st.steps_le, c.first_letter-letter.ensures.number_lt))

pub bounds-word-at : goal.bounds-word-at
bounds-word-at c =
    let inv = c.loop-left.invariant in
    let st = c.requires.word_lists.step_lists.stored in
    omega (
      arith,
      inv.0,
      inv.1,
      inv.2,
      pair_lt st c.requires.separated_pair.0,
      st.states_le,
      c.requires.separated_pair.1,
    )

pub target-from-requires : goal.target-from-requires
target-from-requires c =
    let st = c.requires.word_lists.step_lists.stored in
    (st.length_le, omega (arith, st.steps_le, c.first_letter-letter.ensures.number_lt))

pub target-to-requires : goal.target-to-requires
target-to-requires c =
    let st = c.requires.word_lists.step_lists.stored in
    (st.length_le, omega (arith, st.steps_le, c.first_letter-letter.ensures.answer.step_of.number_lt))

pub overflow_add-at : goal.overflow_add-at
overflow_add-at c =
    let inv = c.loop-left.invariant in
    let st = c.requires.word_lists.step_lists.stored in
    omega (arith, inv.1, pair_lt st c.requires.separated_pair.0, st.states_le)

pub loop-left-smaller : goal.loop-left-smaller
loop-left-smaller c = omega (arith, c.loop-left-test.true)

pub loop-left-preserved : goal.loop-left-preserved
loop-left-preserved c =
    let inv = c.loop-left.invariant in
    let l = c.loop-left-test.true in
    let st = c.requires.word_lists.step_lists.stored in
    let d = ap (λ (x : Action). x.0) c.action-a.ensures ∙ stored_action st _ c.first_letter-letter.ensures.number_lt in
    let e = ap (λ (x : State). x.0) c.target-from.ensures ∙ stored_target st _
    c.first_letter-letter.ensures.number_lt in
    let f = ap (λ (x : State). x.0) c.target-to.ensures
    ∙ stored_target st _ c.first_letter-letter.ensures.answer.step_of.number_lt in (
      omega (arith, l),
      omega (arith, l, inv.1),
      simp length-set inv.2,
      pair_next c.first_letter-letter.ensures inv.3 e f,
      head_next st (omega (arith, l)) (omega (arith, l)) inv.3 c.first_letter-letter.ensures d e f
          (omega (
            arith,
            inv.0,
            inv.1,
            pair_lt st c.requires.separated_pair.0,
            st.states_le,
            c.requires.separated_pair.1,
          )) inv.4,
    )

pub last_letter-last-requires : goal.last_letter-last-requires
last_letter-last-requires c =
    let inv = c.loop-left.invariant in
    record {
      step_lists = c.requires.word_lists.step_lists;
      separated_pair = pair_at (omega (arith, inv.0, c.loop-left-test.false)) inv.3;
    }

pub bounds-word-at-2 : goal.bounds-word-at-2
bounds-word-at-2 c =
    let inv = c.loop-left.invariant in
    let st = c.requires.word_lists.step_lists.stored in
    omega (
      arith,
      inv.0,
      inv.1,
      inv.2,
      pair_lt st c.requires.separated_pair.0,
      st.states_le,
      c.requires.separated_pair.1,
    )

pub shape_of-word : goal.shape_of-word
shape_of-word c = let inv = c.loop-left.invariant in simp length-set inv.2

pub returns : goal.returns
returns c =
    let inv = c.loop-left.invariant in
    let st = c.requires.word_lists.step_lists.stored in
    head_end (omega (arith, inv.0, inv.1, c.loop-left-test.false))
    (omega (arith, inv.0, inv.1, pair_lt st c.requires.separated_pair.0, st.states_le, c.requires.separated_pair.1))
    c.last_letter-last.ensures inv.4
