-- The verdict says whether there is a word to fill in, and the ranks between reachable states are those of low steps.
use mathlib.Core.Path.{ap, ◌∙◌}
use native.Mathlib.Omega.{arith}
use Rattle.text.specs.declared.State.{State}
use Rattle.model.specs.Laws.System.StoredLaws.{stored_source, stored_target}
use Rattle.letters.proofs.ShowAnswers.{showable→WordLists, leak_pair, judged_passed, judged-refused}
use Rattle.letters.proofs.ShowAnswers.{passed_done, shown_done}
use Rattle.letters.proofs.word.show_word.Goals as goal

pub source-p-requires : goal.source-p-requires
source-p-requires c =
    let pre = c.requires.showable in
    let st = pre.lists.stored in
    let r = judged-refused c.in-Refused.is pre.verdict in
    (st.length_le, omega (arith, st.steps_le, r.leak.high_step.number_lt))

pub target-q-requires : goal.target-q-requires
target-q-requires c =
    let pre = c.requires.showable in
    let st = pre.lists.stored in
    let r = judged-refused c.in-Refused.is pre.verdict in
    (st.length_le, omega (arith, st.steps_le, r.leak.high_step.number_lt))

pub fill_word-end-requires : goal.fill_word-end-requires
fill_word-end-requires c =
    let pre = c.requires.showable in
    let kind = c.requires.deterministic_model in
    let st = pre.lists.stored in
    let r = judged-refused c.in-Refused.is pre.verdict in
    let l = r.leak.high_step.number_lt in
    let e = ap (λ (x : State). x.0) c.source-p.ensures ∙ stored_source st _ l in
    let f = ap (λ (x : State). x.0) c.target-q.ensures ∙ stored_target st _ l in
    record {
      word_lists = showable→WordLists pre kind.1;
      separated_pair = (leak_pair st kind.0 kind.1 r.leak e f, pre.word-length);
    }

pub returns-in-Passed : goal.returns-in-Passed
returns-in-Passed c =
    let kind = c.requires.deterministic_model in
    passed_done kind.0 kind.1 _ (judged_passed c.in-Passed.is c.requires.showable.verdict)

pub returns-in-Refused : goal.returns-in-Refused
returns-in-Refused c =
    let pre = c.requires.showable in
    let kind = c.requires.deterministic_model in
    let st = pre.lists.stored in
    let r = judged-refused c.in-Refused.is pre.verdict in
    let l = r.leak.high_step.number_lt in
    let e = ap (λ (x : State). x.0) c.source-p.ensures ∙ stored_source st _ l in
    let f = ap (λ (x : State). x.0) c.target-q.ensures ∙ stored_target st _ l in
    shown_done kind.0 kind.1 _ r e f c.fill_word-end.ensures
