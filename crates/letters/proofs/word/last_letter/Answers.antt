-- The lower of the two actions that one state has alone is the letter, or the only one.
use Rattle.std.proofs.Common.{◌≤◌, ◌<◌, rules, subst, arith, tests}
use Rattle.model.specs.StoredModel.{model_at}
use Rattle.model.specs.Laws.System.StepTestLaws.{reachable_state}
use Rattle.letters.specs.Inner.Letters.{FoundAlone}
use Rattle.letters.specs.Laws.LastLetterLaws.{source_letter_of_lowest, target_letter_of_lowest, alone_some}
use Rattle.letters.proofs.word.last_letter.Goals as goal

pub lowest_alone-here-requires-clause-p_bound : goal.lowest_alone-here-requires-clause-p_bound
lowest_alone-here-requires-clause-p_bound c =
    let st = c.requires.step_lists.stored in
    let pair = c.requires.separated_pair in
    (reachable_state st pair.first_reachable, reachable_state st pair.second_reachable)

pub lowest_alone-there-requires-clause-p_bound : goal.lowest_alone-there-requires-clause-p_bound
lowest_alone-there-requires-clause-p_bound c =
    let st = c.requires.step_lists.stored in
    let pair = c.requires.separated_pair in
    (reachable_state st pair.second_reachable, reachable_state st pair.first_reachable)

pub returns-then-lt : goal.returns-then-lt
returns-then-lt c =
    let Here = FoundAlone (model_at c.args.store.now) c.args.p.0 c.args.q.0 in
    let There = FoundAlone (model_at c.args.store.now) c.args.q.0 c.args.p.0 in
    let here = subst Here c.in-Some-Some.is-0 c.lowest_alone-here.ensures in
    let there = subst There c.in-Some-Some.is-1 c.lowest_alone-there.ensures in
    let l : c.in-Some-Some.b.0 < c.in-Some-Some.a.0 = search (rules, tests) in
    target_letter_of_lowest there (λ i x. omega (arith, l, here.lowest i x))

pub returns-else-lt : goal.returns-else-lt
returns-else-lt c =
    let Here = FoundAlone (model_at c.args.store.now) c.args.p.0 c.args.q.0 in
    let There = FoundAlone (model_at c.args.store.now) c.args.q.0 c.args.p.0 in
    let here = subst Here c.in-Some-Some.is-0 c.lowest_alone-here.ensures in
    let there = subst There c.in-Some-Some.is-1 c.lowest_alone-there.ensures in
    let l : c.in-Some-Some.a.0 ≤ c.in-Some-Some.b.0 = search (rules, tests) in
    source_letter_of_lowest here (λ i x. omega (arith, l, there.lowest i x))

pub returns-in-Some-None : goal.returns-in-Some-None
returns-in-Some-None c =
    let Here = FoundAlone (model_at c.args.store.now) c.args.p.0 c.args.q.0 in
    let There = FoundAlone (model_at c.args.store.now) c.args.q.0 c.args.p.0 in
    source_letter_of_lowest (subst Here c.in-Some-None.is-0 c.lowest_alone-here.ensures)
    (λ i x. absurd (subst There c.in-Some-None.is-1 c.lowest_alone-there.ensures i x))

pub returns-in-None-Some : goal.returns-in-None-Some
returns-in-None-Some c =
    let Here = FoundAlone (model_at c.args.store.now) c.args.p.0 c.args.q.0 in
    let There = FoundAlone (model_at c.args.store.now) c.args.q.0 c.args.p.0 in
    target_letter_of_lowest (subst There c.in-None-Some.is-1 c.lowest_alone-there.ensures)
    (λ i x. absurd (subst Here c.in-None-Some.is-0 c.lowest_alone-here.ensures i x))

pub unreachable-requires : goal.unreachable-requires
unreachable-requires c =
    let Here = FoundAlone (model_at c.args.store.now) c.args.p.0 c.args.q.0 in
    let There = FoundAlone (model_at c.args.store.now) c.args.q.0 c.args.p.0 in
    alone_some c.requires.step_lists.stored c.requires.separated_pair
    (subst Here c.in-None-None.is-0 c.lowest_alone-here.ensures) (subst There c.in-None-None.is-1 c.lowest_alone-there.ensures)
