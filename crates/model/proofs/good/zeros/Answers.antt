-- The test of a number decides whether it is 0.
use Rattle.std.proofs.Common.{rules, arith, ◌≡◌, tests}
use Rattle.model.proofs.Laws.Store.EachAllLaws.{all_of_part}
use Rattle.model.proofs.good.zeros.Goals as goal

pub returns : goal.returns
returns c =
    all_of_part (λ x. x ≡ 0) _ c.args.from c.args.to _ _ (omega arith) (cc) c.all.ensures.ran
    (λ x q k. search (rules, tests)) (λ x q k. search (rules, tests))
