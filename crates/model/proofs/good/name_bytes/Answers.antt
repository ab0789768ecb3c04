-- The test of a number decides whether it is a byte of a name.
use Rattle.std.proofs.Common.{rules, arith, T, tests}
use Rattle.text.specs.Lines.{name_byte?}
use Rattle.model.proofs.Laws.Store.EachAllLaws.{all_of_part}
use Rattle.model.proofs.good.name_bytes.Goals as goal

pub returns : goal.returns
returns c =
    all_of_part (λ x. T (name_byte? x)) _ c.args.from c.args.to _ _ (omega arith) (cc) c.all.ensures.ran
    (λ x q k. search (rules, tests)) (λ x q k. search (rules, tests))
