-- The first such step has the lowest action, for steps rise by action.
use Rattle.std.proofs.Common.{rules}
use Rattle.letters.specs.Laws.LastLetterLaws.{alone_found}
use Rattle.letters.proofs.letters.lowest_alone.Goals as goal

pub returns : goal.returns
returns c =
    alone_found c.args.p.0 c.args.q.0 c.requires.step_lists.stored _ _ _ (λ j a h. search rules) c.alone.ensures
    c.map.ensures.cases
