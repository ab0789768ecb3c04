-- By cases on the first line.
use Rattle.std.proofs.Common.{◌≡◌, rules}
use Rattle.std.proofs.lemmas.Result.{err_from_is_err_and}
use Rattle.reader.specs.Laws.FaultLaws.{err_of_map, ok_of_map}
use Rattle.reader.specs.Laws.TextReadLaws.{after_first_bad, after_first_good, read_out_faulty}
use Rattle.reader.proofs.body.body.Goals as goal

pub returns-in_err-head : goal.returns-in_err-head
returns-in_err-head c =
    let p = err_from_is_err_and c.from_residual.result c.from_residual.ensures.1 in
    let m = err_of_map _ _ _ c.map_err.ensures.cases c.in_err-head.was in
    let same : c.in_err-head.field-0.0 ≡ record { fault = m.0; line = 1 } = search (rules, m.2) in
    rw (p.1, p.2, same) (read_out_faulty _ _ _ (after_first_bad _ _ _ _ m.1 c.requires.0))

pub model-requires : goal.model-requires
model-requires c =
    (after_first_good _ _ _ _ (ok_of_map _ _ _ c.map_err.ensures.cases c.in_ok-head.was) c.requires.0, c.requires.1)
