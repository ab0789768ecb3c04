-- The local store holds the model where the lines are good, and its copy is what the promise asks; else nothing is
-- stored.
use Rattle.std.proofs.Common.{◌∙◌}
use Rattle.std.proofs.lemmas.Result.{err_from_is_err_and}
use Rattle.model.specs.Laws.Store.PutLaws.{store_of-head}
use Rattle.reader.specs.Inner.ReadSoFar.{Through}
use Rattle.reader.specs.Laws.ReadLaws.{after-head}
use Rattle.reader.specs.Laws.TextReadLaws.{read_out-done, read_out_faulty}
use Rattle.reader.proofs.body.model.Goals as goal

pub lines-requires : goal.lines-requires
lines-requires c =
    rw (c.put_head.ensures ∙ store_of-head _) (after-head _ _ _ c.requires.0)

pub returns-in_err-lines : goal.returns-in_err-lines
unfolding Through
returns-in_err-lines c =
    let p = err_from_is_err_and c.from_residual.result c.from_residual.ensures.1 in
    rw (p.1, p.2) (read_out_faulty _ _ _ c.in_err-lines.ensures)

pub returns : goal.returns
unfolding Through
returns c =
    let kept = c.lines.auto.out ∙ c.put_head.auto.out in
    read_out-done _ _ _ _ c.in_ok-lines.ensures kept c.copy.ensures
