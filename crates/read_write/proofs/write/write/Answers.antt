-- Each refusal is a way of the promise; the text that is written fits.
use Rattle.std.proofs.Common.{arith}
use Rattle.std.proofs.lemmas.Result.{err_from_is_err_and}
use Rattle.writer.specs.Inner.Writable.{Writable}
use Rattle.writer.specs.Laws.WritableLaws.{text_le}
use Rattle.read_write.proofs.WriteAnswers.{short_store_promised, short_out_promised}
use Rattle.read_write.proofs.WriteAnswers.{not_good_promised, written_promised}
use Rattle.read_write.proofs.write.write.Goals as goal

pub returns-in_err-long_enough : goal.returns-in_err-long_enough
returns-in_err-long_enough c =
    let e = c.in_err-long_enough.ensures in
    let t = c.from_residual in
    let r = err_from_is_err_and t.result t.ensures.1 in
    rw (r.1, r.2, e.1) (short_store_promised _ _ e.0)

pub returns-in_err-long_enough-2 : goal.returns-in_err-long_enough-2
returns-in_err-long_enough-2 c =
    let a = c.in_ok-long_enough.ensures in
    let e = c.in_err-long_enough-2.ensures in
    let t = c.from_residual-in_err-long_enough-2 in
    let r = err_from_is_err_and t.result t.ensures.1 in
    rw (r.1, r.2, e.1) (short_out_promised _ _ a e.0)

pub returns-then-not-good : goal.returns-then-not-good
returns-then-not-good c =
    not_good_promised _ _ c.in_ok-long_enough.ensures c.in_ok-long_enough-2.ensures c.if-not-good.ensures

pub model-requires : goal.model-requires
model-requires c =
    let w : Writable c.args.store.now = record {
      long = c.in_ok-long_enough.ensures;
      good = c.if-not-good.ensures;
    } in
    record {
      writable = w;
      store_in_bounds = omega (arith, c.in_ok-long_enough-2.ensures, c.start.ensures, text_le c.args.store.now w);
    }

pub returns : goal.returns
returns c =
    let good = c.if-not-good.ensures in
    let a = c.in_ok-long_enough.ensures in
    let b = c.in_ok-long_enough-2.ensures in
    let text = rw c.start.ensures at c.model.ensures in
    written_promised c.args.store.now c.args.out.now _ _ (record { long = a; good = good }) b text
