-- Line 1, the actions, the extra starts, the steps and the end, each from where the last one ended. Assumes nothing.
use Rattle.std.proofs.Common.{arith, ap, length, length-append}
use Rattle.text.specs.declared.Head.{Head}
use Rattle.model.specs.StoredModel.{model_at}
use Rattle.model.specs.Text.{head_text, model_text}
use Rattle.writer.specs.Laws.WroteLaws.{wrote-append, wrote-length}
use Rattle.writer.specs.Laws.WritingLaws.{model_text-length}
use Rattle.writer.proofs.position.Position.model.Goals as goal

pub head_line-requires : goal.head_line-requires
unfolding model_at
head_line-requires c =
    rw c.head.ensures (omega (arith, c.requires.store_in_bounds, model_text-length (model_at c.args.store.now)))

pub action_lines-requires : goal.action_lines-requires
unfolding model_at
action_lines-requires c =
    let e = ap (λ (h : Head). length (head_text h)) c.head.ensures in
    record {
      writable = c.requires.writable;
      store_in_bounds = omega (arith, c.requires.store_in_bounds, model_text-length (model_at c.args.store.now));
    }

pub start_lines-requires : goal.start_lines-requires
unfolding model_at
start_lines-requires c =
    let e = ap (λ (h : Head). length (head_text h)) c.head.ensures in
    record {
      writable = c.requires.writable;
      store_in_bounds = omega (arith, c.requires.store_in_bounds, model_text-length (model_at c.args.store.now));
    }

pub step_lines-requires : goal.step_lines-requires
unfolding model_at
step_lines-requires c =
    let line = rw c.head.ensures at c.head_line.ensures in
    let w = wrote-append (wrote-append line c.action_lines.ensures) c.start_lines.ensures in
    let l = model_text-length (model_at c.args.store.now) in
    record {
      writable = c.requires.writable;
      store_in_bounds = omega (arith, c.requires.store_in_bounds, wrote-length w, l, simp length-append at w.place);
    }

pub text-requires : goal.text-requires
unfolding model_at
text-requires c =
    let line = rw c.head.ensures at c.head_line.ensures in
    let lines = wrote-append (wrote-append line c.action_lines.ensures) c.start_lines.ensures in
    let w = wrote-append lines c.step_lines.ensures in
    let l = model_text-length (model_at c.args.store.now) in
    omega (arith, c.requires.store_in_bounds, wrote-length w, l, simp length-append at w.place)

pub returns : goal.returns
unfolding model_text model_at
returns c =
    let line = rw c.head.ensures at c.head_line.ensures in
    let lines = wrote-append (wrote-append line c.action_lines.ensures) c.start_lines.ensures in
    wrote-append (wrote-append lines c.step_lines.ensures) c.text.ensures
