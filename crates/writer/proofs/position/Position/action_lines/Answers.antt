-- Behind the loop stand the lines of the first i actions, and each round writes one more. Assumes nothing.
use Rattle.std.proofs.Common.{◌<◌, ◌≡◌, ap, arith, rules, length}
use Rattle.model.specs.StoredModel.{head_at, listed, action_at, model_at}
use Rattle.model.specs.Text.{actions_text}
use Rattle.writer.specs.Laws.NameLaws.{actions-counted, name_of_stored}
use Rattle.writer.specs.Laws.WroteLaws.{wrote-nil, wrote-append}
use Rattle.writer.specs.Laws.WritingLaws.{action_text-length, actions_text_next, actions_text-room}
use Rattle.writer.proofs.position.Position.action_lines.Goals as goal

pub loop-i-init : goal.loop-i-init
unfolding listed actions_text
loop-i-init c = (search rules, wrote-nil)

pub action_line-at-requires : goal.action_line-at-requires
unfolding model_at
action_line-at-requires c =
    let i = c.loop-i.i in
    let store = c.args.store.now in
    let h : i < (head_at store).actions = omega (arith, c.actions-i-end.ensures, c.loop-i-test.true) in
    let l : i < length (model_at store).actions = omega (arith, h, actions-counted c.requires.writable) in
    let n = action_text-length (action_at store i) in
    let room = actions_text-room (action_at store) i (head_at store).actions h in
    record {
      writable = c.requires.writable;
      a_in_bounds = l;
      a_in_bounds_2 = omega (
        arith,
        c.requires.store_in_bounds,
        room,
        n,
        ap length
            (name_of_stored c.requires.writable i l),
      );
    }

pub loop-i-preserved : goal.loop-i-preserved
loop-i-preserved c =
    (search rules, rw (← actions_text_next) (wrote-append c.loop-i.invariant.1 c.action_line-at.ensures))

pub returns : goal.returns
unfolding model_at
returns c =
    let e : c.loop-i.i ≡ (head_at c.args.store.now).actions = omega (arith, c.actions-i-end.ensures) in
    rw (← e) c.loop-i.invariant.1
