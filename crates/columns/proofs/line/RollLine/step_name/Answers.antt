-- A step that is no first one of a low action adds nothing; the others add the name of their action. Assumes nothing.
use Rattle.std.proofs.Common.{ap, ◌∙◌, arith}
use Rattle.text.specs.declared.Action.{Action}
use Rattle.text.specs.Laws.DecidesLaws.{decides_true, decides_false}
use Rattle.model.specs.StoredModel.{model_at}
use Rattle.model.specs.Laws.System.StoredLaws.{stored_action}
use Rattle.columns.specs.Laws.FillingLaws.{filled-nil}
use Rattle.columns.specs.Laws.FirstLowLaws.{name_added_first, name_added_none}
use Rattle.writer.specs.Laws.NameLaws.{actions-counted}
use Rattle.columns.proofs.line.RollLine.step_name.Goals as goal

pub returns-else-first_of_low : goal.returns-else-first_of_low
returns-else-first_of_low c =
    let none = decides_false c.first_of_low.result _ c.first_of_low.ensures c.if-first_of_low.false in
    rw (name_added_none (model_at c.args.store.now) none) filled-nil

pub name-requires : goal.name-requires
name-requires c =
    let m = model_at c.args.store.now in
    let st = c.requires.writable.1 in
    let step = c.requires.step_from in
    let e = ap (λ (x : Action). x.0) c.action.ensures ∙ stored_action st _ step.number_lt in
    let x = decides_true c.first_of_low.result _ c.first_of_low.ensures c.if-first_of_low.true in record {
      writable = c.requires.writable.0;
      a_in_bounds = omega (arith, e, st.action_lt _ step.number_lt, actions-counted c.requires.writable.0);
      name_room = rw e (c.requires.name_room x);
    }

pub returns-then-first_of_low : goal.returns-then-first_of_low
returns-then-first_of_low c =
    let st = c.requires.writable.1 in
    let step = c.requires.step_from in
    let e = ap (λ (x : Action). x.0) c.action.ensures ∙ stored_action st _ step.number_lt in
    let x = decides_true c.first_of_low.result _ c.first_of_low.ensures c.if-first_of_low.true in
    rw (name_added_first (model_at c.args.store.now) x) (rw e at c.name.ensures)
