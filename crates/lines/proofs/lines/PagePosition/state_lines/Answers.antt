-- Behind the loop stand the lines of the states below p, and each round writes one more. Assumes nothing.
use Rattle.std.proofs.Common.{refl, ◌<◌, arith, rules}
use Rattle.model.specs.StoredModel.{model_at}
use Rattle.model.specs.Laws.System.StoredLaws.{stored_states}
use Rattle.writer.specs.Laws.NameLaws.{name_length_le}
use Rattle.lines.specs.Page.{no_state}
use Rattle.lines.specs.Inner.Room.{state_room}
use Rattle.lines.specs.Laws.LinesWrittenLaws.{written_nil, written_rest}
use Rattle.lines.specs.Laws.RoomLaws.{states_room_lt}
use Rattle.lines.specs.Laws.StateLinesLaws.{distance_field, diagonal_zero, class_of_zero, state_length_le}
use Rattle.lines.specs.Laws.StateLinesLaws.{state_lines_next}
use Rattle.lines.proofs.lines.PagePosition.state_lines.Goals as goal

pub loop-p-init : goal.loop-p-init
loop-p-init c =
    (refl, written_nil no_state)

pub class_of-class-requires : goal.class_of-class-requires
class_of-class-requires c =
    let L = c.requires.model_lists in
    let l : c.loop-p.p < (model_at c.args.store.now).head.states =
    omega (arith, c.states-p-end.ensures, stored_states c.requires.step_lists.stored, c.loop-p-test.true) in
    record {
      p_lt_state_limit = (omega (arith, l, L.stored.states_le), L.table_length_is);
      p_value = diagonal_zero L c.loop-p.p l;
    }

pub state_line-page-requires : goal.state_line-page-requires
state_line-page-requires c =
    let L = c.requires.model_lists in
    let m = model_at c.args.store.now in
    let form = c.args.form in
    let l : c.loop-p.p < m.head.states =
    omega (arith, c.states-p-end.ensures, stored_states L.stored, c.loop-p-test.true) in
    let distance = distance_field L c.loop-p.p l in
    let fits = state_length_le L c.loop-p.p _ c.class_of-class.result.0 l distance c.class_of-class.ensures.le form
    (name_length_le c.requires.writable) in
    let room = written_rest (state_room form m c.loop-p.p)
    (omega (arith, states_room_lt form m c.loop-p.p m.head.states l, c.requires.store_in_bounds))
    c.loop-p.invariant.1 in record {
      writable = c.requires.writable;
      step_lists = c.requires.step_lists;
      distances_length_in_bounds = (L.distances_length_is, L.distances_are);
      p_bound = (l, c.class_of-class.ensures.le);
      class_in_bounds = omega (arith, fits, room);
    }

pub loop-p-preserved : goal.loop-p-preserved
loop-p-preserved c =
    let L = c.requires.model_lists in
    let l : c.loop-p.p < (model_at c.args.store.now).head.states =
    omega (arith, c.states-p-end.ensures, stored_states L.stored, c.loop-p-test.true) in
    let distance = distance_field L c.loop-p.p l in (
      search rules,
      state_lines_next c.loop-p.invariant.1 distance (class_of_zero L c.loop-p.p c.class_of-class.result.0 l
          c.class_of-class.ensures)
          (state_length_le L c.loop-p.p _ c.class_of-class.result.0 l distance c.class_of-class.ensures.le c.args.form
          (name_length_le c.requires.writable)) c.state_line-page.ensures,
    )
