-- The names of the first j steps are filled in behind the columns, whatever those are; at the end these are all names,
-- and the last line is ended. Assumes nothing.
use Rattle.std.proofs.Common.{[], ◌≡◌, refl, sym, ap, ◌∙◌, ◌+◌, arith, get_or, rules}
use Rattle.model.specs.StoredModel.{model_at}
use Rattle.model.specs.Laws.System.IndexLaws.{begins_at}
use Rattle.letters.specs.Laws.LettersLaws.{own_of_index}
use Rattle.columns.specs.Inner.Entries.{distance_of}
use Rattle.columns.specs.Inner.Filling.{low_names_to, Filling}
use Rattle.columns.specs.LowNames.{low_names}
use Rattle.columns.specs.StateRows.{state_columns}
use Rattle.columns.specs.Laws.ColumnsLaws.{list_fits, columns_short}
use Rattle.columns.specs.Laws.FillingLaws.{filling-start, filling_room, filling_end_room, filling_end, rows-room}
use Rattle.columns.specs.Laws.FillingLaws.{filled-nil, filled-append}
use Rattle.columns.specs.Laws.LowNamesLaws.{steps_begin_le, low_names_begin, low_names_end, low_names_next}
use Rattle.columns.specs.Laws.LowNamesLaws.{low_names_split}
use Rattle.columns.specs.Laws.RowsLaws.{state_columns_length}
use Rattle.columns.proofs.states.state_rows.Goals as goal
use Rattle.columns.proofs.states.state_rows.Goals.{After-loop-j, At-loop-j}

-- what is filled in where the loop stands
filling_at : (c : At-loop-j)
    → Filling (state_columns c.args.p.0 (distance_of c.args.distances.now c.args.p.0) c.args.class.0)
    (low_names_to (model_at c.args.store.now) c.args.p.0 c.loop-j.j) c.args.out.now c.args.at.at
    c.loop-j.out c.loop-j.row
filling_at c =
    let fits = list_fits c.requires.step_lists.stored c.requires.distances_length_in_bounds c.requires.p_bound.0 in
    let n = state_columns_length _ _ _ (columns_short fits c.requires.p_bound.1) in
    c.loop-j.invariant.1.filling _ [] _ _
    (filling-start (omega (arith, n)) c.start.ensures c.columns-row.ensures.0 c.columns-row.ensures.1)

-- when it ends, these are all names
all_names : (c : After-loop-j)
    → low_names (model_at c.args.store.now) c.args.p.0
    ≡ low_names_to (model_at c.args.store.now) c.args.p.0 c.loop-j.j
all_names c =
    let le = steps_begin_le c.requires.writable c.requires.step_lists c.requires.p_bound.0 in
    let j : get_or c.args.begins.now (c.args.p.0 + 1) 0 ≡ c.loop-j.j =
    omega (arith, c.loop-j.auto.j-end le, c.loop-j-test.false) in
    sym (low_names_end c.requires.writable c.requires.step_lists c.requires.p_bound.0)
    ∙ ap (low_names_to (model_at c.args.store.now) c.args.p.0) j

pub columns-row-requires : goal.columns-row-requires
columns-row-requires c =
    let room = rows-room _ _ c.args.at.at c.requires.class_in_bounds in record {
      distance_fits = list_fits c.requires.step_lists.stored c.requires.distances_length_in_bounds c.requires.p_bound.0;
      class_le_p = (c.requires.p_bound.1, omega (arith, room, c.start.ensures.0));
    }

pub loop-j-init : goal.loop-j-init
loop-j-init c =
    let l = c.requires.p_bound.0 in (
      refl,
      rw (low_names_begin c.requires.writable c.requires.step_lists l) filled-nil,
    )

pub step_name-row-requires : goal.step_name-row-requires
step_name-row-requires c =
    let inv = c.loop-j.invariant in
    let k = c.loop-j-test.true in
    let L = c.requires.step_lists in
    let l = c.requires.p_bound.0 in
    let own = own_of_index L.index l c.loop-j.j c.loop-j.auto.j k in
    let b = L.index.at c.args.p.0 (omega (arith, l)) in record {
      writable = (c.requires.writable, L.stored);
      roles_of = L.roles_of;
      step_from = record { from_le = c.loop-j.auto.j; number_lt = own.0; begins = begins_at (sym own.1) b };
      name_room = λ x.
          let split = low_names_split c.requires.writable L l c.loop-j.j c.loop-j.auto.j k x in
          filling_room (filling_at (goal.at.step_name-row-requires c).At-loop-j) _ split.0 split.1
          c.requires.class_in_bounds;
    }

pub loop-j-preserved : goal.loop-j-preserved
loop-j-preserved c =
    let inv = c.loop-j.invariant in
    let k = c.loop-j-test.true in
    let l = c.requires.p_bound.0 in
    let next = low_names_next c.requires.writable c.requires.step_lists l c.loop-j.j c.loop-j.auto.j k in (
      search rules,
      rw next (filled-append inv.1 c.step_name-row.ensures),
    )

pub end-requires : goal.end-requires
end-requires c =
    let room = filling_end_room (filling_at (goal.at.end-requires c).At-loop-j)
    (all_names (goal.at.end-requires c).After-loop-j) c.requires.class_in_bounds in
    record {
      begin_le_at = (room.0, room.1);
      roll_width_in_bounds = room.2;
    }

pub returns : goal.returns
returns c =
    filling_end (filling_at (goal.at.returns c).At-loop-j) (all_names (goal.at.returns c).After-loop-j) c.end.ensures
