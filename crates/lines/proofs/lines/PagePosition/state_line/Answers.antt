-- On a page a text and its end, on the roll the state's columns and names. Assumes nothing.
use Rattle.std.proofs.Common.{ap, arith, length}
use Rattle.model.specs.StoredModel.{model_at}
use Rattle.writer.specs.Laws.WroteLaws.{wrote-append, wrote-length}
use Rattle.lines.specs.PageLines.{state_line}
use Rattle.lines.specs.Inner.Entries.{distance_of}
use Rattle.lines.specs.Laws.FormLaws.{form_bytes_page, form_bytes_roll}
use Rattle.lines.specs.Laws.PageLinesLaws.{line_bytes-length}
use Rattle.lines.proofs.lines.PagePosition.state_line.Goals as goal

pub state_text-requires : goal.state_text-requires
state_text-requires c =
    let m = model_at c.args.store.now in
    let p = c.args.p.0 in
    let line = state_line p (distance_of c.args.distances.now p) c.args.class.0 in
    let e = ap length (form_bytes_page m line c.in-Page.is) in record {
      p_lt_distances_length = (
        omega (arith, c.requires.p_bound.0, c.requires.step_lists.stored.states_le),
        c.requires.distances_length_in_bounds.0,
      );
      class_in_bounds = omega (arith, e, line_bytes-length line, c.requires.class_in_bounds);
    }

pub line_end-requires : goal.line_end-requires
line_end-requires c =
    let m = model_at c.args.store.now in
    let p = c.args.p.0 in
    let line = state_line p (distance_of c.args.distances.now p) c.args.class.0 in
    let e = ap length (form_bytes_page m line c.in-Page.is) in
    omega (
      arith,
      e,
      line_bytes-length line,
      c.requires.class_in_bounds,
      c.state_text.ensures.place,
      wrote-length
          c.state_text.ensures,
    )

pub state_rows-requires : goal.state_rows-requires
state_rows-requires c =
    let p = c.args.p.0 in
    let m = model_at c.args.store.now in
    let distance = distance_of c.args.distances.now p in
    record {
      writable = c.requires.writable;
      step_lists = c.requires.step_lists;
      distances_length_in_bounds = c.requires.distances_length_in_bounds;
      p_bound = c.requires.p_bound;
      class_in_bounds = rw (form_bytes_roll m p distance c.args.class.0 c.in-Roll.is) at c.requires.class_in_bounds;
    }

pub returns-in-Page : goal.returns-in-Page
returns-in-Page c =
    rw (form_bytes_page _ _ c.in-Page.is)
    (wrote-append c.state_text.ensures c.line_end.ensures)

pub returns-in-Roll : goal.returns-in-Roll
returns-in-Roll c =
    rw (form_bytes_roll _ _ _ _ c.in-Roll.is) c.state_rows.ensures
