-- A name that fits stands behind a blank; one that does not begins a next line. Assumes nothing.
use Rattle.std.proofs.Common.{◌∙◌, arith}
use Rattle.writer.specs.Laws.NameLaws.{action_limit_lt, name_length_le, name_length_stored}
use Rattle.writer.specs.Laws.WroteLaws.{wrote-length}
use Rattle.columns.specs.Laws.FillingLaws.{ended_place, filled_fits, filled_next}
use Rattle.columns.proofs.line.RollLine.name.Goals as goal

pub name_length-name_length-requires : goal.name_length-name_length-requires
name_length-name_length-requires c =
    (c.requires.writable.long, action_limit_lt c.requires.writable c.args.a.0 c.requires.a_in_bounds)

pub indented-requires : goal.indented-requires
indented-requires c =
    let room = c.requires.name_room in
    let n = c.name_length-name_length.ensures ∙ name_length_stored c.requires.writable c.args.a.0
    c.requires.a_in_bounds in
    record {
      writable = c.requires.writable;
      a_in_bounds = c.requires.a_in_bounds;
      a_in_bounds_2 = omega (arith, n, room.begin_le, room.line_lt, c.if-used-name_length-le-WIDTH.true);
    }

pub returns-then-used-name_length-le-WIDTH : goal.returns-then-used-name_length-le-WIDTH
returns-then-used-name_length-le-WIDTH c =
    let n = c.name_length-name_length.ensures ∙ name_length_stored c.requires.writable c.args.a.0
    c.requires.a_in_bounds in
    filled_fits (name_length_le c.requires.writable c.args.a.0 c.requires.a_in_bounds)
    (omega (arith, n, c.if-used-name_length-le-WIDTH.true))
    c.indented.ensures.1 c.indented.ensures.0

pub indented-requires-2 : goal.indented-requires-2
indented-requires-2 c =
    let room = c.requires.name_room in
    let n = c.name_length-name_length.ensures ∙ name_length_stored c.requires.writable c.args.a.0
    c.requires.a_in_bounds in
    let l = name_length_le c.requires.writable c.args.a.0 c.requires.a_in_bounds in
    let place = ended_place room.begin_le room.at_le c.end.ensures in
    let next = room.next_lt (omega (arith, n, c.if-used-name_length-le-WIDTH.false)) in record {
      writable = c.requires.writable;
      a_in_bounds = c.requires.a_in_bounds;
      a_in_bounds_2 = omega (arith, place, c.start.ensures.0, next, l, wrote-length c.end.ensures);
    }

pub returns : goal.returns
returns c =
    let n = c.name_length-name_length.ensures ∙ name_length_stored c.requires.writable c.args.a.0
    c.requires.a_in_bounds in
    filled_next (name_length_le c.requires.writable c.args.a.0 c.requires.a_in_bounds)
    (omega (arith, n, c.if-used-name_length-le-WIDTH.false))
    c.end.ensures c.start.ensures c.indented-2.ensures.1 c.indented-2.ensures.0
